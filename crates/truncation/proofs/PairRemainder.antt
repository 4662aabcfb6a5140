-- What the square of side P leaves of the two-variable kernel, and its derivative by x, for x and y in the disc of radius r: at most 2 rho^P and (2 P - 1) rho^P / r,
-- where rho = r / (1 - r). The order P is `suc p`.
use Rattle.exact_math.proofs.Common.{◌≡◌, sym, ap, subst, subst₂, ◌∙◌, ℕ, zero, suc, arith, ints, pos, quotes, combine, ring1, ring3, ring4, ring8, pow, pow-mul, ℚ, rational_ring, of_int, of_int-add, of_int-≤, ◌+ℚ◌, ◌*ℚ◌, ◌-ℚ◌, ◌≤ℚ◌, ≤ℚ-trans, *ℚ-nonneg, le_equal, mul_mono, nonneg_int, nonneg_pow, sum_below, sum_below-congruence, sum_below-mul, sum_below_mono, ℂ, complex_rationals}
use Rattle.exact_math.specs.Binomials.{choose}
use Rattle.exact_math.proofs.TruncatedKernel.{kernel_remainder}
use Rattle.exact_math.proofs.KernelSlope.{remainder_slope}
use Rattle.exact_math.proofs.QuadraticExtension.{pow_slope}
use Rattle.exact_math.proofs.KernelCounts.{count_term, counts_bound}
use Rattle.truncation.proofs.Discs.{InDisc, InDisc-add, InDisc-mul, InDisc-mono, InDisc-int, InDisc-pow, InDisc-sum_below}
use Rattle.exact_math.proofs.GeometricSums.{times_slope}
use Prim.Native.Nat.{◌+◌, ◌*◌, ◌<◌}

-- the derivative of z^k is within k r^(k - 1)
pub InDisc-pow_slope : {z : ℂ} {r : ℚ} → InDisc z r → (k : ℕ) → InDisc (pow_slope complex_rationals z k) (pow_slope rational_ring r k)
InDisc-pow_slope h zero = InDisc-int 0
InDisc-pow_slope h (suc k) = InDisc-mul (InDisc-int (suc k)) (InDisc-pow h k)

module _ (r rho : ℚ) (low : of_int (pos 0) ≤ℚ r) (high : r ≤ℚ of_int (pos 1)) (rho_low : of_int (pos 0) ≤ℚ rho) (rho_is : rho *ℚ (of_int (pos 1) -ℚ r) ≡ r) (p : ℕ) where
  abbrev counts : ℚ
  counts = sum_below rational_ring (suc p) (count_term r low high p)

  -- r^P (C(P - 1, 0) + C(P, 1) r + ..) <= rho^P
  power_times_counts : pow rational_ring r (suc p) *ℚ counts ≤ℚ pow rational_ring rho (suc p)
  power_times_counts =
      let k = mul_mono (pow rational_ring rho (suc p)) (nonneg_pow rho (suc p) rho_low) (counts_bound r low high p) in
      subst₂ (λ a b. a ≤ℚ b) (same (pow rational_ring rho (suc p)) (pow rational_ring (of_int (pos 1) -ℚ r) (suc p)) counts
      (sym (pow-mul rational_ring rho (of_int (pos 1) -ℚ r) (suc p)) ∙ ap (λ z. pow rational_ring z (suc p)) rho_is))
      (ring1 rational_ring (pow rational_ring rho (suc p)) (λ a. search quotes depth 9) tt) k
    where
      same : (a b c : ℚ) {d : ℚ} → a *ℚ b ≡ d → a *ℚ (b *ℚ c) ≡ d *ℚ c
      same a b c {d} e = combine rational_ring c e (ring4 rational_ring a b c d (λ a b c d. search quotes depth 9) tt)

  module _ (x y : ℂ) (x_within : InDisc x r) (y_within : InDisc y r) where
    -- |N| <= 2 rho^P
    pub remainder_within : InDisc (kernel_remainder complex_rationals x y p) (of_int (pos 2) *ℚ pow rational_ring rho (suc p))
    remainder_within = InDisc-mono (InDisc-sum_below (suc p) _ _ (λ l.
        InDisc-mul (InDisc-int (choose (p + l) l)) (InDisc-add (InDisc-mul (InDisc-pow x_within (suc p)) (InDisc-pow y_within l)) (InDisc-mul (InDisc-pow y_within (suc p)) (InDisc-pow x_within l)))))
        (≤ℚ-trans _ _ _ (le_equal sum_is) (mul_mono (of_int (pos 2)) (nonneg_int 2) power_times_counts))
      where
        one : (c a b : ℚ) → c *ℚ (a *ℚ b +ℚ a *ℚ b) ≡ of_int (pos 2) *ℚ a *ℚ (c *ℚ b)
        one c a b = ring3 rational_ring a b c (λ a b c. search quotes depth 9) tt

        sum_is : sum_below rational_ring (suc p) (λ l. of_int (pos (choose (p + l) l)) *ℚ (pow rational_ring r (suc p) *ℚ pow rational_ring r l +ℚ pow rational_ring r (suc p) *ℚ pow rational_ring r l))
            ≡ of_int (pos 2) *ℚ (pow rational_ring r (suc p) *ℚ counts)
        sum_is =
            sum_below-congruence rational_ring (suc p) _ _ (λ l h. one (of_int (pos (choose (p + l) l))) (pow rational_ring r (suc p)) (pow rational_ring r l))
            ∙ sum_below-mul rational_ring (of_int (pos 2) *ℚ pow rational_ring r (suc p)) (suc p) (count_term r low high p)
            ∙ rational_ring.mul_assoc _ _ _

    -- the bound on the derivative, as a sum
    abbrev pub slope_bound : ℚ
    slope_bound = sum_below rational_ring (suc p) (λ l. of_int (pos (choose (p + l) l)) *ℚ (pow_slope rational_ring r (suc p) *ℚ pow rational_ring r l +ℚ pow rational_ring r (suc p) *ℚ pow_slope rational_ring r l))

    -- |N'| <= its bound
    pub slope_within : InDisc (remainder_slope complex_rationals x y p) slope_bound
    slope_within = InDisc-sum_below (suc p) _ _ (λ l.
        InDisc-mul (InDisc-int (choose (p + l) l)) (InDisc-add (InDisc-mul (InDisc-pow_slope x_within (suc p)) (InDisc-pow y_within l)) (InDisc-mul (InDisc-pow y_within (suc p)) (InDisc-pow_slope x_within l))))

    -- r times that bound is at most (2 P - 1) rho^P
    pub slope_bound_le : r *ℚ slope_bound ≤ℚ of_int (pos (2 * p + 1)) *ℚ pow rational_ring rho (suc p)
    slope_bound_le =
        ≤ℚ-trans _ _ _ (le_equal (sym (sum_below-mul rational_ring r (suc p) _)))
        (≤ℚ-trans _ _ _ (sum_below_mono (suc p) _ (λ l. of_int (pos (2 * p + 1)) *ℚ pow rational_ring r (suc p) *ℚ count_term r low high p l) (λ l h. one l h))
        (≤ℚ-trans _ _ _ (le_equal (sum_below-mul rational_ring _ (suc p) (count_term r low high p) ∙ rational_ring.mul_assoc _ _ _))
        (mul_mono (of_int (pos (2 * p + 1))) (nonneg_int _) power_times_counts)))
      where
        count_le : (l : ℕ) → l < suc p → of_int (pos (suc p)) +ℚ of_int (pos l) ≤ℚ of_int (pos (2 * p + 1))
        count_le l h = subst (λ z. z ≤ℚ of_int (pos (2 * p + 1))) (of_int-add (pos (suc p)) (pos l)) ((of_int-≤ _ _).1 (omega (arith, ints)))

        -- with the two slopes S, S', the powers A, B and the counts m, n: r S = m A and r S' = n B
        regroup : (c S A B S' m n : ℚ) → r *ℚ S ≡ m *ℚ A → r *ℚ S' ≡ n *ℚ B → r *ℚ (c *ℚ (S *ℚ B +ℚ A *ℚ S')) ≡ A *ℚ (c *ℚ B) *ℚ (m +ℚ n)
        regroup c S A B S' m n e f =
            combine rational_ring (c *ℚ B) e (combine rational_ring (c *ℚ A) f
            (ring8 rational_ring r c S A B S' m n (λ r c S A B T m n. search quotes depth 12) tt))

        one : (l : ℕ) → l < suc p → r *ℚ (of_int (pos (choose (p + l) l)) *ℚ (pow_slope rational_ring r (suc p) *ℚ pow rational_ring r l +ℚ pow rational_ring r (suc p) *ℚ pow_slope rational_ring r l))
            ≤ℚ of_int (pos (2 * p + 1)) *ℚ pow rational_ring r (suc p) *ℚ count_term r low high p l
        one l h =
            let c = of_int (pos (choose (p + l) l)) in
            let A = pow rational_ring r (suc p) in
            let B = pow rational_ring r l in
            ≤ℚ-trans _ _ _ (le_equal (regroup c (pow_slope rational_ring r (suc p)) A B (pow_slope rational_ring r l) (of_int (pos (suc p))) (of_int (pos l)) (times_slope rational_ring r (suc p)) (times_slope rational_ring r l)))
            (≤ℚ-trans _ _ _ (mul_mono (A *ℚ (c *ℚ B)) (term_low l) (count_le l h)) (le_equal (turn A c B (of_int (pos (2 * p + 1))))))
          where
            term_low : (l : ℕ) → of_int (pos 0) ≤ℚ pow rational_ring r (suc p) *ℚ (of_int (pos (choose (p + l) l)) *ℚ pow rational_ring r l)
            term_low l = *ℚ-nonneg _ _ (nonneg_pow r (suc p) low) (*ℚ-nonneg _ _ (nonneg_int _) (nonneg_pow r l low))

            turn : (A c B m : ℚ) → A *ℚ (c *ℚ B) *ℚ m ≡ m *ℚ A *ℚ (c *ℚ B)
            turn A c B m = ring4 rational_ring A c B m (λ A c B m. search quotes depth 9) tt
