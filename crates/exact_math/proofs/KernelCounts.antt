-- (1 - x)^P (C(P - 1, 0) + C(P, 1) x + .. + C(2 P - 2, P - 1) x^(P - 1)) <= 1 for 0 <= x <= 1 and P >= 1.
use mathlib.Core.Path.{◌≡◌, sym, subst, subst₂, ◌∙◌}
use Prim.Native.Nat.{ℕ, suc, ◌+◌}
use lib.IntN.{pos}
use Rattle.exact_math.proofs.Ring.{pow}
use Rattle.exact_math.proofs.RingTactic.{quotes, ring2, ring5}
use Rattle.exact_math.proofs.Sums.{sum_below, sum_below-mul}
use Rattle.exact_math.specs.Binomials.{choose}
use Rattle.exact_math.proofs.TruncatedKernel.{kernel_sum, kernel_remainder, kernel_identity}
use Rattle.exact_math.proofs.Rationals.{ℚ, rational_ring, of_int, ◌+ℚ◌, ◌*ℚ◌, ◌-ℚ◌, ◌≤ℚ◌}
use Rattle.exact_math.proofs.RationalOrder.{nonneg, from_difference, difference_nonneg, sum_below_mono}

module _ (x : ℚ) (low : of_int (pos 0) ≤ℚ x) (high : x ≤ℚ of_int (pos 1)) where
  abbrev one : ℚ
  one = of_int (pos 1)

  -- C(p + l, l) x^l
  abbrev pub count_term : ℕ → ℕ → ℚ
  count_term p l = of_int (pos (choose (p + l) l)) *ℚ pow rational_ring x l

  -- the identity at y = 1 - x, where the product vanishes
  remainder_is_one : (p : ℕ) → kernel_remainder rational_ring x (one -ℚ x) p ≡ one
  remainder_is_one p =
      sym (kernel_identity rational_ring x (one -ℚ x) p)
      ∙ ring2 rational_ring x (kernel_sum rational_ring x (one -ℚ x) (suc p) (suc p)) (λ x t. search quotes depth 12) tt

  term_le : (p l : ℕ) → pow rational_ring (one -ℚ x) (suc p) *ℚ count_term p l
      ≤ℚ of_int (pos (choose (p + l) l)) *ℚ (pow rational_ring x (suc p) *ℚ pow rational_ring (one -ℚ x) l +ℚ pow rational_ring (one -ℚ x) (suc p) *ℚ pow rational_ring x l)
  term_le p l =
      let y≥0 : of_int (pos 0) ≤ℚ one -ℚ x = difference_nonneg high in
      let c = of_int (pos (choose (p + l) l)) in
      let a = pow rational_ring x (suc p) in
      let b = pow rational_ring (one -ℚ x) l in
      let d = pow rational_ring (one -ℚ x) (suc p) in
      let e = pow rational_ring x l in
      let more : of_int (pos 0) ≤ℚ c *ℚ (a *ℚ b) = search nonneg depth 7 in
      from_difference (subst (λ z. of_int (pos 0) ≤ℚ z) (ring5 rational_ring a b c d e (λ a b c d e. search quotes depth 12) tt) more)

  -- (1 - x)^(p + 1) times the sum of the first p + 1 terms is at most 1
  pub counts_bound : (p : ℕ) → pow rational_ring (one -ℚ x) (suc p) *ℚ sum_below rational_ring (suc p) (count_term p) ≤ℚ one
  counts_bound p = subst₂ (λ a b. a ≤ℚ b) (sum_below-mul rational_ring _ (suc p) (count_term p)) (remainder_is_one p) (sum_below_mono (suc p) _ _ (λ l h. term_le p l))
