-- The truncation bound of the two-centre expansion, for one source, pole or dipole.
-- d is the difference of the centres, u and v the offsets of source and target from them, s the side; the places are d + v - u apart.
use Rattle.exact_math.proofs.Common.{◌≡◌, sym, ap, subst, subst₂, ◌∙◌, ℕ, suc, arith, ints, pos, quotes, combine, ring1, ring2, ring3, ring4, ring5, ring6, ring7, pow, ℚ, rational_ring, of_int, of_int-add, of_int-mul, ◌+ℚ◌, ◌*ℚ◌, ◌-ℚ◌, neg_ℚ, inverse, ◌≤ℚ◌, ◌<ℚ◌, le_equal, le_plus, le_using, mul_mono, cancel_mul, nonneg, nonneg_int, nonneg_pow, int-<, ≤-from_<, inverse_right, inverse_positive, inverse-mul, positive_mul, ℂ, complex_rationals, of_int_ℂ, ◌+ℂ◌, ◌*ℂ◌, ◌-ℂ◌, neg_ℂ, inverse_ℂ, *ℂ-inverse, norm, size, size_nonneg}
use Rattle.exact_math.proofs.Fractions.{ratio}
use Rattle.exact_math.proofs.TruncatedKernel.{kernel_sum, kernel_remainder, kernel_identity}
use Rattle.exact_math.proofs.KernelSlope.{slope_sum, remainder_slope, kernel_slope_identity}
use Rattle.truncation.proofs.Discs.{InDisc, InDisc-add, InDisc-mul, InDisc-mono, InDisc-size, InDisc-inverse, norm-neg}
use Rattle.truncation.proofs.Distances.{PartsAtMost, SomePartAtLeast, double, positive_above, offset_norm, part_norm, places_apart, ratio_norm, times_ratio, ratio_nonneg, rho_is, pair_ratio}
use Rattle.truncation.proofs.PairRemainder.{remainder_within, slope_bound, slope_within, slope_bound_le}
use Rattle.truncation.proofs.Quotients.{pole_is, dipole_is, PartsCounted, count_parts}
use Prim.Native.Nat.{◌+◌, ◌*◌}

-- 17/48 and 17/31
abbrev r : ℚ
r = ratio (pos 17) (pos 48)

abbrev pub rho : ℚ
rho = ratio (pos 17) (pos 31)

r_is : of_int (pos 48) *ℚ r ≡ of_int (pos 17)
r_is = times_ratio 17 48 (omega arith)

r_low : of_int (pos 0) ≤ℚ r
r_low = ratio_nonneg 17 48 (omega arith)

r_high : r ≤ℚ of_int (pos 1)
r_high = cancel_mul (of_int (pos 48)) (int-< _ _ (omega (arith, ints))) (le_plus (of_int (pos 31)) (nonneg_int 31) (combine rational_ring (of_int (pos (0))) r_is (sym_is r r_is)))
  where
    sym_is : (r : ℚ) → of_int (pos 48) *ℚ r ≡ of_int (pos 17) → of_int (pos 48) *ℚ of_int (pos 1) +ℚ of_int (pos 0) *ℚ of_int (pos 17) ≡ of_int (pos 48) *ℚ r +ℚ of_int (pos 31) +ℚ of_int (pos 0) *ℚ (of_int (pos 48) *ℚ r)
    sym_is r e = combine rational_ring (neg_ℚ (of_int (pos 1))) e (ring1 rational_ring r (λ r. search quotes depth 12) tt)

rho_low : of_int (pos 0) ≤ℚ rho
rho_low = ratio_nonneg 17 31 (omega arith)

-- half of 1/s
half_inverse : (s : ℚ) → of_int (pos 0) <ℚ s → of_int (pos 2) *ℚ inverse (of_int (pos 2) *ℚ s) ≡ inverse s
half_inverse s h =
    let two : of_int (pos 0) <ℚ of_int (pos 2) = int-< _ _ (omega (arith, ints)) in
    ap (λ z. of_int (pos 2) *ℚ z) (inverse-mul (of_int (pos 2)) s two h)
    ∙ combine rational_ring (inverse s) (inverse_right (of_int (pos 2)) two) (ring2 rational_ring (inverse (of_int (pos 2))) (inverse s) (λ a b. search quotes depth 12) tt)

-- 1/s <= 1
pub inverse_le : (s : ℚ) → of_int (pos 0) <ℚ s → of_int (pos 1) ≤ℚ s → inverse s ≤ℚ of_int (pos 1)
inverse_le s h k = subst₂ (λ a b. a ≤ℚ b) (ring1 rational_ring (inverse s) (λ a. search quotes depth 9) tt)
    (rational_ring.mul_comm _ _ ∙ inverse_right s h) (mul_mono (inverse s) (≤-from_< (inverse_positive s h)) k)

-- 48 P + 10 <= 68 P: sigma is 1/s, tau its half, m = 2 P - 1, R the power of 17/31 and B the bound on the derivative
pair_dipole_le : (sigma tau R B m P r : ℚ) → of_int (pos 0) ≤ℚ sigma → sigma ≤ℚ of_int (pos 1) → of_int (pos 0) ≤ℚ R → of_int (pos 0) ≤ℚ m
    → of_int (pos 2) *ℚ tau ≡ sigma → of_int (pos 48) *ℚ r ≡ of_int (pos 17) → of_int (pos 2) *ℚ P ≡ m +ℚ of_int (pos 1) → r *ℚ B ≤ℚ m *ℚ R
    → sigma *ℚ sigma *ℚ (of_int (pos 2) *ℚ R) +ℚ sigma *ℚ tau *ℚ B ≤ℚ sigma *ℚ (of_int (pos 4) *ℚ P *ℚ R)
pair_dipole_le sigma tau R B m P r s≥0 s≤1 R≥0 m≥0 e f g h =
    cancel_mul (of_int (pos 34)) (int-< _ _ (omega (arith, ints)))
    (le_using (of_int (pos 48) *ℚ (sigma *ℚ sigma)) (search nonneg) h
    (le_using (sigma *ℚ R *ℚ (of_int (pos 68) +ℚ of_int (pos 48) *ℚ m)) (search nonneg) s≤1
    (le_plus (of_int (pos 20) *ℚ (sigma *ℚ m *ℚ R)) (search nonneg)
    (combine rational_ring (of_int (pos 68) *ℚ sigma *ℚ R) g
    (combine rational_ring (sigma *ℚ sigma *ℚ B) f
    (combine rational_ring (neg_ℚ (of_int (pos 17) *ℚ sigma *ℚ B)) e
    (ring7 rational_ring sigma tau R B m P r (λ s t R B m P r. search quotes depth 15) tt)))))))

-- 2 P = (2 P - 1) + 1
twice_order : (p : ℕ) → of_int (pos 2) *ℚ of_int (pos (suc p)) ≡ of_int (pos (2 * p + 1)) +ℚ of_int (pos 1)
twice_order p = sym (of_int-mul (pos 2) (pos (suc p))) ∙ ap of_int (omega (arith, ints)) ∙ of_int-add (pos (2 * p + 1)) (pos 1)

-- the weight, 1/s and the tail
pole_count : (A sigma R c t : ℚ) → of_int (pos 0) ≤ℚ A → of_int (pos 0) ≤ℚ sigma → of_int (pos 2) *ℚ c *ℚ R ≤ℚ t → c *ℚ (A *ℚ (sigma *ℚ (of_int (pos 2) *ℚ R))) ≤ℚ A *ℚ t *ℚ sigma
pole_count A sigma R c t weight_low sigma_low h = le_using (A *ℚ sigma) (search nonneg) h (le_equal (ring5 rational_ring A sigma R c t (λ A s R c t. search quotes depth 12) tt))

dipole_count : (B sigma R c t P : ℚ) → of_int (pos 0) ≤ℚ B → of_int (pos 0) ≤ℚ sigma → of_int (pos 0) ≤ℚ P → of_int (pos 2) *ℚ c *ℚ R ≤ℚ t
    → c *ℚ (B *ℚ (sigma *ℚ (of_int (pos 4) *ℚ P *ℚ R))) ≤ℚ of_int (pos 2) *ℚ P *ℚ B *ℚ t *ℚ sigma
dipole_count B sigma R c t P weight_low sigma_low order_low h = le_using (of_int (pos 2) *ℚ P *ℚ B *ℚ sigma) (search nonneg) h (le_equal (ring6 rational_ring B sigma R c t P (λ B s R c t P. search quotes depth 12) tt))

module _ (s : ℚ) (large : of_int (pos 1) ≤ℚ s) (d u v : ℂ) (centres_apart : SomePartAtLeast d (of_int (pos 2) *ℚ s)) (source_near : PartsAtMost (double u) s) (target_near : PartsAtMost (double v) s) where
  s>0 : of_int (pos 0) <ℚ s
  s>0 = positive_above (int-< (pos 0) (pos 1) (omega (arith, ints))) large

  two_s>0 : of_int (pos 0) <ℚ of_int (pos 2) *ℚ s
  two_s>0 = positive_mul _ _ (int-< _ _ (omega (arith, ints))) s>0

  abbrev x : ℂ
  x = u *ℂ inverse_ℂ d

  abbrev y : ℂ
  y = neg_ℂ (v *ℂ inverse_ℂ d)

  abbrev delta : ℂ
  delta = d +ℂ v -ℂ u

  norm_d : of_int (pos 2) *ℚ s *ℚ (of_int (pos 2) *ℚ s) ≤ℚ norm d
  norm_d = part_norm d (≤-from_< two_s>0) centres_apart

  norm_delta : s *ℚ s ≤ℚ norm delta
  norm_delta = part_norm delta (≤-from_< s>0) (places_apart d u v centres_apart source_near target_near)

  -- the centres are apart
  pub centre_positive : of_int (pos 0) <ℚ norm d
  centre_positive = positive_above (positive_mul _ _ two_s>0 two_s>0) norm_d

  -- the places are apart
  pub delta_positive : of_int (pos 0) <ℚ norm (d +ℂ v -ℂ u)
  delta_positive = positive_above (positive_mul _ _ s>0 s>0) norm_delta

  d_inverse : d *ℂ inverse_ℂ d ≡ of_int_ℂ (pos 1)
  d_inverse = *ℂ-inverse d centre_positive

  delta_inverse : delta *ℂ inverse_ℂ delta ≡ of_int_ℂ (pos 1)
  delta_inverse = *ℂ-inverse delta delta_positive

  within_d : InDisc (inverse_ℂ d) (inverse (of_int (pos 2) *ℚ s))
  within_d = InDisc-inverse (of_int (pos 2) *ℚ s) d (inverse_ℂ d) two_s>0 norm_d d_inverse

  within_delta : InDisc (inverse_ℂ delta) (inverse s)
  within_delta = InDisc-inverse s delta (inverse_ℂ delta) s>0 norm_delta delta_inverse

  norm_d4 : of_int (pos 4) *ℚ (s *ℚ s) ≤ℚ of_int (pos 1) *ℚ norm d
  norm_d4 = subst₂ (λ a b. a ≤ℚ b) (ring1 rational_ring s (λ s. search quotes depth 9) tt) (ring1 rational_ring (norm d) (λ s. search quotes depth 9) tt) norm_d

  ratio_within : (z a : ℂ) → of_int (pos 2) *ℚ norm a ≤ℚ s *ℚ s → z *ℂ d ≡ a → InDisc z r
  ratio_within z a h e = record {
    bound = r_low;
    norm_le = pair_ratio r (norm z) r_is (subst (λ c. c *ℚ norm z ≤ℚ of_int (pos 1)) (sym (of_int-mul (pos 2) (pos 4)))
        (ratio_norm (of_int (pos 4)) (of_int (pos 1)) s a d z (nonneg_int 1) s>0 h norm_d4 e));
  }

  within_x : InDisc x r
  within_x = ratio_within x u (offset_norm u source_near) (combine complex_rationals u d_inverse (ring3 complex_rationals u d (inverse_ℂ d) (λ u d j. search quotes depth 12) tt))

  within_y : InDisc y r
  within_y = ratio_within y (neg_ℂ v) (subst (λ n. of_int (pos 2) *ℚ n ≤ℚ s *ℚ s) (sym (norm-neg v)) (offset_norm v target_near))
      (combine complex_rationals (neg_ℂ v) d_inverse (ring3 complex_rationals v d (inverse_ℂ d) (λ u d j. search quotes depth 12) tt))

  delta_is : delta ≡ (of_int_ℂ (pos 1) -ℂ x -ℂ y) *ℂ d
  delta_is = combine complex_rationals (u -ℂ v) d_inverse (ring4 complex_rationals u v d (inverse_ℂ d) (λ u v d j. search quotes depth 12) tt)

  rho_eq : rho *ℚ (of_int (pos 1) -ℚ r) ≡ r
  rho_eq = rho_is r rho r_is (times_ratio 17 31 (omega arith))

  module _ (p : ℕ) where
    -- (17/31)^P
    abbrev R : ℚ
    R = pow rational_ring rho (suc p)

    abbrev kernel : ℂ
    kernel = kernel_sum complex_rationals x y (suc p) (suc p)

    abbrev slope : ℂ
    slope = slope_sum complex_rationals x y (suc p) (suc p)

    -- what the cut leaves of 1/(d + v - u)
    pole_within : InDisc (inverse_ℂ delta -ℂ inverse_ℂ d *ℂ kernel) (inverse s *ℚ (of_int (pos 2) *ℚ R))
    pole_within =
        rw (pole_is (inverse_ℂ delta) (inverse_ℂ d) (of_int_ℂ (pos 1) -ℂ x -ℂ y) d delta delta_inverse d_inverse delta_is kernel (kernel_remainder complex_rationals x y p) (kernel_identity complex_rationals x y p))
        (InDisc-mul within_delta (remainder_within r rho r_low r_high rho_low rho_eq p x y within_x within_y))

    -- what the cut leaves of 1/(d + v - u)^2
    dipole_within : InDisc (inverse_ℂ delta *ℂ inverse_ℂ delta -ℂ inverse_ℂ d *ℂ inverse_ℂ d *ℂ slope) (inverse s *ℚ (of_int (pos 4) *ℚ of_int (pos (suc p)) *ℚ R))
    dipole_within =
        rw (dipole_is (inverse_ℂ delta) (inverse_ℂ d) (of_int_ℂ (pos 1) -ℂ x -ℂ y) d delta delta_inverse d_inverse delta_is
        kernel (kernel_remainder complex_rationals x y p) slope (remainder_slope complex_rationals x y p)
        (kernel_identity complex_rationals x y p) (kernel_slope_identity complex_rationals x y p))
        (InDisc-mono (InDisc-add
        (InDisc-mul (InDisc-mul within_delta within_delta) (remainder_within r rho r_low r_high rho_low rho_eq p x y within_x within_y))
        (InDisc-mul (InDisc-mul within_delta within_d) (slope_within r rho r_low r_high rho_low rho_eq p x y within_x within_y)))
        (pair_dipole_le (inverse s) (inverse (of_int (pos 2) *ℚ s)) R (slope_bound r rho r_low r_high rho_low rho_eq p x y within_x within_y) (of_int (pos (2 * p + 1))) (of_int (pos (suc p))) r
        (≤-from_< (inverse_positive s s>0)) (inverse_le s s>0 large) (nonneg_pow rho (suc p) rho_low) (nonneg_int _)
        (half_inverse s s>0) r_is (twice_order p) (slope_bound_le r rho r_low r_high rho_low rho_eq p x y within_x within_y)))

    -- in units of 1/c, for a tail t of at least 2 c (17/31)^P
    module _ (c t : ℚ) (c≥0 : of_int (pos 0) ≤ℚ c) (dominates : of_int (pos 2) *ℚ c *ℚ R ≤ℚ t) where
      -- a pole: |a| t/s
      pub pole_bound : (a : ℂ) → PartsCounted c (a *ℂ inverse_ℂ (d +ℂ v -ℂ u) -ℂ a *ℂ inverse_ℂ d *ℂ kernel_sum complex_rationals (u *ℂ inverse_ℂ d) (neg_ℂ (v *ℂ inverse_ℂ d)) (suc p) (suc p)) (size a *ℚ t *ℚ inverse s)
      pole_bound a = count_parts c c≥0
          (subst (λ z. InDisc z (size a *ℚ (inverse s *ℚ (of_int (pos 2) *ℚ R)))) (ring4 complex_rationals a (inverse_ℂ delta) (inverse_ℂ d) kernel (λ a i j t. search quotes depth 12) tt) (InDisc-mul (InDisc-size a) pole_within))
          (pole_count (size a) (inverse s) R c t (size_nonneg a) (≤-from_< (inverse_positive s s>0)) dominates)

      -- a dipole: 2 P |b| t/s
      pub dipole_bound : (b : ℂ) → PartsCounted c (b *ℂ (inverse_ℂ (d +ℂ v -ℂ u) *ℂ inverse_ℂ (d +ℂ v -ℂ u)) -ℂ b *ℂ (inverse_ℂ d *ℂ inverse_ℂ d) *ℂ slope_sum complex_rationals (u *ℂ inverse_ℂ d) (neg_ℂ (v *ℂ inverse_ℂ d)) (suc p) (suc p))
          (of_int (pos 2) *ℚ of_int (pos (suc p)) *ℚ size b *ℚ t *ℚ inverse s)
      dipole_bound b = count_parts c c≥0
          (subst (λ z. InDisc z (size b *ℚ (inverse s *ℚ (of_int (pos 4) *ℚ of_int (pos (suc p)) *ℚ R)))) (ring4 complex_rationals b (inverse_ℂ delta) (inverse_ℂ d) slope (λ a i j t. search quotes depth 12) tt) (InDisc-mul (InDisc-size b) dipole_within))
          (dipole_count (size b) (inverse s) R c t (of_int (pos (suc p))) (size_nonneg b) (≤-from_< (inverse_positive s s>0)) (nonneg_int _) dominates)
