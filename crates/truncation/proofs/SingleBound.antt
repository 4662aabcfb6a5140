-- The truncation bound of the one-sided expansions, for one source, pole or dipole.
-- w is a distance from a centre, u an offset from the same centre, s the side; the places are w - u apart.
use Rattle.exact_math.proofs.Common.{◌≡◌, sym, ap, ap₂, subst, subst₂, ◌∙◌, ℕ, zero, suc, arith, ints, pos, quotes, combine, ring1, ring2, ring3, ring4, ring5, ring6, pow, pow-mul, ℚ, rational_ring, of_int, of_int-add, of_int-mul, of_int-≤, ◌+ℚ◌, ◌*ℚ◌, neg_ℚ, inverse, ◌≤ℚ◌, ◌<ℚ◌, ≤ℚ-trans, le_equal, le_plus, le_using, cancel_mul, nonneg, nonneg_int, nonneg_pow, int-<, ≤-from_<, inverse_right, inverse_positive, inverse-mul, positive_mul, sum_below, sum_below-congruence, sum_below-mul, sum_below-first, ℂ, complex_rationals, of_int_ℂ, ◌*ℂ◌, ◌-ℂ◌, neg_ℂ, inverse_ℂ, *ℂ-inverse, norm, parts-add, size, size_nonneg}
use Rattle.exact_math.proofs.ComplexRationals.{inverse_unique}
use Rattle.exact_math.proofs.Fractions.{ratio}
use Rattle.exact_math.proofs.QuadraticExtension.{pow_slope}
use Rattle.truncation.proofs.Discs.{InDisc, InDisc-add, InDisc-mul, InDisc-mono, InDisc-pow, InDisc-neg, InDisc-size, InDisc-inverse, norm-neg}
use Rattle.exact_math.proofs.GeometricSums.{power_sum, power_slope_sum, geometric_identity, geometric_slope_identity, times_slope}
use Rattle.truncation.proofs.Distances.{PartsAtMost, SomePartAtLeast, double, positive_above, offset_norm, part_norm, place_apart, ratio_norm, times_ratio, ratio_nonneg, single_ratio}
use Rattle.truncation.proofs.PairRemainder.{InDisc-pow_slope}
use Rattle.truncation.proofs.PairBound.{inverse_le}
use Rattle.truncation.proofs.Quotients.{pole_is, dipole_is, PartsCounted, count_parts}
use Prim.Native.Nat.{◌+◌, ◌≤◌}

-- 17/36
abbrev pub rho : ℚ
rho = ratio (pos 17) (pos 36)

rho_is : of_int (pos 36) *ℚ rho ≡ of_int (pos 17)
rho_is = times_ratio 17 36 (omega arith)

rho_low : of_int (pos 0) ≤ℚ rho
rho_low = ratio_nonneg 17 36 (omega arith)

-- 3/2
abbrev half_three : ℚ
half_three = ratio (pos 3) (pos 2)

half_three_is : of_int (pos 2) *ℚ half_three ≡ of_int (pos 3)
half_three_is = times_ratio 3 2 (omega arith)

half_three>0 : of_int (pos 0) <ℚ half_three
half_three>0 = positive_mul _ _ (int-< _ _ (omega (arith, ints))) (inverse_positive _ (int-< _ _ (omega (arith, ints))))

-- two thirds of 1/s
third_inverse : (h s : ℚ) → of_int (pos 2) *ℚ h ≡ of_int (pos 3) → of_int (pos 0) <ℚ h → of_int (pos 0) <ℚ s → of_int (pos 3) *ℚ inverse (h *ℚ s) ≡ of_int (pos 2) *ℚ inverse s
third_inverse h s e h>0 s>0 =
    ap (λ z. of_int (pos 3) *ℚ z) (inverse-mul h s h>0 s>0)
    ∙ combine rational_ring (neg_ℚ (inverse h *ℚ inverse s)) e
    (combine rational_ring (of_int (pos 2) *ℚ inverse s) (inverse_right h h>0) (ring3 rational_ring h (inverse h) (inverse s) (λ a b c. search quotes depth 12) tt))

-- 24 P + 17 <= 34 P for P >= 2: sigma is 1/s, tau two thirds of it, R = rho^P, and S the bound on the derivative, rho S = P R
single_dipole_le : (sigma tau R S P rho : ℚ) → of_int (pos 0) ≤ℚ sigma → sigma ≤ℚ of_int (pos 1) → of_int (pos 0) ≤ℚ R → of_int (pos 2) ≤ℚ P
    → of_int (pos 3) *ℚ tau ≡ of_int (pos 2) *ℚ sigma → of_int (pos 36) *ℚ rho ≡ of_int (pos 17) → rho *ℚ S ≡ P *ℚ R
    → sigma *ℚ sigma *ℚ R +ℚ sigma *ℚ tau *ℚ S ≤ℚ sigma *ℚ (of_int (pos 2) *ℚ P *ℚ R)
single_dipole_le sigma tau R S P rho s≥0 s≤1 R≥0 P≥2 e f g =
    let P≥0 : of_int (pos 0) ≤ℚ P = ≤ℚ-trans _ _ _ (nonneg_int 2) P≥2 in
    cancel_mul (of_int (pos 51)) (int-< _ _ (omega (arith, ints)))
    (le_using (sigma *ℚ R *ℚ (of_int (pos 51) +ℚ of_int (pos 72) *ℚ P)) (search nonneg) s≤1
    (le_using (of_int (pos 30) *ℚ (sigma *ℚ R)) (search nonneg) P≥2
    (le_plus (of_int (pos 9) *ℚ (sigma *ℚ R)) (search nonneg)
    (combine rational_ring (neg_ℚ (of_int (pos 17) *ℚ sigma *ℚ S)) e
    (combine rational_ring (of_int (pos 2) *ℚ sigma *ℚ sigma *ℚ S) f
    (combine rational_ring (neg_ℚ (of_int (pos 72) *ℚ sigma *ℚ sigma)) g
    (ring6 rational_ring sigma tau R S P rho (λ s t R S P r. search quotes depth 15) tt)))))))

-- the same with one more term in the sum: rho^(P + 1) and (P + 1) rho^P
longer_dipole_le : (sigma tau R P rho : ℚ) → of_int (pos 0) ≤ℚ sigma → sigma ≤ℚ of_int (pos 1) → of_int (pos 0) ≤ℚ R → of_int (pos 1) ≤ℚ P
    → of_int (pos 3) *ℚ tau ≡ of_int (pos 2) *ℚ sigma → of_int (pos 36) *ℚ rho ≡ of_int (pos 17)
    → sigma *ℚ sigma *ℚ (rho *ℚ R) +ℚ sigma *ℚ tau *ℚ ((P +ℚ of_int (pos 1)) *ℚ R) ≤ℚ sigma *ℚ (of_int (pos 2) *ℚ P *ℚ R)
longer_dipole_le sigma tau R P rho s≥0 s≤1 R≥0 P≥1 e f =
    let P≥0 : of_int (pos 0) ≤ℚ P = ≤ℚ-trans _ _ _ (nonneg_int 1) P≥1 in
    cancel_mul (of_int (pos 108)) (int-< _ _ (omega (arith, ints)))
    (le_using (sigma *ℚ R *ℚ (of_int (pos 123) +ℚ of_int (pos 72) *ℚ P)) (search nonneg) s≤1
    (le_using (of_int (pos 144) *ℚ (sigma *ℚ R)) (search nonneg) P≥1
    (le_plus (of_int (pos 21) *ℚ (sigma *ℚ R)) (search nonneg)
    (combine rational_ring (neg_ℚ (of_int (pos 36) *ℚ sigma *ℚ (P +ℚ of_int (pos 1)) *ℚ R)) e
    (combine rational_ring (neg_ℚ (of_int (pos 3) *ℚ sigma *ℚ sigma *ℚ R)) f
    (ring5 rational_ring sigma tau R P rho (λ s t R P r. search quotes depth 15) tt))))))

-- the weight, 1/s and the tail
single_pole_count : (A sigma R c t : ℚ) → of_int (pos 0) ≤ℚ A → of_int (pos 0) ≤ℚ sigma → c *ℚ R ≤ℚ t → c *ℚ (A *ℚ (sigma *ℚ R)) ≤ℚ A *ℚ t *ℚ sigma
single_pole_count A sigma R c t weight_low sigma_low h = le_using (A *ℚ sigma) (search nonneg) h (le_equal (ring5 rational_ring A sigma R c t (λ A s R c t. search quotes depth 12) tt))

single_dipole_count : (B sigma R c t P : ℚ) → of_int (pos 0) ≤ℚ B → of_int (pos 0) ≤ℚ sigma → of_int (pos 0) ≤ℚ P → c *ℚ R ≤ℚ t
    → c *ℚ (B *ℚ (sigma *ℚ (of_int (pos 2) *ℚ P *ℚ R))) ≤ℚ of_int (pos 2) *ℚ P *ℚ B *ℚ t *ℚ sigma
single_dipole_count B sigma R c t P weight_low sigma_low order_low h = le_using (of_int (pos 2) *ℚ P *ℚ B *ℚ sigma) (search nonneg) h (le_equal (ring6 rational_ring B sigma R c t P (λ B s R c t P. search quotes depth 12) tt))

-- ---- the sums as they are written: with u^k / w^(k + 1), where j is 1/w
module _ (u j : ℂ) where
  cut_pole_is : (n : ℕ) → sum_below complex_rationals n (λ k. pow complex_rationals u k *ℂ pow complex_rationals j (suc k)) ≡ j *ℂ power_sum complex_rationals (u *ℂ j) n
  cut_pole_is n =
      sum_below-congruence complex_rationals n _ _ (λ k h.
      ring3 complex_rationals j (pow complex_rationals u k) (pow complex_rationals j k) (λ j p q. search quotes depth 12) tt
      ∙ ap (λ z. j *ℂ z) (sym (pow-mul complex_rationals u j k)))
      ∙ sum_below-mul complex_rationals j n (pow complex_rationals (u *ℂ j))

  slope_is : (k : ℕ) → pow_slope complex_rationals u k *ℂ pow complex_rationals j (suc k) ≡ j *ℂ j *ℂ pow_slope complex_rationals (u *ℂ j) k
  slope_is zero = ring1 complex_rationals j (λ j. search quotes depth 12) tt
  slope_is (suc k) =
      ring4 complex_rationals j (pow complex_rationals u k) (pow complex_rationals j k) (of_int_ℂ (pos (suc k))) (λ j p q n. search quotes depth 12) tt
      ∙ ap (λ z. j *ℂ j *ℂ (of_int_ℂ (pos (suc k)) *ℂ z)) (sym (pow-mul complex_rationals u j k))

  cut_dipole_is : (n : ℕ) → sum_below complex_rationals n (λ k. pow_slope complex_rationals u k *ℂ pow complex_rationals j (suc k)) ≡ j *ℂ j *ℂ power_slope_sum complex_rationals (u *ℂ j) n
  cut_dipole_is n = sum_below-congruence complex_rationals n _ _ (λ k h. slope_is k) ∙ sum_below-mul complex_rationals (j *ℂ j) n (pow_slope complex_rationals (u *ℂ j))

  -- from the first power on: (l + 1) u^l / w^(l + 2)
  cut_next_is : (n : ℕ) → sum_below complex_rationals n (λ l. of_int_ℂ (pos (suc l)) *ℂ pow complex_rationals u l *ℂ pow complex_rationals j (suc (suc l))) ≡ j *ℂ j *ℂ power_slope_sum complex_rationals (u *ℂ j) (suc n)
  cut_next_is n =
      sum_below-congruence complex_rationals n _ _ (λ l h. slope_is (suc l))
      ∙ sum_below-mul complex_rationals (j *ℂ j) n (λ l. pow_slope complex_rationals (u *ℂ j) (suc l))
      ∙ ap (λ z. j *ℂ j *ℂ z) (sym (sum_below-first complex_rationals n (pow_slope complex_rationals (u *ℂ j))
      ∙ ring1 complex_rationals (sum_below complex_rationals n (λ l. pow_slope complex_rationals (u *ℂ j) (suc l))) (λ s. search quotes depth 12) tt))

module _ (s : ℚ) (large : of_int (pos 1) ≤ℚ s) (w u : ℂ) (far : SomePartAtLeast (double w) (of_int (pos 3) *ℚ s)) (near : PartsAtMost (double u) s) where
  s>0 : of_int (pos 0) <ℚ s
  s>0 = positive_above (int-< (pos 0) (pos 1) (omega (arith, ints))) large

  c>0 : of_int (pos 0) <ℚ half_three *ℚ s
  c>0 = positive_mul _ _ half_three>0 s>0

  abbrev q : ℂ
  q = u *ℂ inverse_ℂ w

  abbrev delta : ℂ
  delta = w -ℂ u

  norm_w9 : of_int (pos 9) *ℚ (s *ℚ s) ≤ℚ of_int (pos 4) *ℚ norm w
  norm_w9 = subst₂ (λ a b. a ≤ℚ b) (ring1 rational_ring s (λ s. search quotes depth 9) tt)
      (ap norm (parts-add w w) ∙ ring2 rational_ring w.re w.im (λ a b. search quotes depth 9) tt)
      (part_norm (double w) (≤-from_< (positive_mul _ _ (int-< (pos 0) (pos 3) (omega (arith, ints))) s>0)) far)

  norm_w : half_three *ℚ s *ℚ (half_three *ℚ s) ≤ℚ norm w
  norm_w = cancel_mul (of_int (pos 4)) (int-< _ _ (omega (arith, ints))) (≤ℚ-trans _ _ _ (le_equal (square half_three s half_three_is)) norm_w9)
    where
      square : (h s : ℚ) → of_int (pos 2) *ℚ h ≡ of_int (pos 3) → of_int (pos 4) *ℚ (h *ℚ s *ℚ (h *ℚ s)) ≡ of_int (pos 9) *ℚ (s *ℚ s)
      square h s e = combine rational_ring ((of_int (pos 2) *ℚ h +ℚ of_int (pos 3)) *ℚ s *ℚ s) e (ring2 rational_ring h s (λ h s. search quotes depth 12) tt)

  norm_delta : s *ℚ s ≤ℚ norm delta
  norm_delta = part_norm delta (≤-from_< s>0) (place_apart w u far near)

  -- the far place is not the centre
  pub far_positive : of_int (pos 0) <ℚ norm w
  far_positive = positive_above (positive_mul _ _ c>0 c>0) norm_w

  w_inverse : w *ℂ inverse_ℂ w ≡ of_int_ℂ (pos 1)
  w_inverse = *ℂ-inverse w far_positive

  -- the places are apart
  pub delta_positive : of_int (pos 0) <ℚ norm (w -ℂ u)
  delta_positive = positive_above (positive_mul _ _ s>0 s>0) norm_delta

  -- and seen the other way
  pub turned_positive : of_int (pos 0) <ℚ norm (u -ℂ w)
  turned_positive = subst (λ n. of_int (pos 0) <ℚ n) (sym (norm-neg delta) ∙ ap norm turned) delta_positive
    where
      turned : neg_ℂ (w -ℂ u) ≡ u -ℂ w
      turned = ring2 complex_rationals w u (λ w u. search quotes depth 12) tt

  delta_inverse : delta *ℂ inverse_ℂ delta ≡ of_int_ℂ (pos 1)
  delta_inverse = *ℂ-inverse delta delta_positive

  within_w : InDisc (inverse_ℂ w) (inverse (half_three *ℚ s))
  within_w = InDisc-inverse (half_three *ℚ s) w (inverse_ℂ w) c>0 norm_w w_inverse

  within_delta : InDisc (inverse_ℂ delta) (inverse s)
  within_delta = InDisc-inverse s delta (inverse_ℂ delta) s>0 norm_delta delta_inverse

  within_q : InDisc q rho
  within_q = record {
    bound = rho_low;
    norm_le = single_ratio rho (norm q) rho_is (subst (λ c. c *ℚ norm q ≤ℚ of_int (pos 4)) (sym (of_int-mul (pos 2) (pos 9)))
        (ratio_norm (of_int (pos 9)) (of_int (pos 4)) s u w q (nonneg_int 4) s>0 (offset_norm u near) norm_w9
        (combine complex_rationals u w_inverse (ring3 complex_rationals u w (inverse_ℂ w) (λ u d j. search quotes depth 12) tt))));
  }

  delta_is : delta ≡ (of_int_ℂ (pos 1) -ℂ q) *ℂ w
  delta_is = combine complex_rationals u w_inverse (ring3 complex_rationals u w (inverse_ℂ w) (λ u d j. search quotes depth 12) tt)

  -- what the cut leaves of 1/(w - u), with n terms
  pole_within : (n : ℕ) → InDisc (inverse_ℂ delta -ℂ inverse_ℂ w *ℂ power_sum complex_rationals q n) (inverse s *ℚ pow rational_ring rho n)
  pole_within n =
      rw (pole_is (inverse_ℂ delta) (inverse_ℂ w) (of_int_ℂ (pos 1) -ℂ q) w delta delta_inverse w_inverse delta_is (power_sum complex_rationals q n) (pow complex_rationals q n) (geometric_identity complex_rationals q n))
      (InDisc-mul within_delta (InDisc-pow within_q n))

  -- what the cut leaves of 1/(w - u)^2, with n terms
  dipole_within : (n : ℕ) → InDisc (inverse_ℂ delta *ℂ inverse_ℂ delta -ℂ inverse_ℂ w *ℂ inverse_ℂ w *ℂ power_slope_sum complex_rationals q n)
      (inverse s *ℚ inverse s *ℚ pow rational_ring rho n +ℚ inverse s *ℚ inverse (half_three *ℚ s) *ℚ pow_slope rational_ring rho n)
  dipole_within n =
      rw (dipole_is (inverse_ℂ delta) (inverse_ℂ w) (of_int_ℂ (pos 1) -ℂ q) w delta delta_inverse w_inverse delta_is
      (power_sum complex_rationals q n) (pow complex_rationals q n) (power_slope_sum complex_rationals q n) (pow_slope complex_rationals q n)
      (geometric_identity complex_rationals q n) (geometric_slope_identity complex_rationals q n))
      (InDisc-add (InDisc-mul (InDisc-mul within_delta within_delta) (InDisc-pow within_q n)) (InDisc-mul (InDisc-mul within_delta within_w) (InDisc-pow_slope within_q n)))

  sigma≥0 : of_int (pos 0) ≤ℚ inverse s
  sigma≥0 = ≤-from_< (inverse_positive s s>0)

  two_thirds : of_int (pos 3) *ℚ inverse (half_three *ℚ s) ≡ of_int (pos 2) *ℚ inverse s
  two_thirds = third_inverse half_three s half_three_is half_three>0 s>0

  int_le : (m n : ℕ) → m ≤ n → of_int (pos m) ≤ℚ of_int (pos n)
  int_le m n h = (of_int-≤ _ _).1 (omega (arith, ints))

  own_dipole_within : (P : ℕ) → 2 ≤ P → InDisc (inverse_ℂ delta *ℂ inverse_ℂ delta -ℂ inverse_ℂ w *ℂ inverse_ℂ w *ℂ power_slope_sum complex_rationals q P)
      (inverse s *ℚ (of_int (pos 2) *ℚ of_int (pos P) *ℚ pow rational_ring rho P))
  own_dipole_within P h = InDisc-mono (dipole_within P)
      (single_dipole_le (inverse s) (inverse (half_three *ℚ s)) (pow rational_ring rho P) (pow_slope rational_ring rho P) (of_int (pos P)) rho
      sigma≥0 (inverse_le s s>0 large) (nonneg_pow rho P rho_low) (int_le 2 P h) two_thirds rho_is (times_slope rational_ring rho P))

  longer_dipole_within : (P : ℕ) → 1 ≤ P → InDisc (inverse_ℂ delta *ℂ inverse_ℂ delta -ℂ inverse_ℂ w *ℂ inverse_ℂ w *ℂ power_slope_sum complex_rationals q (suc P))
      (inverse s *ℚ (of_int (pos 2) *ℚ of_int (pos P) *ℚ pow rational_ring rho P))
  longer_dipole_within P h = InDisc-mono (dipole_within (suc P))
      (subst (λ m. inverse s *ℚ inverse s *ℚ (rho *ℚ pow rational_ring rho P) +ℚ inverse s *ℚ inverse (half_three *ℚ s) *ℚ (m *ℚ pow rational_ring rho P) ≤ℚ inverse s *ℚ (of_int (pos 2) *ℚ of_int (pos P) *ℚ pow rational_ring rho P))
      (sym (ap (λ m. of_int (pos m)) {x = suc P} {y = P + 1} (omega arith) ∙ of_int-add (pos P) (pos 1)))
      (longer_dipole_le (inverse s) (inverse (half_three *ℚ s)) (pow rational_ring rho P) (of_int (pos P)) rho
      sigma≥0 (inverse_le s s>0 large) (nonneg_pow rho P rho_low) (int_le 1 P h) two_thirds rho_is))

  -- in units of 1/c, for a tail t of at least c (17/36)^P
  module _ (P : ℕ) (c t : ℚ) (c≥0 : of_int (pos 0) ≤ℚ c) (dominates : c *ℚ pow rational_ring rho P ≤ℚ t) where
    abbrev j : ℂ
    j = inverse_ℂ w

    abbrev i : ℂ
    i = inverse_ℂ (w -ℂ u)

    -- a pole and a far target: |a| t/s
    pub pole_bound : (a : ℂ) → PartsCounted c (a *ℂ inverse_ℂ (w -ℂ u) -ℂ a *ℂ sum_below complex_rationals P (λ k. pow complex_rationals u k *ℂ pow complex_rationals (inverse_ℂ w) (suc k))) (size a *ℚ t *ℚ inverse s)
    pole_bound a = count_parts c c≥0
        (subst (λ z. InDisc z (size a *ℚ (inverse s *ℚ pow rational_ring rho P)))
        (ring4 complex_rationals a i j (power_sum complex_rationals q P) (λ a i j t. search quotes depth 12) tt ∙ ap (λ z. a *ℂ i -ℂ a *ℂ z) (sym (cut_pole_is u j P)))
        (InDisc-mul (InDisc-size a) (pole_within P)))
        (single_pole_count (size a) (inverse s) (pow rational_ring rho P) c t (size_nonneg a) sigma≥0 dominates)

    -- a dipole and a far target: 2 P |b| t/s
    pub dipole_bound : 2 ≤ P → (b : ℂ) → PartsCounted c (b *ℂ (inverse_ℂ (w -ℂ u) *ℂ inverse_ℂ (w -ℂ u)) -ℂ b *ℂ sum_below complex_rationals P (λ k. pow_slope complex_rationals u k *ℂ pow complex_rationals (inverse_ℂ w) (suc k)))
        (of_int (pos 2) *ℚ of_int (pos P) *ℚ size b *ℚ t *ℚ inverse s)
    dipole_bound h b = count_parts c c≥0
        (subst (λ z. InDisc z (size b *ℚ (inverse s *ℚ (of_int (pos 2) *ℚ of_int (pos P) *ℚ pow rational_ring rho P))))
        (ring4 complex_rationals b i j (power_slope_sum complex_rationals q P) (λ a i j t. search quotes depth 12) tt ∙ ap (λ z. b *ℂ (i *ℂ i) -ℂ b *ℂ z) (sym (cut_dipole_is u j P)))
        (InDisc-mul (InDisc-size b) (own_dipole_within P h)))
        (single_dipole_count (size b) (inverse s) (pow rational_ring rho P) c t (of_int (pos P)) (size_nonneg b) sigma≥0 (nonneg_int P) dominates)

    -- the other way round: 1/(u - w), where the sum has the sign minus
    minus_inverse : inverse_ℂ (u -ℂ w) ≡ neg_ℂ i
    minus_inverse = sym (inverse_unique (u -ℂ w) (neg_ℂ i) turned_positive
        (combine complex_rationals (of_int_ℂ (pos 1)) delta_inverse (ring3 complex_rationals w u i (λ w u i. search quotes depth 12) tt)))

    -- a far pole: |a| t/s
    pub turned_pole_bound : (a : ℂ) → PartsCounted c (a *ℂ inverse_ℂ (u -ℂ w) -ℂ neg_ℂ a *ℂ sum_below complex_rationals P (λ l. pow complex_rationals u l *ℂ pow complex_rationals (inverse_ℂ w) (suc l))) (size a *ℚ t *ℚ inverse s)
    turned_pole_bound a = count_parts c c≥0
        (subst (λ z. InDisc z (size a *ℚ (inverse s *ℚ pow rational_ring rho P)))
        (ring4 complex_rationals a i j (power_sum complex_rationals q P) (λ a i j t. search quotes depth 12) tt ∙ ap₂ (λ y z. a *ℂ y -ℂ neg_ℂ a *ℂ z) (sym minus_inverse) (sym (cut_pole_is u j P)))
        (InDisc-neg (InDisc-mul (InDisc-size a) (pole_within P))))
        (single_pole_count (size a) (inverse s) (pow rational_ring rho P) c t (size_nonneg a) sigma≥0 dominates)

    -- a far dipole: 2 P |b| t/s
    pub turned_dipole_bound : 1 ≤ P → (b : ℂ) → PartsCounted c (b *ℂ (inverse_ℂ (u -ℂ w) *ℂ inverse_ℂ (u -ℂ w)) -ℂ b *ℂ sum_below complex_rationals P (λ l. of_int_ℂ (pos (suc l)) *ℂ pow complex_rationals u l *ℂ pow complex_rationals (inverse_ℂ w) (suc (suc l))))
        (of_int (pos 2) *ℚ of_int (pos P) *ℚ size b *ℚ t *ℚ inverse s)
    turned_dipole_bound h b = count_parts c c≥0
        (subst (λ z. InDisc z (size b *ℚ (inverse s *ℚ (of_int (pos 2) *ℚ of_int (pos P) *ℚ pow rational_ring rho P))))
        (ring4 complex_rationals b i j (power_slope_sum complex_rationals q (suc P)) (λ a i j t. search quotes depth 12) tt ∙ ap₂ (λ y z. b *ℂ (y *ℂ y) -ℂ b *ℂ z) (sym minus_inverse) (sym (cut_next_is u j P)))
        (InDisc-mul (InDisc-size b) (longer_dipole_within P h)))
        (single_dipole_count (size b) (inverse s) (pow rational_ring rho P) c t (of_int (pos P)) (size_nonneg b) sigma≥0 (nonneg_int P) dominates)
