-- What is left of 1/delta - T/d and of 1/delta^2 - T'/d^2 where delta = w d, 1 - w T = N and T - w T' = N'. Both expansions use it.
use Rattle.exact_math.proofs.Common.{◌≡◌, pos, quotes, combine, ring5, ring7, ℚ, of_int, ◌*ℚ◌, ◌≤ℚ◌, ≤ℚ-trans, mul_mono, absolute, ℂ, complex_rationals, of_int_ℂ, ◌+ℂ◌, ◌*ℂ◌, ◌-ℂ◌, neg_ℂ}
use Rattle.truncation.proofs.Discs.{InDisc, InDisc-re, InDisc-im}

module _ (i j w d delta : ℂ) (ei : delta *ℂ i ≡ of_int_ℂ (pos 1)) (ej : d *ℂ j ≡ of_int_ℂ (pos 1)) (e : delta ≡ w *ℂ d) where
  quotient_is : i *ℂ w ≡ j
  quotient_is =
      combine complex_rationals (neg_ℂ (i *ℂ w)) ej
      (combine complex_rationals (neg_ℂ (i *ℂ j)) e
      (combine complex_rationals j ei (ring5 complex_rationals i j w d delta (λ i j w d e. search quotes depth 12) tt)))

  -- 1/delta - T/d = N/delta
  pub pole_is : (T N : ℂ) → of_int_ℂ (pos 1) -ℂ w *ℂ T ≡ N → i -ℂ j *ℂ T ≡ i *ℂ N
  pole_is T N h = combine complex_rationals i h (combine complex_rationals T quotient_is (ring5 complex_rationals i j w T N (λ i j w t n. search quotes depth 12) tt))

  -- 1/delta^2 - T'/d^2 = N/delta^2 + N'/(delta d)
  pub dipole_is : (T N T' N' : ℂ) → of_int_ℂ (pos 1) -ℂ w *ℂ T ≡ N → T -ℂ w *ℂ T' ≡ N' → i *ℂ i -ℂ j *ℂ j *ℂ T' ≡ i *ℂ i *ℂ N +ℂ i *ℂ j *ℂ N'
  dipole_is T N T' N' h k =
      combine complex_rationals i (pole_is T N h)
      (combine complex_rationals (i *ℂ j) k
      (combine complex_rationals (j *ℂ T') quotient_is (ring7 complex_rationals i j w T N T' N' (λ i j w t n s m. search quotes depth 12) tt)))

-- each part of z, counted in units of 1/u, is at most m in size
pub record PartsCounted (u : ℚ) (z : ℂ) (m : ℚ) : Type 0 where
  pub re : u *ℚ absolute z.re ≤ℚ m
  pub im : u *ℚ absolute z.im ≤ℚ m

-- from a disc to its parts
pub count_parts : (u : ℚ) {z : ℂ} {r m : ℚ} → of_int (pos 0) ≤ℚ u → InDisc z r → u *ℚ r ≤ℚ m → PartsCounted u z m
count_parts u u≥0 h k = record {
  re = ≤ℚ-trans _ _ _ (mul_mono u u≥0 (InDisc-re h)) k;
  im = ≤ℚ-trans _ _ _ (mul_mono u u≥0 (InDisc-im h)) k;
}
