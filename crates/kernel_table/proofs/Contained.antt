-- What the kernel's powers and entries contain.
use mathlib.Core.Path.{◌≡◌, sym, ap, subst, subst₂, ◌∙◌}
use Prim.Native.Nat.{ℕ, zero, suc, ◌+◌, ◌^◌}
use native.Mathlib.Omega.{arith}
use lib.IntN.{ℤ, pos, neg_ℤ, ◌+ℤ◌, ◌-ℤ◌, ◌*ℤ◌}
use lib.Signed.{◌<ℤ◌, ◌≤ℤ◌}
use borrow.Author.Differences.{ints}
use Rattle.exact_math.specs.Contains.{Contains}
use Rattle.exact_math.specs.Ends.{BoxEnds, point_box, scale_box, quot_box, gquot_box, BoxEndsContain}
use Rattle.exact_math.specs.Gaussian.{Gaussian, norm_gaussian, conj, scale_gaussian}
use Rattle.exact_math.specs.Ratio.{Ratio, over_ratio, ComplexRatio, over_complex, ◌*ᶜ◌, reciprocal}
use Rattle.exact_math.specs.Sums.{pow_complex, natural_complex}
use Rattle.exact_math.proofs.Ring.{int_ring}
use Rattle.exact_math.proofs.RingTactic.{int_quotes, ring2, ring3, ring5}
use Rattle.exact_math.proofs.Integers.{*-cancel_≤}
use Rattle.exact_math.specs.Binomials.{choose}
use Rattle.exact_math.proofs.EndsBridges.{BoxEndsContain-point, BoxEndsContain-quot, BoxEndsContain-gquot, BoxEndsContain-scale, BoxEndsContain-neg}
use Rattle.kernel_table.specs.Kernel.{kernel_power, kernel_entry, alternate_box, alternate_complex, kernel_fraction}
use Rattle.kernel_table.proofs.PowersOfTwo.{two_power, power_positive, power_add}

-- another fraction in another unit, with the same multiple
rescaled : {u v lo hi : ℤ} {x y : Ratio} → Contains u lo hi x → x.denominator ≡ y.denominator → u *ℤ x.numerator ≡ v *ℤ y.numerator → Contains v lo hi y
rescaled {u} {v} {lo} {hi} h d e = record {
  fraction = subst (λ z. pos 0 <ℤ z) d h.fraction;
  above = subst₂ (λ a b. (lo *ℤ a) ≤ℤ b) d e h.above;
  below = subst₂ (λ a b. b ≤ℤ (hi *ℤ a)) d e h.below;
}

-- x over m in units of 1/(v m) is x in units of 1/v
unscaled : (v m : ℤ) {lo hi : ℤ} {x : Ratio} → pos 0 <ℤ m → pos 0 <ℤ x.denominator → Contains (v *ℤ m) lo hi (over_ratio x m) → Contains v lo hi x
unscaled v m {lo} {hi} {x} m>0 d>0 h = record {
  fraction = d>0;
  above = *-cancel_≤ m _ _ m>0 (subst₂ ◌≤ℤ◌ (left m lo x.denominator) (right m v x.numerator) h.above);
  below = *-cancel_≤ m _ _ m>0 (subst₂ ◌≤ℤ◌ (right m v x.numerator) (left m hi x.denominator) h.below);
}
  where
    left : (m a d : ℤ) → a *ℤ (d *ℤ m) ≡ m *ℤ (a *ℤ d)
    left m a d = ring3 int_ring m a d (λ m a d. search int_quotes depth 12) tt

    right : (m v n : ℤ) → v *ℤ m *ℤ n ≡ m *ℤ (v *ℤ n)
    right m v n = ring3 int_ring m v n (λ m v n. search int_quotes depth 12) tt

module _ (e : Gaussian) (positive : pos 1 ≤ℤ norm_gaussian e) where
  -- what is counted in units of 1/u is divided by e in units of 1/(2 u)
  divided : {u : ℤ} {b : BoxEnds} {x : ComplexRatio} → BoxEndsContain u b x → BoxEndsContain (pos 2 *ℤ u) (gquot_box b (conj (scale_gaussian 2 e)) (norm_gaussian e)) (reciprocal e *ᶜ x)
  divided {u} {b} {x} h =
      let k = BoxEndsContain-gquot h (conj (scale_gaussian 2 e)) (norm_gaussian e) positive in
      record { re = rescaled k.re (under x.denominator (norm_gaussian e)) (re_is u e.re e.im x.re x.im); im = rescaled k.im (under x.denominator (norm_gaussian e)) (im_is u e.re e.im x.re x.im) }
    where
      under : (d n : ℤ) → pos 1 *ℤ d *ℤ n ≡ n *ℤ d
      under d n = ring2 int_ring d n (λ d n. search int_quotes depth 12) tt

      re_is : (u p q a b : ℤ) → u *ℤ (pos 2 *ℤ p *ℤ a -ℤ neg_ℤ (pos 2 *ℤ q) *ℤ b) ≡ pos 2 *ℤ u *ℤ (p *ℤ a -ℤ neg_ℤ q *ℤ b)
      re_is u p q a b = ring5 int_ring u p q a b (λ u p q a b. search int_quotes depth 14) tt

      im_is : (u p q a b : ℤ) → u *ℤ (pos 2 *ℤ p *ℤ b +ℤ neg_ℤ (pos 2 *ℤ q) *ℤ a) ≡ pos 2 *ℤ u *ℤ (p *ℤ b +ℤ neg_ℤ q *ℤ a)
      im_is u p q a b = ring5 int_ring u p q a b (λ u p q a b. search int_quotes depth 14) tt

  first : BoxEndsContain (pos (2 ^ 60)) (quot_box (point_box (pos (2 ^ 60) *ℤ e.re) (neg_ℤ (pos (2 ^ 60) *ℤ e.im))) (norm_gaussian e)) (pow_complex (reciprocal e) 1)
  first =
      let k = BoxEndsContain-quot (BoxEndsContain-point (pos (2 ^ 60) *ℤ e.re) (neg_ℤ (pos (2 ^ 60) *ℤ e.im))) (norm_gaussian e) positive in
      record { re = rescaled k.re (under (norm_gaussian e)) (re_is (pos (2 ^ 60)) e.re e.im); im = rescaled k.im (under (norm_gaussian e)) (im_is (pos (2 ^ 60)) e.re e.im) }
    where
      under : (n : ℤ) → pos 1 *ℤ n ≡ n *ℤ pos 1
      under n = omega (arith, ints)

      re_is : (u p q : ℤ) → pos 1 *ℤ (u *ℤ p) ≡ u *ℤ (p *ℤ pos 1 -ℤ neg_ℤ q *ℤ pos 0)
      re_is u p q = ring3 int_ring u p q (λ u p q. search int_quotes depth 14) tt

      im_is : (u p q : ℤ) → pos 1 *ℤ neg_ℤ (u *ℤ q) ≡ u *ℤ (p *ℤ pos 0 +ℤ neg_ℤ q *ℤ pos 1)
      im_is u p q = ring3 int_ring u p q (λ u p q. search int_quotes depth 14) tt

  -- the power n contains 1/e^(n + 1) in units of 2^-(60 + n)
  pub kernel_power_contains : (n : ℕ) → BoxEndsContain (pos (2 ^ (60 + n))) (kernel_power e n) (pow_complex (reciprocal e) (suc n))
  unfolding kernel_power
  kernel_power_contains zero = first
  kernel_power_contains (suc n) = subst (λ u. BoxEndsContain u (gquot_box (kernel_power e n) (conj (scale_gaussian 2 e)) (norm_gaussian e)) (reciprocal e *ᶜ pow_complex (reciprocal e) (suc n))) unit
      (divided (kernel_power_contains n))
    where
      unit : pos 2 *ℤ pos (2 ^ (60 + n)) ≡ pos (2 ^ (60 + suc n))
      unit = ap pos (sym (two_power (60 + n)) ∙ ap (λ m. 2 ^ m) {x = suc (60 + n)} {y = 60 + suc n} (omega arith))

  contains-alternate : (l : ℕ) {u : ℤ} {b : BoxEnds} {x : ComplexRatio} → BoxEndsContain u b x → BoxEndsContain u (alternate_box l b) (alternate_complex l x)
  contains-alternate zero h = h
  contains-alternate (suc l) h = BoxEndsContain-neg (contains-alternate l h)

  -- C(k + l, k)/e^(k + l + 1)
  abbrev unsigned_fraction : ℕ → ℕ → ComplexRatio
  unsigned_fraction k l = natural_complex (choose (k + l) k) *ᶜ pow_complex (reciprocal e) (suc (k + l))

  module _ (k l : ℕ) where
    -- the last rounding divides by this
    abbrev divisor : ℤ
    divisor = pos (2 ^ (k + l + 20))

    divisor>0 : pos 0 <ℤ divisor
    divisor>0 = let h = power_positive (k + l + 20) in omega (arith, ints)

    scaled : BoxEndsContain (pos (2 ^ 40) *ℤ divisor) (scale_box (kernel_power e (k + l)) (pos (choose (k + l) k))) (unsigned_fraction k l)
    scaled = subst (λ u. BoxEndsContain u (scale_box (kernel_power e (k + l)) (pos (choose (k + l) k))) (unsigned_fraction k l)) unit
        (BoxEndsContain-scale (kernel_power_contains (k + l)) (pos (choose (k + l) k)))
      where
        unit : pos (2 ^ (60 + (k + l))) ≡ pos (2 ^ 40) *ℤ divisor
        unit = ap pos (ap (λ n. 2 ^ n) {x = 60 + (k + l)} {y = 40 + (k + l + 20)} (omega arith) ∙ power_add 40 (k + l + 20))

    quotient : BoxEndsContain (pos (2 ^ 40) *ℤ divisor) (quot_box (scale_box (kernel_power e (k + l)) (pos (choose (k + l) k))) divisor) (over_complex (unsigned_fraction k l) divisor)
    quotient = let h = divisor>0 in BoxEndsContain-quot scaled divisor (omega (arith, ints, h))

    -- the entry contains the exact kernel in units of 2^-40
    pub kernel_entry_contains : BoxEndsContain (pos (2 ^ 40)) (kernel_entry e k l) (kernel_fraction e k l)
    unfolding kernel_entry kernel_fraction
    kernel_entry_contains = contains-alternate l (record {
      re = unscaled (pos (2 ^ 40)) divisor divisor>0 scaled.re.fraction quotient.re;
      im = unscaled (pos (2 ^ 40)) divisor divisor>0 scaled.im.fraction quotient.im;
    })
