-- Offsets, which are halves of doubled offsets, and their inverses.
use Rattle.exact_math.proofs.Common.{◌≡◌, sym, ap, subst, ◌∙◌, ℕ, arith, ints, pos, ◌<ℤ◌, quotes, combine, ring3, ring6, ℚ, rational_ring, of_int, ◌+ℚ◌, ◌*ℚ◌, ◌<ℚ◌, int-<, inverse, inverse_positive, positive_mul, ℂ, complex_rationals, of_int_ℂ, ◌*ℂ◌, inverse_ℂ, *ℂ-inverse, norm}
use Prim.Native.Nat.{◌<◌, ◌*◌}
use Rattle.exact_math.specs.Gaussian.{Gaussian, norm_gaussian}
use Rattle.exact_math.proofs.ComplexRationals.{inverse_unique}
use Rattle.exact_math.proofs.Fractions.{complex_value-split, Stands}
use Rattle.exact_math.proofs.Gaussians.{value, value-norm}
use Rattle.truncation.proofs.CutValues.{halved_value}
use Rattle.row_recursions.specs.Moments.{in_sides}
use Rattle.row_recursions.proofs.Sides.{reciprocal, reciprocal-is, reciprocal-right, int-double, sides, over_half}

-- g/2
pub halved-is : (g : Gaussian) → halved_value g ≡ value g *ℂ reciprocal 2
halved-is g = complex_value-split g (pos 2) ∙ ap (λ z. value g *ℂ z) (sym (reciprocal-is 2))

-- u/s is o/(2 s)
pub sides-half : (s : ℕ) (o : Gaussian) → 0 < s → reciprocal s *ℂ halved_value o ≡ sides s o
sides-half s o h = over_half s o h

-- what u/s stands for
pub Stands-in_sides : (s : ℕ) (o : Gaussian) → 0 < s → Stands (in_sides s o) (sides s o)
Stands-in_sides s o h = record { positive = omega (arith, ints); is = complex_value-split o (pos (2 * s)) ∙ ap (λ z. value o *ℂ z) (sym (reciprocal-is (2 * s))) }

-- other than 0
pub value_positive : (g : Gaussian) → pos 0 <ℤ norm_gaussian g → of_int (pos 0) <ℚ norm (value g)
value_positive g h = subst (λ n. of_int (pos 0) <ℚ n) (value-norm g) (int-< _ _ h)

pub halved_positive : (g : Gaussian) → pos 0 <ℤ norm_gaussian g → of_int (pos 0) <ℚ norm (halved_value g)
halved_positive g h =
    let i>0 : of_int (pos 0) <ℚ inverse (of_int (pos 2)) = inverse_positive _ (int-< _ _ (omega (arith, ints))) in
    subst (λ n. of_int (pos 0) <ℚ n) (quarter (of_int g.re) (of_int g.im) (inverse (of_int (pos 2)))) (positive_mul _ _ (positive_mul _ _ i>0 i>0) (value_positive g h))
  where
    quarter : (a b i : ℚ) → i *ℚ i *ℚ (a *ℚ a +ℚ b *ℚ b) ≡ a *ℚ i *ℚ (a *ℚ i) +ℚ b *ℚ i *ℚ (b *ℚ i)
    quarter a b i = ring3 rational_ring a b i (λ a b i. search quotes depth 12) tt

-- 2 s/zeta, for the doubled offset zeta
abbrev pub far_ratio : ℕ → Gaussian → ℂ
far_ratio s zeta = of_int_ℂ (pos (2 * s)) *ℂ inverse_ℂ (value zeta)

pub far_ratio-is : (s : ℕ) (zeta : Gaussian) → pos 0 <ℤ norm_gaussian zeta → value zeta *ℂ far_ratio s zeta ≡ of_int_ℂ (pos (2 * s))
far_ratio-is s zeta h = combine complex_rationals (of_int_ℂ (pos (2 * s))) (*ℂ-inverse (value zeta) (value_positive zeta h))
    (ring3 complex_rationals (of_int_ℂ (pos (2 * s))) (value zeta) (inverse_ℂ (value zeta)) (λ m z i. search quotes depth 12) tt)

-- over s it is 1/w, for w = zeta/2
pub far_ratio-over : (s : ℕ) (zeta : Gaussian) → 0 < s → pos 0 <ℤ norm_gaussian zeta → reciprocal s *ℂ far_ratio s zeta ≡ inverse_ℂ (halved_value zeta)
far_ratio-over s zeta s>0 h = inverse_unique (halved_value zeta) (reciprocal s *ℂ far_ratio s zeta) (halved_positive zeta h)
    (ap (λ w. w *ℂ (reciprocal s *ℂ far_ratio s zeta)) (halved-is zeta) ∙ one)
  where
    one : value zeta *ℂ reciprocal 2 *ℂ (reciprocal s *ℂ far_ratio s zeta) ≡ of_int_ℂ (pos 1)
    one =
        let v = value zeta in
        let i = inverse_ℂ (value zeta) in
        let r = reciprocal s in
        let n = of_int_ℂ (pos s) in
        let m = of_int_ℂ (pos (2 * s)) in
        let a = reciprocal 2 in
        combine complex_rationals (v *ℂ i *ℂ a *ℂ r) (int-double s)
        (combine complex_rationals (v *ℂ i *ℂ r *ℂ n) (reciprocal-right 2 (omega arith))
        (combine complex_rationals (v *ℂ i) (reciprocal-right s s>0)
        (combine complex_rationals (of_int_ℂ (pos 1)) (*ℂ-inverse (value zeta) (value_positive zeta h))
        (ring6 complex_rationals v i r n m a (λ v i r n m a. search quotes depth 14) tt))))
