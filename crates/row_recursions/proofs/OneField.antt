-- The coefficients of a field in a cell are the same, whatever row holds it: its polynomial is known at all whole places, and where a place
-- has the offset o from the centre, another has 3 o.
use Rattle.exact_math.proofs.Common.{◌≡◌, sym, ap, ap₂, subst, ◌∙◌, ℕ, arith, ints, ℤ, pos, negsuc, ◌+ℤ◌, ◌-ℤ◌, ◌*ℤ◌, ◌<ℤ◌, quotes, combine, ring4, ℂ, complex_rationals, of_int_ℂ, ◌-ℂ◌, ◌*ℂ◌, neg_ℂ, inverse_ℂ, *ℂ-inverse}
use Prim.Native.Nat.{◌+◌, ◌*◌, ◌<◌}
use Rattle.std.specs.Prelude.{unsigned_abs}
use Rattle.exact_math.specs.Ends.{BoxEnds}
use Rattle.exact_math.specs.Gaussian.{Gaussian, gaussian, norm_gaussian}
use Rattle.exact_math.specs.Ratio.{ComplexRatio}
use Rattle.exact_math.proofs.Fractions.{Stands, same_from_stands}
use Rattle.exact_math.proofs.Gaussians.{value}
use Rattle.exact_math.proofs.Integers.{*-positive}
use Rattle.exact_math.proofs.GaussianSizes.{square_abs}
use Rattle.truncation.specs.Places.{doubled_offset}
use Rattle.row_recursions.specs.Fields.{HoldsField}
use Rattle.row_recursions.specs.Laws.{OneField}
use Rattle.row_recursions.proofs.BoxSums.{value-multiple}
use Rattle.row_recursions.proofs.FieldLaws.{held_coefficient, coefficient_stands, field_stands}
use Rattle.row_recursions.proofs.Halves.{value_positive}
use Rattle.row_recursions.proofs.PolynomialZeros.{three, polynomial_unique}
use Rattle.row_recursions.proofs.Sides.{sides, reciprocal, reciprocal-right}

-- the place with three times the offset of t
tripled : Gaussian → Gaussian → Gaussian
tripled b t = gaussian (pos 3 *ℤ t.re -ℤ b.re) (pos 3 *ℤ t.im -ℤ b.im)

tripled-offset : (b t : Gaussian) → doubled_offset (tripled b t) b ≡ gaussian (pos 3 *ℤ (doubled_offset t b).re) (pos 3 *ℤ (doubled_offset t b).im)
unfolding tripled
tripled-offset b t = ap₂ gaussian (part t.re b.re) (part t.im b.im)
  where
    part : (x c : ℤ) → pos 3 *ℤ x -ℤ c +ℤ (pos 3 *ℤ x -ℤ c) -ℤ c ≡ pos 3 *ℤ (x +ℤ x -ℤ c)
    part x c = omega (arith, ints)

-- a place off the centre
beside : Gaussian → Gaussian
beside b = gaussian (pos (unsigned_abs b.re + 1)) (pos 0)

beside-apart : (b : Gaussian) → pos 0 <ℤ norm_gaussian (doubled_offset (beside b) b)
unfolding beside
beside-apart b =
    let o = doubled_offset (gaussian (pos (unsigned_abs b.re + 1)) (pos 0)) b in
    let h = right b.re in
    let p = *-positive o.re o.re h h in
    let q = square_abs o.im in
    omega (arith, ints, p, q)
  where
    right : (c : ℤ) → pos 0 <ℤ (pos (unsigned_abs c + 1) +ℤ pos (unsigned_abs c + 1) -ℤ c)
    right (pos n) = omega (arith, ints)
    right (negsuc n) = omega (arith, ints)

module _ (s : ℕ) (b : Gaussian) (s>0 : 0 < s) where
  abbrev point : Gaussian → ℂ
  point t = sides s (doubled_offset t b)

  triples : (t : Gaussian) → point (tripled b t) ≡ three *ℂ point t
  triples t = ap (λ o. value o *ℂ reciprocal (2 * s)) (tripled-offset b t) ∙ ap (λ z. z *ℂ reciprocal (2 * s)) (value-multiple (pos 3) (doubled_offset t b)) ∙ complex_rationals.mul_assoc _ _ _

  abbrev inverse_point : ℂ
  inverse_point = inverse_ℂ (value (doubled_offset (beside b) b)) *ℂ of_int_ℂ (pos (2 * s))

  inverts : point (beside b) *ℂ inverse_point ≡ of_int_ℂ (pos 1)
  inverts =
      let v = value (doubled_offset (beside b) b) in
      let i = inverse_ℂ v in
      let n = of_int_ℂ (pos (2 * s)) in
      let r = reciprocal (2 * s) in
      combine complex_rationals (n *ℂ r) (*ℂ-inverse v (value_positive (doubled_offset (beside b) b) (beside-apart b)))
      (combine complex_rationals (of_int_ℂ (pos 1)) (reciprocal-right (2 * s) (omega arith))
      (ring4 complex_rationals v i n r (λ v i n r. search quotes depth 12) tt))

  without_side : (p q : ℂ) → p *ℂ reciprocal s ≡ q *ℂ reciprocal s → p ≡ q
  without_side p q e = combine complex_rationals (neg_ℂ (p -ℂ q)) (reciprocal-right s s>0)
      (combine complex_rationals (of_int_ℂ (pos s)) e (ring4 complex_rationals (reciprocal s) (of_int_ℂ (pos s)) p q (λ r n p q. search quotes depth 14) tt))

  pub same_coefficients : (P : ℕ) (field : Gaussian → ComplexRatio) (m n : ℕ → BoxEnds) (h : HoldsField P s b field m) (k : HoldsField P s b field n) → (l : ℕ) → l < P → held_coefficient s>0 h l ≡ held_coefficient s>0 k l
  same_coefficients P field m n h k = polynomial_unique point (tripled b) triples (beside b) inverse_point inverts P (held_coefficient s>0 h) (held_coefficient s>0 k)
      (λ t. without_side _ _ (sym (field_stands s>0 h t).is ∙ (field_stands s>0 k t).is))

pub one_field : OneField
one_field P s b field m n s≥1 h k l i = same_from_stands (coefficient_stands s≥1 h l) (subst (Stands (k.coefficient l)) (sym (same_coefficients s b s≥1 P field m n h k l i)) (coefficient_stands s≥1 k l))
