-- From what the calls in `pair` ensure to the definition of the pair's box.
use Rattle.std.proofs.Common.{◌≡◌, ◌∙◌, ◌*◌, ◌^◌, sym, ap, refl, arith, Bool, true, false, to_z-of_z, to_z, of_z, SFits, w64, ℤ, pos, ◌-ℤ◌, ◌≤ℤ◌}
use Rattle.std.proofs.lemmas.Int.{ints}
use Rattle.exact_math.specs.Ends.{BoxEnds, BoxEndsContain, BoxEndsNarrow, BoxEndsWithin, zero_box}
use Rattle.exact_math.specs.Gaussian.{Gaussian, gaussian}
use Rattle.exact_math.specs.Ratio.{ComplexRatio}
use Rattle.limits.specs.Grid.{IsInGrid}
use Rattle.limits.specs.Limits.{widest_grid}
use Rattle.points.specs.Limits.{InRange, weight64}
use Rattle.points.specs.Points.{strength}
use Rattle.points.specs.declared.Point.{Point}
use Rattle.near_field.specs.Pair.{is_at, outward, pair_box, strength_term, term_of}
use Rattle.near_field.proofs.PairContains.{distance_positive, term_denominator, pair_box-contains}
use Rattle.near_field.proofs.PairSizes.{pair_box-narrow, pair_box-within}

pub tested : (x y : ℤ) (p : Point) {b : Bool} → SFits w64 x → SFits w64 y → b ≡ is_at (gaussian (to_z w64 (of_z w64 x)) (to_z w64 (of_z w64 y))) p → is_at (gaussian x y) p ≡ b
tested x y p f g e = sym (simp to_z-of_z at e)

difference : (x a : ℤ) → SFits w64 x → SFits w64 a → SFits w64 (x -ℤ a) → to_z w64 (of_z w64 (to_z w64 (of_z w64 x) -ℤ to_z w64 (of_z w64 a))) ≡ x -ℤ a
difference x a f g h = omega (arith, ints)

pub term_is : (x y : ℤ) (p : Point) {z : ComplexRatio} → IsInGrid widest_grid x y → InRange widest_grid p
    → z ≡ strength_term (strength p.kind) (gaussian (to_z w64 (of_z w64 (to_z w64 (of_z w64 x) -ℤ to_z w64 (of_z w64 p.x)))) (to_z w64 (of_z w64 (to_z w64 (of_z w64 y) -ℤ to_z w64 (of_z w64 p.y)))))
    → z ≡ term_of (gaussian x y) p
term_is x y p grid range e =
    let dx = difference x p.x (omega (arith, ints)) (omega (arith, ints)) (omega (arith, ints)) in
    let dy = difference y p.y (omega (arith, ints)) (omega (arith, ints)) (omega (arith, ints)) in
    rw (dx, dy) at e

module _ (t : Gaussian) (p : Point) {z : ComplexRatio} (apart : is_at t p ≡ false) (term : z ≡ term_of t p) where
  pub denominator_positive : pos 1 ≤ℤ z.denominator
  denominator_positive = rw term (let h = term_denominator (strength p.kind) _ (distance_positive t p apart) in omega (arith, ints))

  pub is_pair_box : {e : BoxEnds} → e ≡ outward z → e ≡ pair_box t p
  is_pair_box q = q ∙ ap outward term ∙ rw apart refl

  pub contains_term : {e : BoxEnds} → e ≡ outward z → BoxEndsContain (pos (2 ^ 40)) e (term_of t p)
  contains_term q = rw (is_pair_box q) (pair_box-contains t p apart)

pub box_narrow : (t : Gaussian) (p : Point) {e : BoxEnds} → e ≡ pair_box t p → BoxEndsNarrow 1 e
box_narrow t p q = rw q (pair_box-narrow t p)

pub box_within : (t : Gaussian) (p : Point) {e : BoxEnds} → e ≡ pair_box t p → BoxEndsWithin (2 ^ 40 * weight64 p) e
box_within t p q = rw q (pair_box-within t p)

pub same_place : (t : Gaussian) (p : Point) {e : BoxEnds} → is_at t p ≡ true → e ≡ zero_box → e ≡ pair_box t p
same_place t p a q = q ∙ rw a refl
