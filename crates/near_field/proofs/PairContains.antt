-- The box of a pair contains the term of the pair.
use Rattle.std.proofs.Common.{◌≡◌, zero, suc, ◌^◌, refl, sym, ap, ◌∙◌, arith, ℤ, pos, negsuc, ◌-ℤ◌, ◌*ℤ◌, ◌<ℤ◌, Bool, true, false, not, ◌&&◌}
use Rattle.std.proofs.lemmas.Int.{ints}
use Rattle.std.proofs.lemmas.Bool.{false≢true}
use Rattle.std.proofs.lemmas.Bool.Decides.{Decides-int_eq}
use Rattle.std.specs.Ordering.{int_eq}
use Rattle.exact_math.specs.Ends.{BoxEndsContain}
use Rattle.exact_math.specs.Gaussian.{Gaussian, gaussian, sub_gaussian, norm_gaussian}
use Rattle.exact_math.specs.Ratio.{ComplexRatio, re_part, im_part}
use Rattle.exact_math.proofs.Integers.{*-positive, square_nonneg}
use Rattle.exact_math.proofs.Bridges.{contains-rounded}
use Rattle.points.specs.Points.{place, strength, is_source}
use Rattle.points.specs.declared.Point.{Point}
use Rattle.points.specs.declared.Strength.{Strength}
use Rattle.points.specs.declared.Strength.TheVariants.{Pole, Dipole, Nothing}
use Rattle.near_field.specs.DirectSum.{acts_on}
use Rattle.near_field.specs.Pair.{is_at, strength_term, term_of, outward, pair_box}

-- ---- the denominators are above 0
square_positive : (x : ℤ) → (x ≡ pos 0 → ⊥) → pos 0 <ℤ (x *ℤ x)
square_positive (pos zero) h = absurd (h refl)
square_positive (pos (suc n)) h = *-positive (pos (suc n)) (pos (suc n)) (omega (arith, ints)) (omega (arith, ints))
square_positive (negsuc n) h = omega (arith, ints)

-- a place that is not 0 has a norm above 0
pub norm_positive_re : (x y : ℤ) → (x ≡ pos 0 → ⊥) → pos 0 <ℤ norm_gaussian (gaussian x y)
norm_positive_re x y h =
    let p = square_positive x h in
    let q = square_nonneg y in
    omega (arith, ints)

pub norm_positive_im : (x y : ℤ) → (y ≡ pos 0 → ⊥) → pos 0 <ℤ norm_gaussian (gaussian x y)
norm_positive_im x y h =
    let p = square_nonneg x in
    let q = square_positive y h in
    omega (arith, ints)

differ : (x y : ℤ) → int_eq x y ≡ false → y -ℤ x ≡ pos 0 → ⊥
differ x y e h = false≢true (sym e ∙ (Decides-int_eq x y).1 (same x y h))
  where
    same : (x y : ℤ) → y -ℤ x ≡ pos 0 → x ≡ y
    same x y h = omega (arith, ints)

-- two places that differ are at a distance with a norm above 0
pub distance_positive : (t : Gaussian) (p : Point) → is_at t p ≡ false → pos 0 <ℤ norm_gaussian (sub_gaussian t (place p))
distance_positive t p e = cases (int_eq p.x t.re) refl
  where
    cases : (b : Bool) → int_eq p.x t.re ≡ b → pos 0 <ℤ norm_gaussian (sub_gaussian t (place p))
    cases false f = norm_positive_re (t.re -ℤ p.x) (t.im -ℤ p.y) (differ p.x t.re f)
    cases true f = norm_positive_im (t.re -ℤ p.x) (t.im -ℤ p.y) (differ p.y t.im (sym (ap (λ b. b && int_eq p.y t.im) f) ∙ e))

pub term_denominator : (a : Strength) (delta : Gaussian) → pos 0 <ℤ norm_gaussian delta → pos 0 <ℤ (strength_term a delta).denominator
term_denominator (Pole re im) delta h = h
term_denominator (Dipole re im) delta h = *-positive _ _ h h
term_denominator Nothing delta h = omega (arith, ints)

-- ---- a fraction rounded outward contains it
pub outward-contains : (z : ComplexRatio) → pos 0 <ℤ z.denominator → BoxEndsContain (pos (2 ^ 40)) (outward z) z
outward-contains z h = record { re = contains-rounded (pos (2 ^ 40)) (re_part z) h; im = contains-rounded (pos (2 ^ 40)) (im_part z) h }

-- the box of a pair contains the term
pub pair_box-contains : (t : Gaussian) (p : Point) → is_at t p ≡ false → BoxEndsContain (pos (2 ^ 40)) (pair_box t p) (term_of t p)
pair_box-contains t p e = rw e (outward-contains (term_of t p) (term_denominator (strength p.kind) _ (distance_positive t p e)))

-- a source that acts on a place is at another one
pub acts-apart : (t : Gaussian) (p : Point) → acts_on t p ≡ true → is_at t p ≡ false
acts-apart t p e = cases (is_source p.kind) (is_at t p) e
  where
    cases : (a b : Bool) → (a && not b) ≡ true → b ≡ false
    cases a false e = refl
    cases true true e = absurd (false≢true e)
    cases false true e = absurd (false≢true e)
