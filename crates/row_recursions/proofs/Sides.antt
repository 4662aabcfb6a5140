-- Offsets counted in sides: (u + t)/s with t^2 = 0, where 2 u = o is the doubled offset.
use Rattle.exact_math.proofs.Common.{◌≡◌, refl, sym, ap, subst, ◌∙◌, ℕ, arith, ints, pos, ◌+ℤ◌, ◌*ℤ◌, CommutativeRing, quotes, combine, ring3, ring4, ring5, ring7, rational_ring, of_int, of_int-add, int-<, inverse, inverse_right, ℂ, complex_rationals, of_int_ℂ, ◌+ℂ◌, ◌*ℂ◌, neg_ℂ, real, parts-add, parts-int}
use Prim.Native.Nat.{◌<◌, ◌*◌}
use Rattle.exact_math.specs.Gaussian.{Gaussian}
use Rattle.exact_math.proofs.BoxEnclosures.{EnclosesBox, EnclosesBox-quot}
use Rattle.exact_math.proofs.ComplexRationals.{real-mul}
use Rattle.exact_math.proofs.Fractions.{complex_value, complex_value-split}
use Rattle.exact_math.proofs.Gaussians.{value}
use Rattle.exact_math.proofs.QuadraticExtension.{Pair, same_pair, dual_ring}
use Rattle.row_recursions.specs.Rows.{units_over}
use Rattle.row_recursions.proofs.BoxSums.{units, value-multiple, EnclosesBox-units}

-- 1/n
pub reciprocal : ℕ → ℂ
reciprocal n = real (inverse (of_int (pos n)))

pub reciprocal-is : (n : ℕ) → reciprocal n ≡ real (inverse (of_int (pos n)))
unfolding reciprocal
reciprocal-is n = refl

-- n (1/n) = 1
pub reciprocal-right : (n : ℕ) → 0 < n → of_int_ℂ (pos n) *ℂ reciprocal n ≡ of_int_ℂ (pos 1)
unfolding reciprocal
reciprocal-right n h = ap (λ z. z *ℂ real (inverse (of_int (pos n)))) (parts-int (pos n)) ∙ real-mul _ _ ∙ ap real (inverse_right _ (int-< _ _ (omega (arith, ints)))) ∙ sym (parts-int (pos 1))

-- 2 s
pub int-double : (s : ℕ) → of_int_ℂ (pos (2 * s)) ≡ of_int_ℂ (pos 2) *ℂ of_int_ℂ (pos s)
int-double s = complex_rationals.of_int-mul (pos 2) (pos s)

-- 2/(2 s) = 1/s
pub reciprocal-double : (s : ℕ) → 0 < s → of_int_ℂ (pos 2) *ℂ reciprocal (2 * s) ≡ reciprocal s
reciprocal-double s h =
    let two = of_int_ℂ (pos 2) in
    let n = of_int_ℂ (pos s) in
    let m = of_int_ℂ (pos (2 * s)) in
    let r = reciprocal s in
    let t = reciprocal (2 * s) in
    combine complex_rationals (neg_ℂ (two *ℂ t)) (reciprocal-right s h)
    (combine complex_rationals (neg_ℂ (r *ℂ t)) (int-double s)
    (combine complex_rationals r (reciprocal-right (2 * s) (omega arith))
    (ring4 complex_rationals n m r t (λ n m r t. search quotes depth 12) tt)))

-- s (w/s) = w
pub side_over : (s : ℕ) (w : ℂ) → 0 < s → of_int_ℂ (pos s) *ℂ (reciprocal s *ℂ w) ≡ w
side_over s w h = combine complex_rationals w (reciprocal-right s h) (ring3 complex_rationals (of_int_ℂ (pos s)) (reciprocal s) w (λ n r w. search quotes depth 12) tt)

-- o/(2 s)
abbrev pub sides : ℕ → Gaussian → ℂ
sides s o = value o *ℂ reciprocal (2 * s)

-- 2 s times it is o
pub sides-doubled : (s : ℕ) (o : Gaussian) → 0 < s → of_int_ℂ (pos (2 * s)) *ℂ sides s o ≡ value o
sides-doubled s o h = combine complex_rationals (value o) (reciprocal-right (2 * s) (omega arith))
    (ring3 complex_rationals (of_int_ℂ (pos (2 * s))) (value o) (reciprocal (2 * s)) (λ s o r. search quotes depth 12) tt)

-- the half of g, over s
pub over_half : (s : ℕ) (o : Gaussian) → 0 < s → reciprocal s *ℂ complex_value (record { re = o.re; im = o.im; denominator = pos 2 }) ≡ sides s o
over_half s o h = ap (λ z. reciprocal s *ℂ z) (complex_value-split o (pos 2) ∙ ap (λ z. value o *ℂ z) (sym (reciprocal-is 2))) ∙ quarter (value o)
  where
    quarter : (z : ℂ) → reciprocal s *ℂ (z *ℂ reciprocal 2) ≡ z *ℂ reciprocal (2 * s)
    quarter z = combine complex_rationals (neg_ℂ (z *ℂ reciprocal 2)) (reciprocal-double s h)
        (combine complex_rationals (z *ℂ reciprocal (2 * s)) (reciprocal-right 2 (omega arith))
        (ring4 complex_rationals z (reciprocal s) (reciprocal 2) (reciprocal (2 * s)) (λ z r a t. search quotes depth 12) tt))

abbrev pub dual_complex : CommutativeRing
dual_complex = dual_ring complex_rationals

-- the place of a source in sides, with the direction of its dipole
abbrev pub place : ℕ → Gaussian → Pair complex_rationals
place s o = record { re = sides s o; im = reciprocal s }

-- the doubled offset from the parent's centre of what has o from the centre of the child of side s with the quadrant q
abbrev pub parent_offset : ℕ → Gaussian → Gaussian → Gaussian
parent_offset s q o = record { re = o.re +ℤ pos s *ℤ q.re; im = o.im +ℤ pos s *ℤ q.im }

pub parent_offset-value : (s : ℕ) (q o : Gaussian) → value (parent_offset s q o) ≡ value o +ℂ of_int_ℂ (pos s) *ℂ value q
parent_offset-value s q o =
    same_pair rational_ring _ _ (of_int-add _ _) (of_int-add _ _) ∙ sym (parts-add (value o) (value (record { re = pos s *ℤ q.re; im = pos s *ℤ q.im }))) ∙ ap (λ z. value o +ℂ z) (value-multiple (pos s) q)

-- the place about the parent's centre, in the parent's sides
pub place-parent : (s : ℕ) (q o : Gaussian) → 0 < s
    → dual_complex.mul (dual_complex.of_int (pos 4)) (place (2 * s) (parent_offset s q o))
    ≡ dual_complex.add (dual_complex.mul (dual_complex.of_int (pos 2)) (place s o)) (record { re = value q; im = of_int_ℂ (pos 0) })
place-parent s q o h =
    let p = value (parent_offset s q o) in
    let z = value o in
    let g = value q in
    let n = of_int_ℂ (pos s) in
    let r = reciprocal s in
    let half = reciprocal (2 * s) in
    let quarter = reciprocal (2 * (2 * s)) in
    let halves : of_int_ℂ (pos 2) *ℂ half ≡ r = reciprocal-double s h in
    let quarters : of_int_ℂ (pos 2) *ℂ quarter ≡ half = reciprocal-double (2 * s) (omega arith) in
    same_pair complex_rationals _ _
    (combine complex_rationals (of_int_ℂ (pos 4) *ℂ quarter) (parent_offset-value s q o)
    (combine complex_rationals (of_int_ℂ (pos 2) *ℂ (z +ℂ n *ℂ g)) quarters
    (combine complex_rationals (n *ℂ g) halves
    (combine complex_rationals g (reciprocal-right s h)
    (ring7 complex_rationals p z g n r half quarter (λ p z g n r a b. search quotes depth 14) tt)))))
    (combine complex_rationals (of_int_ℂ (pos 2)) halves (ring5 complex_rationals p z quarter half r (λ p o a b c. search quotes depth 14) tt))

-- 2^40 b/s
pub EnclosesBox-units_over : (b : Gaussian) (s : ℕ) → 0 < s → EnclosesBox (units_over b s) (units *ℂ value b *ℂ reciprocal s)
EnclosesBox-units_over b s h = EnclosesBox-quot (pos s) (omega (arith, ints)) (subst (EnclosesBox _)
    (combine complex_rationals (neg_ℂ (units *ℂ value b)) (reciprocal-right s h)
    (ring4 complex_rationals units (value b) (of_int_ℂ (pos s)) (reciprocal s) (λ u b s r. search quotes depth 12) tt))
    (EnclosesBox-units b))
