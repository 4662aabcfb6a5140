-- What multiples, sums and quotients of boxes hold, for complex numbers with rational parts.
use Rattle.exact_math.proofs.Common.{◌≡◌, sym, ap, subst, ◌∙◌, ℕ, zero, suc, arith, ints, ℤ, pos, neg_ℤ, ◌*ℤ◌, ◌<ℤ◌, quotes, combine, ring2, ring7, rational_ring, of_int, of_int-mul, ◌*ℚ◌, neg_ℚ, sum_below, ℂ, complex_rationals, of_int_ℂ, ◌*ℂ◌, neg_ℂ, real, parts-int}
use Prim.Native.Nat.{◌<◌, ◌^◌}
use Rattle.exact_math.specs.Ends.{BoxEnds, scale_box}
use Rattle.exact_math.specs.Gaussian.{Gaussian, gaussian, conj, norm_gaussian, scale_gaussian}
use Rattle.exact_math.proofs.BoxEnclosures.{EnclosesBox, EnclosesBox-zero, EnclosesBox-add, EnclosesBox-gquot, whole_times}
use Rattle.exact_math.proofs.ComplexRationals.{times_conjugate}
use Rattle.exact_math.proofs.Enclosures.{Encloses-whole, Encloses-scale, of_int-neg}
use Rattle.exact_math.proofs.Gaussians.{value, value-conj, value-norm}
use Rattle.exact_math.proofs.QuadraticExtension.{same_pair}
use Rattle.row_recursions.specs.Rows.{units_box, ratio_box, sum_boxes}

-- the units in 1
abbrev pub units : ℂ
units = of_int_ℂ (pos (2 ^ 40))

-- k z, for a whole number k
pub EnclosesBox-scale : (k : ℤ) {b : BoxEnds} {z : ℂ} → EnclosesBox b z → EnclosesBox (scale_box b k) (of_int_ℂ k *ℂ z)
EnclosesBox-scale k {b} {z} h = rw (whole_times k z) (record { re = Encloses-scale k h.re; im = Encloses-scale k h.im })

-- the sum of the first n terms
pub EnclosesBox-sum : (n : ℕ) (f : ℕ → BoxEnds) (g : ℕ → ℂ) → ((k : ℕ) → k < n → EnclosesBox (f k) (g k)) → EnclosesBox (sum_boxes n f) (sum_below complex_rationals n g)
EnclosesBox-sum zero f g h = EnclosesBox-zero
EnclosesBox-sum (suc n) f g h = EnclosesBox-add (EnclosesBox-sum n f g (λ k l. h k (omega arith))) (h n (omega arith))

-- the value of n g
pub value-multiple : (n : ℤ) (g : Gaussian) → value (gaussian (n *ℤ g.re) (n *ℤ g.im)) ≡ of_int_ℂ n *ℂ value g
value-multiple n g = same_pair rational_ring _ _ (of_int-mul n g.re) (of_int-mul n g.im) ∙ sym (whole_times n (value g))

-- 2^40 a
pub EnclosesBox-units : (a : Gaussian) → EnclosesBox (units_box a) (units *ℂ value a)
EnclosesBox-units a = subst (EnclosesBox (units_box a)) (value-multiple (pos (2 ^ 40)) a) (record { re = Encloses-whole _; im = Encloses-whole _ })

-- the value of m conj g
pub value-conj_multiple : (m : ℕ) (g : Gaussian) → value (conj (scale_gaussian m g)) ≡ of_int_ℂ (pos m) *ℂ value (conj g)
value-conj_multiple m g = same_pair rational_ring _ _ (of_int-mul (pos m) g.re) (turned (pos m) g.im) ∙ sym (whole_times (pos m) (value (conj g)))
  where
    turned : (m b : ℤ) → of_int (neg_ℤ (m *ℤ b)) ≡ of_int m *ℚ of_int (neg_ℤ b)
    turned m b =
        of_int-neg (m *ℤ b) ∙ ap neg_ℚ (of_int-mul m b) ∙ ring2 rational_ring (of_int m) (of_int b) (λ m b. search quotes depth 9) tt
        ∙ ap (λ z. of_int m *ℚ z) (sym (of_int-neg b))

-- the norm of g is g times its conjugate
pub value-norm_gaussian : (g : Gaussian) → of_int_ℂ (norm_gaussian g) ≡ value g *ℂ value (conj g)
value-norm_gaussian g = parts-int _ ∙ ap real (value-norm g) ∙ sym (times_conjugate (value g)) ∙ ap (λ z. value g *ℂ z) (sym (value-conj g))

-- the box holds z, so the box of m/g times it holds w wherever g w = m z
pub EnclosesBox-ratio : (m : ℕ) (g : Gaussian) {b : BoxEnds} {z w : ℂ} → pos 0 <ℤ norm_gaussian g → EnclosesBox b z → value g *ℂ w ≡ of_int_ℂ (pos m) *ℂ z
    → EnclosesBox (ratio_box m g b) w
EnclosesBox-ratio m g {b} {z} {w} positive h e = EnclosesBox-gquot (conj (scale_gaussian m g)) (norm_gaussian g) (omega (arith, ints)) h
    (combine complex_rationals w (value-norm_gaussian g)
    (combine complex_rationals (value (conj g)) e
    (combine complex_rationals (neg_ℂ z) (value-conj_multiple m g)
    (ring7 complex_rationals (of_int_ℂ (norm_gaussian g)) (value g) (value (conj g)) (value (conj (scale_gaussian m g))) (of_int_ℂ (pos m)) w z (λ n g d v c w z. search quotes depth 12) tt))))
