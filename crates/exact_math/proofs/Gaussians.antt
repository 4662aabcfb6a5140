-- Gaussian integers as complex numbers.
use mathlib.Core.Path.{◌≡◌, refl, sym, ap, ap₂, ◌∙◌}
use Rattle.exact_math.specs.Gaussian.{Gaussian, mul_gaussian, sub_gaussian, conj, norm_gaussian}
use Rattle.exact_math.proofs.QuadraticExtension.{same_pair}
use Rattle.exact_math.proofs.Rationals.{rational_ring, of_int, of_int-add, of_int-mul, ◌+ℚ◌, neg_ℚ}
use Rattle.exact_math.proofs.ComplexRationals.{ℂ, complex, ◌*ℂ◌, ◌-ℂ◌, ◌+ℂ◌, parts-add, parts-neg, parts-mul, conjugate, norm}
use Rattle.exact_math.proofs.Enclosures.{of_int-neg}

-- the complex number g
abbrev pub value : Gaussian → ℂ
value g = complex (of_int g.re) (of_int g.im)

-- g h
pub value-mul : (g h : Gaussian) → value (mul_gaussian g h) ≡ value g *ℂ value h
value-mul g h =
    same_pair rational_ring _ _
    (of_int-add _ _ ∙ ap₂ ◌+ℚ◌ (of_int-mul _ _) (of_int-neg _ ∙ ap neg_ℚ (of_int-mul _ _)))
    (of_int-add _ _ ∙ ap₂ ◌+ℚ◌ (of_int-mul _ _) (of_int-mul _ _))
    ∙ sym (parts-mul _ _)

-- g - h
pub value-sub : (g h : Gaussian) → value (sub_gaussian g h) ≡ value g -ℂ value h
value-sub g h =
    same_pair rational_ring _ _
    (of_int-add _ _ ∙ ap (λ b. of_int g.re +ℚ b) (of_int-neg _))
    (of_int-add _ _ ∙ ap (λ b. of_int g.im +ℚ b) (of_int-neg _))
    ∙ sym (ap (λ w. value g +ℂ w) (parts-neg (value h)) ∙ parts-add _ _)

-- the conjugate
pub value-conj : (g : Gaussian) → value (conj g) ≡ conjugate (value g)
value-conj g = same_pair rational_ring _ _ refl (of_int-neg g.im)

-- the norm
pub value-norm : (g : Gaussian) → of_int (norm_gaussian g) ≡ norm (value g)
value-norm g = of_int-add _ _ ∙ ap₂ ◌+ℚ◌ (of_int-mul _ _) (of_int-mul _ _)
