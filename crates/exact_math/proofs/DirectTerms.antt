-- What reciprocals and the terms of the direct sum stand for: 1/g, a/delta for a pole and b/delta^2 for a dipole.
use mathlib.Core.Path.{◌≡◌, sym, ap, ap₂, subst, ◌∙◌}
use Prim.Native.Nat.{zero, suc}
use native.Mathlib.Omega.{arith}
use lib.IntN.{ℤ, pos, negsuc}
use lib.Signed.{◌<ℤ◌}
use borrow.Author.Differences.{ints}
use Rattle.exact_math.specs.Gaussian.{Gaussian, conj, norm_gaussian}
use Rattle.exact_math.specs.Ratio.{reciprocal}
use Rattle.exact_math.specs.Terms.{pole_term, dipole_term}
use Rattle.exact_math.proofs.RingTactic.{quotes, ring3}
use Rattle.exact_math.proofs.Integers.{*-positive}
use Rattle.exact_math.proofs.Rationals.{rational_ring, of_int, of_int-mul, of_int-≤, ◌*ℚ◌, inverse, ◌<ℚ◌, not_≤ℚ, ≤ℚ-refl}
use Rattle.exact_math.proofs.RationalOrder.{inverse-mul, int-<}
use Rattle.exact_math.proofs.ComplexRationals.{complex_rationals, ◌*ℂ◌, conjugate, norm, real, real-mul, inverse_ℂ, inverse_ℂ-is, *ℂ_assoc, parts-inverse}
use Rattle.exact_math.proofs.QuadraticExtension.{same_pair}
use Rattle.exact_math.proofs.Enclosures.{of_int-neg}
use Rattle.exact_math.proofs.Gaussians.{value, value-mul, value-conj, value-norm}
use Rattle.exact_math.proofs.Fractions.{complex_value, complex_value-split, Stands}

-- a conj delta / norm delta
pub pole-value : (a delta : Gaussian) → complex_value (pole_term a delta) ≡ value a *ℂ inverse_ℂ (value delta)
pole-value a delta =
    complex_value-split _ _ ∙ ap₂ (λ w q. w *ℂ real (inverse q)) (value-mul a (conj delta) ∙ ap (λ w. value a *ℂ w) (value-conj delta)) (value-norm delta)
    ∙ *ℂ_assoc _ _ _ ∙ ap (λ w. value a *ℂ w) (sym (inverse_ℂ-is (value delta)))

-- b (conj delta)^2 / (norm delta)^2
pub dipole-value : (b delta : Gaussian) → of_int (pos 0) <ℚ norm (value delta)
    → complex_value (dipole_term b delta) ≡ value b *ℂ (inverse_ℂ (value delta) *ℂ inverse_ℂ (value delta))
dipole-value b delta positive =
    let c = conjugate (value delta) in
    let n = norm (value delta) in
    complex_value-split _ _
    ∙ ap₂ ◌*ℂ◌
    (value-mul b _ ∙ ap (λ w. value b *ℂ w) (value-mul _ _ ∙ ap₂ ◌*ℂ◌ (value-conj delta) (value-conj delta)))
    (ap real (ap inverse (of_int-mul _ _ ∙ ap₂ ◌*ℚ◌ (value-norm delta) (value-norm delta)) ∙ inverse-mul n n positive positive) ∙ sym (real-mul (inverse n) (inverse n)))
    ∙ ring3 complex_rationals (value b) c (real (inverse n)) (λ b c r. search quotes depth 9) tt
    ∙ ap (λ w. value b *ℂ (w *ℂ w)) (sym (inverse_ℂ-is (value delta)))

-- 0 < k, from 0 < k in the rationals
pub positive_int : (k : ℤ) → of_int (pos 0) <ℚ of_int k → pos 0 <ℤ k
positive_int (pos zero) h = absurd (not_≤ℚ _ _ h (≤ℚ-refl _))
positive_int (pos (suc n)) h = omega (arith, ints)
positive_int (negsuc n) h = absurd (not_≤ℚ _ _ h ((of_int-≤ _ _).1 (omega (arith, ints))))

-- the norm of g is above 0 where that of its value is
pub norm_positive : (g : Gaussian) → of_int (pos 0) <ℚ norm (value g) → pos 0 <ℤ norm_gaussian g
norm_positive g h = positive_int _ (subst (λ n. of_int (pos 0) <ℚ n) (sym (value-norm g)) h)

-- 1/g, as a fraction
pub Stands-reciprocal : (g : Gaussian) → pos 0 <ℤ norm_gaussian g → Stands (reciprocal g) (inverse_ℂ (value g))
Stands-reciprocal g h = record {
  positive = h;
  is = same_pair rational_ring _ _
      (ap (λ n. of_int g.re *ℚ inverse n) (value-norm g))
      (ap₂ (λ a n. a *ℚ inverse n) (of_int-neg g.im) (value-norm g))
      ∙ sym (parts-inverse (value g));
}

-- the term of a pole is a/delta
pub Stands-pole : (a delta : Gaussian) → pos 0 <ℤ norm_gaussian delta → Stands (pole_term a delta) (value a *ℂ inverse_ℂ (value delta))
Stands-pole a delta h = record { positive = h; is = pole-value a delta }

-- the term of a dipole is b/delta^2
pub Stands-dipole : (b delta : Gaussian) → pos 0 <ℤ norm_gaussian delta → Stands (dipole_term b delta) (value b *ℂ (inverse_ℂ (value delta) *ℂ inverse_ℂ (value delta)))
Stands-dipole b delta h = record { positive = *-positive _ _ h h; is = dipole-value b delta (subst (λ n. of_int (pos 0) <ℚ n) (value-norm delta) (int-< _ _ h)) }
