-- The field that a local row stands for.
use Rattle.std.specs.Prelude.{ℕ, ◌<◌, ◌<ℤ◌, pos}
use Rattle.exact_math.specs.Ends.{BoxEnds, BoxEndsContain}
use Rattle.exact_math.specs.Gaussian.{Gaussian}
use Rattle.exact_math.specs.Ratio.{ComplexRatio, SameComplex, over_complex, ◌*ᶜ◌}
use Rattle.exact_math.specs.Sums.{pow_complex, sum_complex}
use Rattle.exact_math.specs.Units.{unit}
use Rattle.truncation.specs.Places.{doubled_offset}
use Rattle.row_recursions.specs.Moments.{in_sides}

-- 1/s times the sum of c_l (v/s)^l over l < P, at the doubled offset o = 2 v from the centre
abbrev pub field_at : ℕ → ℕ → (ℕ → ComplexRatio) → Gaussian → ComplexRatio
field_at P s coefficient o = over_complex (sum_complex P (λ l. coefficient l *ᶜ pow_complex (in_sides s o) l)) (pos s)

-- the row, whose boxes count units of 2^-40, contains the coefficients of a field, which is their polynomial about c/2 at all whole places of the plane and, by
-- a law, determines them
pub record HoldsField (P s : ℕ) (c : Gaussian) (field : Gaussian → ComplexRatio) (m : ℕ → BoxEnds) : Type 0 where
  pub coefficient : ℕ → ComplexRatio
  pub fractions : (l : ℕ) → pos 0 <ℤ (coefficient l).denominator
  pub contains : (l : ℕ) → l < P → BoxEndsContain unit (m l) (coefficient l)
  pub fraction : (t : Gaussian) → pos 0 <ℤ (field t).denominator
  pub sums : (t : Gaussian) → SameComplex (field_at P s coefficient (doubled_offset t c)) (field t)
