-- The exact moments that a multipole row stands for.
use Rattle.std.specs.Prelude.{ℕ, ◌*◌, ◌<◌, pos, List, cond}
use Rattle.exact_math.specs.Ends.{BoxEnds, BoxEndsContain}
use Rattle.exact_math.specs.Gaussian.{Gaussian, zero_gaussian}
use Rattle.exact_math.specs.Ratio.{ComplexRatio, whole_complex, over_complex, ◌+ᶜ◌, ◌*ᶜ◌}
use Rattle.exact_math.specs.Sums.{pow_complex, slope_complex, sum_terms}
use Rattle.exact_math.specs.Units.{unit}
use Rattle.truncation.specs.Entries.{Source}
use Rattle.truncation.specs.Places.{doubled_offset}

-- the pole of a source and its dipole, of which one is 0
abbrev pub pole_of : Source → Gaussian
pole_of x = cond x.dipole zero_gaussian x.strength

abbrev pub dipole_of : Source → Gaussian
dipole_of x = cond x.dipole x.strength zero_gaussian

-- u/s, for the doubled offset o = 2 u
abbrev pub in_sides : ℕ → Gaussian → ComplexRatio
in_sides s o = record { re = o.re; im = o.im; denominator = pos (2 * s) }

-- a (u/s)^k + k (b/s) (u/s)^(k - 1): the moment k of a source with the offset u from c/2, the centre of a cell of side s
abbrev pub moment_of : ℕ → Gaussian → ℕ → Source → ComplexRatio
moment_of s c k x =
    let u = in_sides s (doubled_offset x.place c) in
    whole_complex (pole_of x) *ᶜ pow_complex u k +ᶜ over_complex (whole_complex (dipole_of x)) (pos s) *ᶜ slope_complex u k

-- the moment k of all of them
abbrev pub moment : ℕ → Gaussian → List Source → ℕ → ComplexRatio
moment s c xs k = sum_terms (moment_of s c k) xs

-- the row, whose boxes count units of 2^-40, contains the moments of the sources
pub record HoldsMoments (P s : ℕ) (c : Gaussian) (xs : List Source) (m : ℕ → BoxEnds) : Type 0 where
  pub contains : (k : ℕ) → k < P → BoxEndsContain unit (m k) (moment s c xs k)
