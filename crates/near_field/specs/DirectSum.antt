-- The exact sum at a place: the quantity that every printed interval contains.
use Rattle.std.specs.Prelude.{Bool, not, ◌&&◌, List, filter}
use Rattle.exact_math.specs.Gaussian.{Gaussian}
use Rattle.exact_math.specs.Ratio.{ComplexRatio}
use Rattle.exact_math.specs.Sums.{sum_terms}
use Rattle.points.specs.declared.Point.{Point}
use Rattle.points.specs.Points.{is_source}
use Rattle.near_field.specs.Pair.{is_at, term_of}

-- a source at another place than t; those at the place of t are left out
abbrev pub acts_on : Gaussian → Point → Bool
acts_on t p = is_source p.kind && not (is_at t p)

-- the sum of a/(t - z) over the charges, vortices and poles and of b/(t - z)^2 over the dipoles that act on t,
-- in the order of the list, as a fraction of whole numbers
abbrev pub direct_sum : Gaussian → List Point → ComplexRatio
direct_sum t points = sum_terms (term_of t) (filter (acts_on t) points)
