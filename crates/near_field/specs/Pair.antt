-- What one source contributes at a place, exactly and as a box.
use Rattle.std.specs.Prelude.{◌*ℤ◌, Bool, ◌&&◌, if◌then◌else◌}
use Rattle.std.specs.Ordering.{int_eq}
use Rattle.exact_math.specs.Ends.{BoxEnds, zero_box, point_box, quot_box}
use Rattle.exact_math.specs.Gaussian.{Gaussian, gaussian, sub_gaussian}
use Rattle.exact_math.specs.Ratio.{ComplexRatio, zero_complex}
use Rattle.exact_math.specs.Terms.{pole_term, dipole_term}
use Rattle.exact_math.specs.Units.{unit}
use Rattle.points.specs.declared.Strength.{Strength}
use Rattle.points.specs.declared.Strength.TheVariants.{Pole, Dipole, Nothing}
use Rattle.points.specs.declared.Point.{Point}
use Rattle.points.specs.Points.{place, strength}

-- whether the point is at the place t
abbrev pub is_at : Gaussian → Point → Bool
is_at t p = int_eq p.x t.re && int_eq p.y t.im

-- a/delta of a pole, b/delta^2 of a dipole
abbrev pub strength_term : Strength → Gaussian → ComplexRatio
strength_term (Pole re im) delta = pole_term (gaussian re im) delta
strength_term (Dipole re im) delta = dipole_term (gaussian re im) delta
strength_term Nothing delta = zero_complex

-- what the point contributes at t, a place other than its own; the distance is target minus source
abbrev pub term_of : Gaussian → Point → ComplexRatio
term_of t p = strength_term (strength p.kind) (sub_gaussian t (place p))

-- a fraction in units of 2^-40, both parts rounded outward: quot of 2^40 times the numerators by the denominator
abbrev pub outward : ComplexRatio → BoxEnds
outward z = quot_box (point_box (unit *ℤ z.re) (unit *ℤ z.im)) z.denominator

-- the box of a pair: the term rounded outward, and the zero box at one place
abbrev pub pair_box : Gaussian → Point → BoxEnds
pair_box t p = if is_at t p then zero_box else outward (term_of t p)
