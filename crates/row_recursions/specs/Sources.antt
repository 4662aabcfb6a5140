-- The points of a list as sources.
use Rattle.exact_math.specs.Gaussian.{Gaussian}
use Rattle.points.specs.declared.Point.{Point}
use Rattle.points.specs.declared.Strength.{Strength}
use Rattle.points.specs.Points.{place, strength}
use Rattle.points.specs.Strength.{amount, is_dipole}
use Rattle.truncation.specs.Entries.{Source}

-- what adds nothing is a pole of strength 0
abbrev pub source_at : Gaussian → Strength → Source
source_at z a = record { place = z; strength = amount a; dipole = is_dipole a }

abbrev pub source_of : Point → Source
source_of p = source_at (place p) (strength p.kind)
