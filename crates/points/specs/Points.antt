-- What a particle is to the sum: a place, and a pole or a dipole.
use Rattle.std.specs.Prelude.{pos, neg_ℤ, Bool, not, IsTrue}
use Rattle.exact_math.specs.Gaussian.{Gaussian, gaussian}
use Rattle.points.specs.declared.Kind.{Kind}
use Rattle.points.specs.declared.Kind.TheVariants.{Charge, Dipole, Vortex, Target, Pole}
use Rattle.points.specs.declared.Point.{Point}
use Rattle.points.specs.declared.Strength.{Strength}
use Rattle.points.specs.declared.Strength.TheVariants as strengths
use Rattle.points.specs.Strength.{pole_part, dipole_part, acts}

-- where the particle is
abbrev pub place : Point → Gaussian
place p = gaussian p.x p.y

-- a charge q is the pole q, a vortex of circulation g the pole -i g, and a pole is itself; a target adds nothing
abbrev pub strength : Kind → Strength
strength (Charge q) = strengths.Pole q (pos 0)
strength (Dipole re im) = strengths.Dipole re im
strength (Vortex g) = strengths.Pole (pos 0) (neg_ℤ g)
strength Target = strengths.Nothing
strength (Pole re im) = strengths.Pole re im

-- the pole a of the term a/(t - z)
abbrev pub pole : Kind → Gaussian
pole k = pole_part (strength k)

-- the dipole b of the term b/(t - z)^2
abbrev pub dipole : Kind → Gaussian
dipole k = dipole_part (strength k)

-- whether it adds to the field: a charge, a vortex, a dipole or a pole
abbrev pub is_source : Kind → Bool
is_source k = acts (strength k)

abbrev pub IsSource : Kind → Type 0
IsSource k = IsTrue (is_source k)

-- the field is asked for here
abbrev pub IsTarget : Kind → Type 0
IsTarget k = IsTrue (not (is_source k))
