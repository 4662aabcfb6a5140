-- What a source adds to the sum: a pole, a dipole, or nothing.
use Rattle.std.specs.Prelude.{ℕ, pos, Bool, true, false}
use Rattle.exact_math.specs.Gaussian.{Gaussian, gaussian}
use Rattle.exact_math.specs.Within.{Within}
use Rattle.points.specs.declared.Strength.{Strength}
use Rattle.points.specs.declared.Strength.TheVariants.{Pole, Dipole, Nothing}

-- the pole a of the term a/(t - z)
abbrev pub pole_part : Strength → Gaussian
pole_part (Pole re im) = gaussian re im
pole_part (Dipole re im) = gaussian (pos 0) (pos 0)
pole_part Nothing = gaussian (pos 0) (pos 0)

-- the dipole b of the term b/(t - z)^2
abbrev pub dipole_part : Strength → Gaussian
dipole_part (Pole re im) = gaussian (pos 0) (pos 0)
dipole_part (Dipole re im) = gaussian re im
dipole_part Nothing = gaussian (pos 0) (pos 0)

-- the pole or the dipole
abbrev pub amount : Strength → Gaussian
amount (Pole re im) = gaussian re im
amount (Dipole re im) = gaussian re im
amount Nothing = gaussian (pos 0) (pos 0)

abbrev pub is_dipole : Strength → Bool
is_dipole (Pole re im) = false
is_dipole (Dipole re im) = true
is_dipole Nothing = false

-- whether it is a pole or a dipole, of whatever size
abbrev pub acts : Strength → Bool
acts (Pole re im) = true
acts (Dipole re im) = true
acts Nothing = false

-- both components are at most n in size
abbrev pub StrengthWithin : ℕ → Strength → Type 0
StrengthWithin n (Pole re im) = Within n re × Within n im
StrengthWithin n (Dipole re im) = Within n re × Within n im
StrengthWithin n Nothing = Unit {0}
