-- Values that are known beforehand, by computation, and premises that some places meet.
use Rattle.exact_math.proofs.Common.{◌≡◌, refl, arith, ints, ℤ, pos, negsuc, ◌*ℤ◌}
use Rattle.exact_math.specs.Gaussian.{gaussian}
use Rattle.exact_math.specs.Ratio.{ComplexRatio}
use Rattle.truncation.specs.CutTerms.{pair_pole_cut, pair_dipole_cut, multipole_pole_cut, multipole_dipole_cut, local_pole_cut, local_dipole_cut}
use Rattle.truncation.specs.Places.{PairPlaces, SinglePlaces, pair_distance}
use Rattle.truncation.specs.Tails.{pair_tail, single_tail}
use mathlib.Core.Logic.{inl}

-- the first steps, 17 2^41/31 and 17 2^40/36 rounded up
first_steps : (pair_tail 1 ≡ 1205915978852) × (single_tail 1 ≡ 519213824228)
unfolding pair_tail single_tail
first_steps = (refl, refl)

-- the tails of order 4 and 8
tails : (pair_tail 4 ≡ 198874331312) × (pair_tail 8 ≡ 17985712319) × (single_tail 4 ≡ 54674586730) × (single_tail 8 ≡ 2718762002)
unfolding pair_tail single_tail
tails = (refl, refl, refl, refl)

-- two cells of side 2 whose centres are 2 sides apart, with a source and a target at upper right corners: they are 4 apart
some_pair : PairPlaces 2 (gaussian (pos 2) (pos 0)) (gaussian (pos 2) (pos 2)) (gaussian (pos 2) (pos 2))
some_pair = record {
  side = omega arith;
  apart = inl (omega arith);
  source = record { re = record { above = omega (arith, ints); below = omega (arith, ints) }; im = record { above = omega (arith, ints); below = omega (arith, ints) } };
  target = record { re = record { above = omega (arith, ints); below = omega (arith, ints) }; im = record { above = omega (arith, ints); below = omega (arith, ints) } };
}

some_pair_distance : pair_distance 2 (gaussian (pos 2) (pos 0)) (gaussian (pos 2) (pos 2)) (gaussian (pos 2) (pos 2)) ≡ gaussian (pos 8) (pos 0)
some_pair_distance = refl

-- a cell of side 1 and a place with the doubled offset -3 + i
some_single : SinglePlaces 1 (gaussian (negsuc 2) (pos 1)) (gaussian (pos 1) (negsuc 0))
some_single = record {
  side = omega arith;
  far = inl (omega arith);
  near = record { re = record { above = omega (arith, ints); below = omega (arith, ints) }; im = record { above = omega (arith, ints); below = omega (arith, ints) } };
}

-- x is (R + i I)/D
abbrev SameValue : ComplexRatio → ℤ → ℤ → ℤ → Type 0
SameValue x R I D = (x.re *ℤ D ≡ R *ℤ x.denominator) × (x.im *ℤ D ≡ I *ℤ x.denominator)

-- the cut terms of order 2 at some places, with values from elsewhere
pair_pole_cut-row : SameValue (pair_pole_cut 2 3 (gaussian (pos 2) (negsuc 0)) (gaussian (pos 1) (negsuc 2)) (gaussian (negsuc 1) (pos 3)) (gaussian (pos 5) (negsuc 6))) (pos 1851) (negsuc 1806) (pos 1350)
pair_pole_cut-row = (refl, refl)

pair_dipole_cut-row : SameValue (pair_dipole_cut 2 3 (gaussian (pos 2) (negsuc 0)) (gaussian (pos 1) (negsuc 2)) (gaussian (negsuc 1) (pos 3)) (gaussian (pos 5) (negsuc 6))) (pos 942) (negsuc 193) (pos 3375)
pair_dipole_cut-row = (refl, refl)

multipole_pole_cut-row : SameValue (multipole_pole_cut 2 (gaussian (pos 10) (negsuc 2)) (gaussian (pos 1) (negsuc 2)) (gaussian (pos 5) (negsuc 6))) (pos 15206) (negsuc 17913) (pos 11881)
multipole_pole_cut-row = (refl, refl)

multipole_dipole_cut-row : SameValue (multipole_dipole_cut 2 (gaussian (pos 10) (negsuc 2)) (gaussian (pos 1) (negsuc 2)) (gaussian (pos 5) (negsuc 6))) (pos 3500) (negsuc 1347) (pos 11881)
multipole_dipole_cut-row = (refl, refl)

local_pole_cut-row : SameValue (local_pole_cut 2 (gaussian (pos 10) (negsuc 2)) (gaussian (pos 1) (negsuc 2)) (gaussian (pos 5) (negsuc 6))) (negsuc 15205) (pos 17914) (pos 11881)
local_pole_cut-row = (refl, refl)

local_dipole_cut-row : SameValue (local_dipole_cut 2 (gaussian (pos 10) (negsuc 2)) (gaussian (pos 1) (negsuc 2)) (gaussian (pos 5) (negsuc 6))) (pos 441708) (negsuc 387155) (pos 1295029)
local_dipole_cut-row = (refl, refl)
