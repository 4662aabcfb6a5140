-- The truncation bound of one source: how far its cut term is from its term of the direct sum.
use Rattle.std.specs.Prelude.{ℕ, pos, neg_ℤ, ◌*◌, ◌*ℤ◌, ◌≤◌, ◌<ℤ◌}
use Rattle.exact_math.specs.Contains.{Contains}
use Rattle.exact_math.specs.Ends.{BoxEnds, BoxEndsContain, widen_box}
use Rattle.exact_math.specs.Gaussian.{Gaussian, zero_gaussian, sub_gaussian, twice}
use Rattle.exact_math.specs.Ratio.{ComplexRatio, re_part, im_part, ◌-ᶜ◌}
use Rattle.exact_math.specs.Sizes.{weight_at}
use Rattle.exact_math.specs.Terms.{pole_term, dipole_term}
use Rattle.exact_math.specs.Units.{unit}
use Rattle.truncation.specs.CutTerms.{pair_pole_cut, pair_dipole_cut, multipole_pole_cut, multipole_dipole_cut, local_pole_cut, local_dipole_cut}
use Rattle.truncation.specs.Places.{PairPlaces, pair_distance, SinglePlaces}
use Rattle.truncation.specs.Tails.{pair_tail, single_tail}

-- both are fractions, and each part of the exact one minus the cut one is at most m/n units of 2^-40 in size, for n at least 1
pub record Truncated (exact cut : ComplexRatio) (m n : ℕ) : Type 0 where
  pub exact_fraction : pos 0 <ℤ exact.denominator
  pub cut_fraction : pos 0 <ℤ cut.denominator
  pub re : Contains (unit *ℤ pos n) (neg_ℤ (pos m)) (pos m) (re_part (exact -ᶜ cut))
  pub im : Contains (unit *ℤ pos n) (neg_ℤ (pos m)) (pos m) (im_part (exact -ᶜ cut))

-- r makes up for a loss of loss/s: a box that contains what is cut, in units of 2^-40, contains the exact sum once it is widened by r
abbrev pub MakesUp : ℕ → ℕ → ℕ → Type 0
MakesUp loss s r = (exact cut : ComplexRatio) (box : BoxEnds) → Truncated exact cut loss s
    → BoxEndsContain unit box cut → BoxEndsContain unit (widen_box box (pos r)) exact

-- a/delta and b/delta^2 for 2 delta = D: (2 a)/D and (4 b)/D^2
abbrev pub halved_pole_term : Gaussian → Gaussian → ComplexRatio
halved_pole_term a D = pole_term (twice a) D

abbrev pub halved_dipole_term : Gaussian → Gaussian → ComplexRatio
halved_dipole_term b D = dipole_term (twice (twice b)) D

-- T bounds what order P leaves for two cells of one side s, at all doubled offsets whose parts are at most s:
-- at most the weight of the pole or the dipole, times T over s
pub record PairTailHolds (P T : ℕ) : Type 0 where
  pub pole : (s : ℕ) (e o q a : Gaussian) → PairPlaces s e o q
      → Truncated (halved_pole_term a (pair_distance s e o q)) (pair_pole_cut P s e o q a) (weight_at P a zero_gaussian * T) s
  pub dipole : (s : ℕ) (e o q b : Gaussian) → PairPlaces s e o q
      → Truncated (halved_dipole_term b (pair_distance s e o q)) (pair_dipole_cut P s e o q b) (weight_at P zero_gaussian b * T) s

-- T bounds what order P leaves for a cell of side s and a place beyond 3 s of its centre, in doubled offsets: a far target, and a far source
pub record SingleTailHolds (P T : ℕ) : Type 0 where
  pub multipole_pole : (s : ℕ) (z o a : Gaussian) → SinglePlaces s z o
      → Truncated (halved_pole_term a (sub_gaussian z o)) (multipole_pole_cut P z o a) (weight_at P a zero_gaussian * T) s
  pub multipole_dipole : (s : ℕ) (z o b : Gaussian) → SinglePlaces s z o
      → Truncated (halved_dipole_term b (sub_gaussian z o)) (multipole_dipole_cut P z o b) (weight_at P zero_gaussian b * T) s
  pub local_pole : (s : ℕ) (z q a : Gaussian) → SinglePlaces s z q
      → Truncated (halved_pole_term a (sub_gaussian q z)) (local_pole_cut P z q a) (weight_at P a zero_gaussian * T) s
  pub local_dipole : (s : ℕ) (z q b : Gaussian) → SinglePlaces s z q
      → Truncated (halved_dipole_term b (sub_gaussian q z)) (local_dipole_cut P z q b) (weight_at P zero_gaussian b * T) s

-- the tails keep their promises, at every order from 1 on and from 2 on
abbrev pub PairTruncation : Type 0
PairTruncation = (P : ℕ) → 1 ≤ P → PairTailHolds P (pair_tail P)

abbrev pub SingleTruncation : Type 0
SingleTruncation = (P : ℕ) → 2 ≤ P → SingleTailHolds P (single_tail P)
