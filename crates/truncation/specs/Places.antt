-- Where a source and a target lie, in whole numbers. A doubled offset is twice the offset of a place from a centre, and a doubled distance
-- twice the target minus the source; s is the side of the cells.
use Rattle.std.specs.Prelude.{ℕ, ◌*◌, ◌≤◌}
use Rattle.exact_math.specs.Gaussian.{Gaussian, add_gaussian, sub_gaussian, scale_gaussian, twice}
use Rattle.exact_math.specs.Within.{GaussianWithin, GaussianBeyond}

-- two cells of side s whose centres are e sides apart, e with a part of at least 2; the source and the target have the doubled offsets o and q
pub record PairPlaces (s : ℕ) (e o q : Gaussian) : Type 0 where
  pub side : 1 ≤ s
  pub apart : GaussianBeyond 2 e
  pub source : GaussianWithin s o
  pub target : GaussianWithin s q

-- 2 s e + q - o, their doubled distance
abbrev pub pair_distance : ℕ → Gaussian → Gaussian → Gaussian → Gaussian
pair_distance s e o q = sub_gaussian (add_gaussian (twice (scale_gaussian s e)) q) o

-- a cell of side s and a place far from it: from the cell's centre, the doubled offset o of the place in the cell and z of the far one
pub record SinglePlaces (s : ℕ) (z o : Gaussian) : Type 0 where
  pub side : 1 ≤ s
  pub far : GaussianBeyond (3 * s) z
  pub near : GaussianWithin s o

-- 2 z - c: the doubled offset of the place z from the centre whose double is c
abbrev pub doubled_offset : Gaussian → Gaussian → Gaussian
doubled_offset z c = sub_gaussian (twice z) c
