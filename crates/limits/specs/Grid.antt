-- The grid of whole places, 2^grid in each direction, with the origin in its middle.
use Rattle.std.specs.Prelude.{ℕ, ◌-◌, ◌^◌, ℤ, pos, neg_ℤ, ◌≤ℤ◌, ◌<ℤ◌}

-- how far the origin is from the west and the south border
abbrev pub half : ℕ → ℕ
half grid = 2 ^ (grid - 1)

-- the place lies in the grid
pub record IsInGrid (grid : ℕ) (x y : ℤ) : Type 0 where
  pub west : neg_ℤ (pos (half grid)) ≤ℤ x
  pub east : x <ℤ pos (half grid)
  pub south : neg_ℤ (pos (half grid)) ≤ℤ y
  pub north : y <ℤ pos (half grid)
