-- What holds of the limits of every version.
use Rattle.std.specs.Prelude.{ℕ, ◌≤◌, ◌<◌, ℤ}
use Rattle.limits.specs.Grid.{IsInGrid}
use Rattle.limits.specs.Limits.{IsGrid, grid_of, widest_grid, most_points, most_weight, most_cells, most_order, most_multipole, most_local, most_box}

-- a version has one of the grids
abbrev pub VersionHasGrid : Type 0
VersionHasGrid = (version : ℕ) → IsGrid (grid_of version)

-- no limit is above that of the widest grid
pub record AreWithinWidest (grid : ℕ) : Type 0 where
  pub some : 0 < grid
  pub bits : grid ≤ widest_grid
  pub points : most_points grid ≤ most_points widest_grid
  pub weight : most_weight grid ≤ most_weight widest_grid
  pub cells : most_cells grid ≤ most_cells widest_grid
  pub order : most_order grid ≤ most_order widest_grid
  pub multipole : most_multipole grid ≤ most_multipole widest_grid
  pub local : most_local grid ≤ most_local widest_grid
  pub box : most_box grid ≤ most_box widest_grid

abbrev pub WidestHasMost : Type 0
WidestHasMost = (grid : ℕ) → IsGrid grid → AreWithinWidest grid

-- a place of a grid lies in the widest
abbrev pub GridsAreNested : Type 0
GridsAreNested = (grid : ℕ) (x y : ℤ) → IsGrid grid → IsInGrid grid x y → IsInGrid widest_grid x y
