-- The adaptive quadtree of a list of points with a leaf capacity, as a predicate on each cell by itself.
use Rattle.std.specs.Prelude.{ℕ, ◌≡◌, ◌<◌, ◌≤◌, ◌⊎◌, Bool, not, ◌&&◌, nat_lt, List, count_by, All, AllPairs, Contains}
use Rattle.std.specs.List.{list_any}
use Rattle.points.specs.declared.Point.{Point}
use Rattle.points.specs.Points.{is_source}
use Rattle.cell_name.specs.Order.{IsBefore}
use Rattle.cell_name.specs.Square.{Square, root, parent, IsInGrid, holds_test}

-- each point lies in the grid
abbrev pub AreInGrid : ℕ → List Point → Type 0
AreInGrid grid points = All (λ p. IsInGrid grid p.x p.y) points

-- how many points, sources and targets together, a cell has
abbrev pub count_in : List Point → Square → ℕ
count_in points c = count_by (λ p. holds_test c p.x p.y) points

-- whether a cell has more points than the capacity
abbrev pub is_over : List Point → ℕ → Square → Bool
is_over points cap c = nat_lt cap (count_in points c)

-- a cell of the tree: it has a point, and it is the whole grid or its parent has more points than the capacity, so that it is split
pub record IsTreeCell (grid : ℕ) (points : List Point) (cap : ℕ) (c : Square) : Type 0 where
  pub of_grid : c.grid ≡ grid
  pub level_in_grid : c.level ≤ grid
  pub occupied : 1 ≤ count_in points c
  pub reached : (c ≡ root grid) ⊎ ((0 < c.level) × (cap < count_in points (parent c)))

-- a cell of the tree that has no more points than the capacity, or is of the last level
pub record IsLeaf (grid : ℕ) (points : List Point) (cap : ℕ) (c : Square) : Type 0 where
  pub in_tree : IsTreeCell grid points cap c
  pub ends : (count_in points c ≤ cap) ⊎ (c.level ≡ grid)

-- whether a point is a source in the cell, or a target
abbrev pub is_source_in : Square → Point → Bool
is_source_in c p = is_source p.kind && holds_test c p.x p.y

abbrev pub is_target_in : Square → Point → Bool
is_target_in c p = not (is_source p.kind) && holds_test c p.x p.y

-- whether some source lies in the cell, or some target
abbrev pub has_source : List Point → Square → Bool
has_source points c = list_any (is_source_in c) points

abbrev pub has_target : List Point → Square → Bool
has_target points c = list_any (is_target_in c) points

-- exactly the cells that a condition names, ascending by level, column and row
pub record AreExactly (named : Square → Type 0) (cells : List Square) : Type 0 where
  pub each : All named cells
  pub whole : (c : Square) → named c → Contains cells c
  pub ascending : AllPairs IsBefore cells
