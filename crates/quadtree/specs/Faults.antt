-- Why a list has no tree: too many points at one place, or too many cells.
use Rattle.std.specs.Prelude.{ℕ, ◌≡◌, ◌≢◌, ◌<◌, List, length, All, AllPairs}
use Rattle.limits.specs.Limits.{most_at_a_place, most_cells}
use Rattle.points.specs.declared.Point.{Point}
use Rattle.cell_name.specs.Cell.{square}
use Rattle.cell_name.specs.Square.{Square}
use Rattle.cell_name.specs.Order.{IsBefore}
use Rattle.quadtree.specs.declared.fault.TreeFault.{TreeFault}
use Rattle.quadtree.specs.declared.fault.TreeFault.TheVariants.{Crowded, Cells, Memory}
use Rattle.quadtree.specs.Tree.{count_in, IsTreeCell}

-- a cell of the last level, which is one place, with too many points
pub record IsCrowded (grid : ℕ) (points : List Point) (c : Square) : Type 0 where
  pub of_grid : c.grid ≡ grid
  pub last_level : c.level ≡ grid
  pub over : most_at_a_place < count_in points c

-- the first crowded cell by column and row, and its count
pub record IsFirstCrowded (grid : ℕ) (points : List Point) (c : Square) (count : ℕ) : Type 0 where
  pub crowded : IsCrowded grid points c
  pub count_is : count ≡ count_in points c
  pub first : (d : Square) → IsCrowded grid points d → IsBefore d c → ⊥

-- no place is crowded
abbrev pub NoneIsCrowded : ℕ → List Point → Type 0
NoneIsCrowded grid points = (c : Square) → IsCrowded grid points c → ⊥

-- the tree has more than `most` cells: so many different ones can be listed
pub record HasMoreCells (grid : ℕ) (points : List Point) (cap most : ℕ) : Type 0 where
  pub cells : List Square
  pub in_tree : All (IsTreeCell grid points cap) cells
  pub different : AllPairs (λ c d. c ≢ d) cells
  pub more : most < length cells

-- the list has a tree: no place is crowded, and the tree has no more than its most cells
pub record HasTree (grid : ℕ) (points : List Point) (cap : ℕ) : Type 0 where
  pub none_crowded : NoneIsCrowded grid points
  pub no_more : HasMoreCells grid points cap (most_cells grid) → ⊥

-- no place is crowded, and still the tree has too many cells
pub record HasTooManyCells (grid : ℕ) (points : List Point) (cap : ℕ) : Type 0 where
  pub none_crowded : NoneIsCrowded grid points
  pub too_many : HasMoreCells grid points cap (most_cells grid)

-- what an answer without a tree says of the list and the capacity; want of memory says nothing of them
abbrev pub IsFaultOf : ℕ → List Point → ℕ → TreeFault → Type 0
IsFaultOf grid points cap (Crowded cell count) = IsFirstCrowded grid points (square cell) count
IsFaultOf grid points cap Cells = HasTooManyCells grid points cap
IsFaultOf grid points cap Memory = Unit {0}
