-- The steps by which a tree is built: what splitting the cells of one level makes. No public contract cites them.
use Rattle.std.specs.Prelude.{ℕ, ◌≡◌, ◌≢◌, ◌-◌, ◌+◌, ◌<◌, ◌≤◌, zero, suc, cond, nat_lt, List, [], ◌∷◌, ◌++◌, length, map, filter, drop, slice_range, slice_index_or, All, AllPairs, Contains}
use Rattle.std.specs.List.{flat_map}
use Rattle.limits.specs.Limits.{most_at_a_place}
use Rattle.points.specs.declared.Point.{Point}
use Rattle.cell_name.specs.declared.cell.Cell.{Cell}
use Rattle.cell_name.specs.Cell.{square}
use Rattle.cell_name.specs.Quarters.{quarters}
use Rattle.cell_name.specs.Square.{Square, root, no_square, parent}
use Rattle.quadtree.specs.declared.split.Run.{Run}
use Rattle.quadtree.specs.Members.{members_of}
use Rattle.quadtree.specs.Tree.{count_in, is_over, IsTreeCell, AreExactly}

-- the cells of a list that have a point
abbrev pub occupied : List Point → List Square → List Square
occupied points cells = filter (λ c. nat_lt 0 (count_in points c)) cells

-- the quarters that stand below a cell in the tree
abbrev pub below : List Point → ℕ → Square → List Square
below points cap c = cond (is_over points cap c) (occupied points (quarters c)) []

-- the cells of a level
abbrev pub cells_of_level : ℕ → List Point → ℕ → ℕ → List Square
cells_of_level grid points cap zero = occupied points (root grid ∷ [])
cells_of_level grid points cap (suc level) = flat_map (below points cap) (cells_of_level grid points cap level)

-- the cells of all levels down to one
abbrev pub cells_to_level : ℕ → List Point → ℕ → ℕ → List Square
cells_to_level grid points cap zero = cells_of_level grid points cap zero
cells_to_level grid points cap (suc level) = cells_to_level grid points cap level ++ cells_of_level grid points cap (suc level)

-- the cells of runs, and the numbers of their parents
abbrev pub squares_of : List Run → List Square
squares_of runs = map (λ (r : Run). square r.cell) runs

abbrev pub parents_of : List Run → List ℕ
parents_of runs = map (λ (r : Run). r.parent) runs

-- cells were appended
abbrev pub AddsCells : List Run → List Square → List Run → Type 0
AddsCells was cells now = squares_of now ≡ squares_of was ++ cells

-- the cells below those from a number on
abbrev pub below_from : List Point → ℕ → ℕ → List Run → List Square
below_from points cap start runs = flat_map (below points cap) (drop start (squares_of runs))

-- the quarters of the cell of a number
abbrev pub quarters_of : List Square → ℕ → List Square
quarters_of cells n = quarters (slice_index_or cells n no_square)

-- a run's range of the positions has the cell's members
pub record IsRun (points : List Point) (positions : List ℕ) (run : Run) : Type 0 where
  pub ordered : run.from ≤ run.to
  pub in_range : run.to ≤ length positions
  pub members_are : slice_range positions run.from run.to ≡ members_of points (square run.cell)

-- positions of points, and runs of them
pub record AreRuns (points : List Point) (positions : List ℕ) (runs : List Run) : Type 0 where
  pub positions_below : All (λ k. k < length points) positions
  pub each : All (IsRun points positions) runs

-- the run that a cell with these members adds, where it has one
abbrev pub added_run : Cell → ℕ → ℕ → List ℕ → List Run
added_run cell parent from members =
    cond (nat_lt 0 (length members)) (record { cell = cell; parent = parent; from = from; to = from + length members } ∷ []) []

-- the number of the parent among the cells; 0 for the root
pub record IsParentNumber (cells : List Square) (c : Square) (n : ℕ) : Type 0 where
  pub in_range : n < length cells
  pub of_root : c.level ≡ 0 → n ≡ 0
  pub of_others : 0 < c.level → slice_index_or cells n no_square ≡ parent c

-- the parent of each run's cell stands among the cells at the run's number
abbrev pub HaveParents : List Square → List Run → Type 0
HaveParents cells runs = All (λ (r : Run). IsParentNumber cells (square r.cell) r.parent) runs

-- runs, and others of cells below theirs
pub record AreBelow (points : List Point) (above : List Run) (positions : List ℕ) (runs : List Run) : Type 0 where
  pub above_are : AreRuns points positions above
  pub below_are : AreRuns points positions runs
  pub parents : HaveParents (squares_of above) runs

-- a cell of the tree, of a level
pub record IsCellOfLevel (grid : ℕ) (points : List Point) (cap level : ℕ) (c : Square) : Type 0 where
  pub in_tree : IsTreeCell grid points cap c
  pub level_is : c.level ≡ level

-- exactly the cells of a level, each once
pub record AreCellsOfLevel (grid : ℕ) (points : List Point) (cap level : ℕ) (cells : List Square) : Type 0 where
  pub each : All (IsCellOfLevel grid points cap level) cells
  pub whole : (c : Square) → IsCellOfLevel grid points cap level c → Contains cells c
  pub different : AllPairs (λ c d. c ≢ d) cells

-- a cell of the tree down to a level
pub record IsCellToLevel (grid : ℕ) (points : List Point) (cap level : ℕ) (c : Square) : Type 0 where
  pub in_tree : IsTreeCell grid points cap c
  pub level_at_most : c.level ≤ level

-- the tree on a grid is built down to a level, whose cells are those from `start` on
pub record IsBuiltTo (grid : ℕ) (points : List Point) (cap level start : ℕ) (positions : List ℕ) (runs : List Run) : Type 0 where
  pub cells : AreExactly (IsCellToLevel grid points cap level) (squares_of runs)
  pub start_inside : start ≤ length runs
  pub last : AreCellsOfLevel grid points cap level (drop start (squares_of runs))
  pub runs_are : AreRuns points positions runs
  pub parents : HaveParents (squares_of runs) runs

-- a run of a place with too many points
pub record IsCrowdedRun (run : Run) : Type 0 where
  pub last_level : run.cell.level ≡ run.cell.grid
  pub over : most_at_a_place < run.to - run.from

-- the first such run
pub record IsFirstCrowdedRun (runs : List Run) (run : Run) : Type 0 where
  pub at : ℕ
  pub inside : at < length runs
  pub here : slice_index_or runs at run ≡ run
  pub crowded : IsCrowdedRun run
  pub none_before : (k : ℕ) (d : Run) → k < at → IsCrowdedRun (slice_index_or runs k d) → ⊥
