-- What the entries of a cell add to its local row. No public contract cites it.
use Rattle.std.specs.Prelude.{ℕ, ◌<◌, ◌≤◌, List, length, All}
use Rattle.exact_math.specs.Ends.{BoxEnds, add_box}
use Rattle.cell_name.specs.Square.{Square}
use Rattle.cell_lists.specs.ListAt.{list_at}
use Rattle.cell_lists.specs.EntryLists.{EntryListsModel}
use Rattle.kernel_table.specs.Kernel.{IsKernelDistance, kernel_entry}
use Rattle.limits.specs.Limits.{most_cells, most_points, widest_grid}
use Rattle.points.specs.Limits.{InRange}
use Rattle.points.specs.Points.{place}
use Rattle.points.specs.declared.Point.{Point}
use Rattle.quadtree.specs.TreeModel.{TreeModel, size, square_of, node_of}
use Rattle.soundness.specs.Steps.{total_row, v_rows, x_rows}
use Rattle.soundness.specs.Squares.{IsFarFrom, quadrant}
use Rattle.tree_field.specs.Field.{multipole_row, sources_in}
use Rattle.field_basis.specs.Basis.{BasisModel}
use Rattle.field_basis.specs.Targets.{point_at}
use Rattle.row_recursions.specs.Cells.{far_coefficients_in}
use Rattle.row_recursions.specs.Rows.{shifted_down, converted}
use Rattle.cell_name.specs.Apart.{sides_between}

-- the centre of cell b is a distance of the kernel from that of cell c
pub record IsVEntryAt (tree : TreeModel) (b c : ℕ) : Type 0 where
  pub in_range : c < size tree
  pub distance : IsKernelDistance (sides_between (square_of tree b) (square_of tree c))

-- the point at a position is in range on the grid of the cell b and far from it
pub record IsFarPosition (points : List Point) (b : Square) (k : ℕ) : Type 0 where
  pub inside : k < length points
  pub range : InRange b.grid (point_at points k)
  pub far : IsFarFrom b (place (point_at points k))

-- the points of cell c are
pub record IsFarCell (tree : TreeModel) (points : List Point) (b : Square) (c : ℕ) : Type 0 where
  pub in_range : c < size tree
  pub few : length (node_of tree c).members ≤ most_points widest_grid
  pub each : All (IsFarPosition points b) (node_of tree c).members

-- the V and X entries of cell n: short lists, the V cells a distance of the kernel away and the points of the X cells far from it
pub record HasFarEntries (tree : TreeModel) (lists : EntryListsModel) (points : List Point) (n : ℕ) : Type 0 where
  pub v_entries : All (IsVEntryAt tree n) (list_at lists.v n)
  pub short : length (list_at lists.v n) ≤ 27
  pub far : All (IsFarCell tree points (square_of tree n)) (list_at lists.x n)
  pub few : length (list_at lists.x n) ≤ most_cells widest_grid

-- ---- what they add
-- the point at a position, to the row of the cell b
abbrev pub far_row_at : List Point → Square → ℕ → ℕ → BoxEnds
far_row_at points b k = far_coefficients_in b (point_at points k)

-- the row of the cell c of the V list of cell n, converted, and those of all of them
abbrev pub v_entry : ℕ → BasisModel → ℕ → ℕ → ℕ → BoxEnds
v_entry P b n c = converted P (kernel_entry (sides_between (square_of b.tree n) (square_of b.tree c))) (multipole_row b.points b.cap (square_of b.tree c))

abbrev pub v_rows_of : ℕ → BasisModel → ℕ → ℕ → BoxEnds
v_rows_of P b n = v_rows (square_of b.tree) (λ c. multipole_row b.points b.cap (square_of b.tree c)) P (square_of b.tree n) (list_at b.lists.v n)

-- what the sources of the cell c of its X list add, and those of all of them
abbrev pub x_entry : BasisModel → ℕ → ℕ → ℕ → BoxEnds
x_entry b n c = total_row (far_coefficients_in (square_of b.tree n)) (sources_in b.points (square_of b.tree c))

abbrev pub x_rows_of : BasisModel → ℕ → ℕ → BoxEnds
x_rows_of b n = x_rows (λ p. p) (λ c. sources_in b.points (square_of b.tree c)) (square_of b.tree n) (list_at b.lists.x n)

-- the local row of a cell below the root, from its parent's row
abbrev pub row_below : ℕ → BasisModel → ℕ → (ℕ → BoxEnds) → ℕ → BoxEnds
row_below P b n m k = add_box (shifted_down P m (quadrant (square_of b.tree n)) k) (add_box (v_rows_of P b n k) (x_rows_of b n k))
