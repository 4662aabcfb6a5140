-- How wide the rows and the boxes of the field are, place by place. G is the greatest level of a cell, the bits of the grid.
use Rattle.std.specs.Prelude.{ℕ, ◌+◌, ◌*◌, ◌/◌, ◌<◌, ◌≤◌, List, length}
use Rattle.exact_math.specs.Ends.{BoxEndsNarrow}
use Rattle.exact_math.specs.Gaussian.{Gaussian}
use Rattle.exact_math.specs.Orders.{IsOrder}
use Rattle.cell_lists.specs.Entries.{IsEntry}
use Rattle.cell_name.specs.Square.{Square, side, Holds}
use Rattle.kernel_table.specs.Kernel.{kernel_entry}
use Rattle.letters.specs.declared.Letter.TheVariants.{V, W, X}
use Rattle.limits.specs.Limits.{IsGrid}
use Rattle.points.specs.declared.Point.{Point}
use Rattle.quadtree.specs.Tree.{AreInGrid, IsTreeCell}
use Rattle.row_recursions.specs.Cells.{far_coefficients_in}
use Rattle.row_recursions.specs.Rows.{converted, multipole_value}
use Rattle.row_recursions.specs.Widths.{RowNarrow, RowHoldsWithin}
use Rattle.soundness.specs.Squares.{offset, sides_between}
use Rattle.soundness.specs.Steps.{total_row}
use Rattle.tree_field.specs.Field.{sources_in, weight_in, multipole_row, local_row, target_boxes}
use Rattle.tree_field.specs.Lists.{TreeLists, AreTreeLists}
use Rattle.tree_field.specs.Paths.{over_path}
use Rattle.field_widths.specs.Bound.{PrintNoWider, point_weight}

-- n_c: how many sources are in a cell
abbrev pub source_count : List Point → Square → ℕ
source_count points c = length (sources_in points c)

module _ (G P : ℕ) where
  -- of the multipole row of a cell with n sources: n (2 P^2 + 2 G P)
  abbrev pub multipole_width : ℕ → ℕ
  multipole_width n = n * (2 * (P * P) + 2 * G * P)

  -- what a source in the cell of a V or X entry adds at most to the local row: 4 P^2 + 4 G P + 3, and 2 P times its weight
  abbrev pub entry_width : Point → ℕ
  entry_width p = 2 * (2 * (P * P) + 2 * G * P) + 3 + 2 * P * point_weight P p

-- ---- multipole rows
abbrev pub MultipoleRowsNarrow : Type 0
MultipoleRowsNarrow = (grid : ℕ) (points : List Point) (cap P : ℕ) (c : Square) → 0 < grid → AreInGrid grid points → IsTreeCell grid points cap c
    → RowNarrow P (multipole_width grid P (source_count points c)) (multipole_row points cap c)

-- each coefficient contains a moment that is at most the weight of the sources in the cell
abbrev pub MultipoleRowsHoldWithin : Type 0
MultipoleRowsHoldWithin = (grid : ℕ) (points : List Point) (cap P : ℕ) (c : Square) → 0 < grid → AreInGrid grid points → IsTreeCell grid points cap c
    → RowHoldsWithin P (weight_in points P c) (multipole_row points cap c)

-- ---- entries
-- the row of a V entry, converted: 2 n_c (2 P^2 + 2 G P) + 2 P S_c + 3
abbrev pub PairEntriesNarrow : Type 0
PairEntriesNarrow = (grid : ℕ) (points : List Point) (cap P : ℕ) (b c : Square) → 0 < grid → P ≤ 32 → AreInGrid grid points → IsEntry grid points cap V b c
    → RowNarrow P (2 * multipole_width grid P (source_count points c) + 2 * P * weight_in points P c + 3)
    (converted P (kernel_entry (sides_between b c)) (multipole_row points cap c))

-- the sources of an X entry: n_c (2 P^2 + 2 P)
abbrev pub FarEntriesNarrow : Type 0
FarEntriesNarrow = (grid : ℕ) (points : List Point) (cap P : ℕ) (b c : Square) → AreInGrid grid points → IsEntry grid points cap X b c
    → RowNarrow P (source_count points c * (2 * (P * P) + 2 * P)) (total_row (far_coefficients_in b) (sources_in points c))

-- the value of the row of a W entry: P (n_c (2 P^2 + 2 G P) + 2)/s_c + 2
abbrev pub MultipoleValuesNarrow : Type 0
MultipoleValuesNarrow = (grid : ℕ) (points : List Point) (cap P : ℕ) (b c : Square) (t : Gaussian) → 0 < grid → AreInGrid grid points
    → IsEntry grid points cap W b c → Holds b t.re t.im
    → BoxEndsNarrow (P * (multipole_width grid P (source_count points c) + 2) / side c + 2) (multipole_value P (multipole_row points cap c) (side c) (offset c t))

-- ---- local rows: what the sources of the V and X entries of the cell and of all cells above it add, and 2 P + 2 for each level
abbrev pub LocalRowsNarrow : Type 0
LocalRowsNarrow = (grid : ℕ) (points : List Point) (cap P : ℕ) (lists : TreeLists) (b : Square) → 0 < grid → P ≤ 32
    → AreInGrid grid points → AreTreeLists grid points cap lists → IsTreeCell grid points cap b
    → RowNarrow P (over_path points lists (entry_width grid P) b + b.level * (2 * P + 2)) (local_row points cap P lists b)

-- ---- printed counts: the bound holds of both parts of each target
abbrev pub PrintedCountsNarrow : Type 0
PrintedCountsNarrow = (grid : ℕ) (points : List Point) (cap P : ℕ) (lists : TreeLists) → IsGrid grid → IsOrder P → AreInGrid grid points
    → AreTreeLists grid points cap lists → PrintNoWider P points lists.cells (target_boxes points cap P lists)
