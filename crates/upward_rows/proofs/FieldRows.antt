-- The multipole row of a cell from those of its quarters.
use Rattle.std.proofs.Common.{ℕ, ◌≡◌, ◌*◌, ◌^◌, ◌<◌, ◌≤◌, List, filter, false, sym, ap, ◌∙◌, arith}
use Rattle.exact_math.specs.Ends.{BoxEnds}
use Rattle.cell_name.specs.Quarters.{quarters}
use Rattle.cell_name.specs.Square.{Square}
use Rattle.field_basis.specs.Trees.{IsTreeOfPoints}
use Rattle.tree_field.proofs.CellWeights.{weight64_in, weight64_in-light}
use Rattle.tree_field.proofs.MultipoleSizes.{multipole_row-within}
use Rattle.soundness.proofs.RowTotals.{wider}
use Rattle.limits.proofs.Grids.{within_widest}
use Rattle.points.specs.declared.Point.{Point}
use Rattle.quadtree.proofs.Limits.{in_grid}
use Rattle.quadtree.proofs.TreeChildren.{tree_cell_at}
use Rattle.quadtree.specs.TreeModel.{TreeModel, size, square_of, node_of, IsTreeOf}
use Rattle.row_recursions.specs.Rows.{shifted_up}
use Rattle.row_recursions.specs.Sizes.{RowWithin}
use Rattle.soundness.specs.Computed.{total_row, total_box}
use Rattle.soundness.specs.Squares.{quadrant}
use Rattle.tree_field.specs.Field.{multipole_row}
use Rattle.tree_field.specs.Program.{source_children}
use Rattle.tree_field.proofs.MultipoleRows.{multipole_row-split}
use Rattle.tree_field.proofs.Program.{nodes_of_tree}
use Rattle.soundness.proofs.Sums.{total_box-map}
use Rattle.upward_rows.proofs.Trees.{inner_is}
use Rattle.quadtree.specs.Tree.{has_source}

-- the row of a cell by its number, shifted up
abbrev pub shifted_row : List Point → ℕ → TreeModel → ℕ → ℕ → BoxEnds
shifted_row points cap tree m = shifted_up (multipole_row points cap (square_of tree m)) (quadrant (square_of tree m))

module _ (tree : TreeModel) (points : List Point) (of_points : IsTreeOfPoints points tree) (cap : ℕ) (is : IsTreeOf tree points cap) (n : ℕ) (lt : n < size tree) where
  -- a sum over the quarters is one over their numbers
  over_numbers : (f : Square → BoxEnds) → (node_of tree n).is_leaf ≡ false → total_box f (filter (has_source points) (quarters (square_of tree n))) ≡ total_box (λ m. f (square_of tree m)) (source_children tree n)
  over_numbers f inner =
      ap (total_box f) (sym ((nodes_of_tree tree points of_points.cap (in_grid tree.grid points of_points.within.range) of_points.is_tree n lt).children inner))
      ∙ total_box-map f (square_of tree) (source_children tree n)

  pub row_of_inner : (node_of tree n).is_leaf ≡ false → (k : ℕ) → total_row (shifted_row points cap tree) (source_children tree n) k ≡ multipole_row points cap (square_of tree n) k
  row_of_inner e k =
      let inner = inner_is tree points cap is n lt e in
      sym (over_numbers (λ q. shifted_up (multipole_row points cap q) (quadrant q) k) e)
      ∙ sym (multipole_row-split points cap (square_of tree n) (omega (arith, inner.of_grid, inner.room)) inner.over k)

  pub row_small : (P : ℕ) → P ≤ 64 → RowWithin P (2 ^ 76) (multipole_row points cap (square_of tree n))
  row_small P few =
      let cell = tree_cell_at tree points cap n is lt in
      let light = weight64_in-light points (square_of tree n) in
      let most = (within_widest tree.grid is.known_grid).weight in
      wider P (2 ^ 40 * weight64_in points (square_of tree n)) (2 ^ 76) (multipole_row points cap (square_of tree n)) (omega (arith, light, of_points.within.weight, most))
      (multipole_row-within P points cap (square_of tree n) few (omega (arith, cell.of_grid, cell.level_in_grid)))
