-- The lists of a basis's tree, and how large the rows of its field are.
use Rattle.std.proofs.Common.{ℕ, ◌<◌, ◌≤◌, sym, subst}
use Rattle.soundness.proofs.RowTotals.{wider}
use Rattle.limits.proofs.Grids.{grid_positive, within_widest}
use Rattle.limits.specs.Laws.{AreWithinWidest}
use Rattle.limits.specs.Limits.{IsGrid, widest_grid, most_multipole, most_local, most_weight}
use Rattle.points.specs.Limits.{total_weight}
use Rattle.quadtree.proofs.Limits.{in_grid}
use Rattle.quadtree.proofs.TreeChildren.{tree_cell_at}
use Rattle.quadtree.specs.Tree.{AreInGrid, IsTreeCell}
use Rattle.quadtree.specs.TreeModel.{size, square_of}
use Rattle.tree_field.proofs.Bounds.{rows_within}
use Rattle.tree_field.specs.Sizes.{IsLimited, RowsWithin}
use Rattle.row_recursions.specs.Sizes.{RowWithin}
use Rattle.tree_field.proofs.EachList.{each_list_has_tree}
use Rattle.tree_field.specs.Field.{multipole_row, local_row}
use Rattle.tree_field.specs.Lists.{TreeLists, AreTreeLists}
use Rattle.field_basis.specs.Basis.{BasisModel, IsBasis}

module _ (P : ℕ) (b : BasisModel) (is : IsBasis P b) where
  pub inside : AreInGrid b.tree.grid b.points
  inside = in_grid b.tree.grid b.points is.within.range

  pub some_lists : (lists : TreeLists) × AreTreeLists b.tree.grid b.points b.cap lists
  some_lists = each_list_has_tree b.tree.grid b.points b.cap (grid_positive b.tree.grid is.is_tree.known_grid) inside

  module _ (lists : TreeLists) (are : AreTreeLists b.tree.grid b.points b.cap lists) where
    pub known : IsGrid lists.grid
    known = subst IsGrid (sym are.of_grid) is.is_tree.known_grid

    pub limited : IsLimited b.points b.cap lists
    limited = record {
      known_grid = known;
      in_grid = subst (λ grid. AreInGrid grid b.points) (sym are.of_grid) inside;
      light = subst (λ grid. total_weight b.points ≤ most_weight grid) (sym are.of_grid) is.within.weight;
      lists_are = subst (λ grid. AreTreeLists grid b.points b.cap lists) (sym are.of_grid) are;
    }

    pub tree_cell_of_lists : (n : ℕ) → n < size b.tree → IsTreeCell lists.grid b.points b.cap (square_of b.tree n)
    tree_cell_of_lists n lt = subst (λ grid. IsTreeCell grid b.points b.cap (square_of b.tree n)) (sym are.of_grid) (tree_cell_at b.tree b.points b.cap n is.is_tree lt)

    pub rows_small : (n : ℕ) → n < size b.tree → RowsWithin b.points b.cap P lists (square_of b.tree n)
    rows_small n lt = rows_within b.points b.cap P lists is.order limited (square_of b.tree n) (tree_cell_of_lists n lt)

  pub within : (n : ℕ) → n < size b.tree → RowsWithin b.points b.cap P some_lists.0 (square_of b.tree n)
  within n lt = rows_small some_lists.0 some_lists.1 n lt

  -- by the widest grid
  module _ (n : ℕ) (lt : n < size b.tree) where
    widest : AreWithinWidest some_lists.0.grid
    widest = within_widest some_lists.0.grid (known some_lists.0 some_lists.1)

    pub multipole_within : RowWithin P (most_multipole widest_grid) (multipole_row b.points b.cap (square_of b.tree n))
    multipole_within = wider P (most_multipole some_lists.0.grid) (most_multipole widest_grid) (multipole_row b.points b.cap (square_of b.tree n)) widest.multipole (within n lt).multipole

    pub local_within : RowWithin P (most_local widest_grid) (local_row b.points b.cap P some_lists.0 (square_of b.tree n))
    local_within = wider P (most_local some_lists.0.grid) (most_local widest_grid) (local_row b.points b.cap P some_lists.0 (square_of b.tree n)) widest.local (within n lt).local
