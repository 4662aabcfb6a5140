-- What all entries of one letter and cell can lose is at most a multiple of the weight of all points, since no source lies in two of them.
use Rattle.std.proofs.Common.{ℕ, ◌<◌, ◌≤◌, ◌^◌, arith}
use Rattle.exact_math.proofs.Orders.{order_bounds}
use Rattle.cell_name.specs.Square.{side}
use Rattle.tree_field.proofs.Disjoint.{entries_share_no_source}
use Rattle.tree_field.proofs.EntrySums.{sum_by-entries}
use Rattle.tree_field.proofs.Radii.{pair_loss-within, single_loss-within}
use Rattle.letters.specs.declared.Letter.TheVariants.{V, X}
use Rattle.limits.proofs.Grids.{within_widest}
use Rattle.quadtree.specs.TreeModel.{size, square_of}
use Rattle.tree_field.specs.Field.{pair_loss_in, single_loss_in}
use Rattle.tree_field.specs.Lists.{TreeLists, AreTreeLists}
use Rattle.field_basis.proofs.Sizes.{some_lists, limited, tree_cell_of_lists}
use Rattle.field_basis.specs.Basis.{BasisModel, IsBasis}
use Rattle.downward_rows.specs.Radii.{v_losses_of, x_losses_of}
use Rattle.downward_rows.proofs.FieldRows.{v_losses_are, x_losses_are}

module _ (P : ℕ) (b : BasisModel) (is : IsBasis P b) (n : ℕ) (lt : n < size b.tree) where
  some : (lists : TreeLists) × AreTreeLists b.tree.grid b.points b.cap lists
  some = some_lists P b is

  few : P ≤ 32
  few = let order = order_bounds P is.order in omega (arith, order)

  pub v_losses_light : v_losses_of P b n ≤ 2 ^ 77
  v_losses_light =
      let whole = sum_by-entries entries_share_no_source b.points b.cap some.0 (limited P b is some.0 some.1) V (square_of b.tree n) (tree_cell_of_lists P b is some.0 some.1 n lt) P (2 ^ 41)
      (pair_loss_in b.points P (side (square_of b.tree n))) few (pair_loss-within b.points P (square_of b.tree n)) in
      omega (arith, v_losses_are P b is n lt some.0 some.1, whole, is.within.weight, (within_widest b.tree.grid is.is_tree.known_grid).weight)

  pub x_losses_light : x_losses_of P b n ≤ 2 ^ 77
  x_losses_light =
      let whole = sum_by-entries entries_share_no_source b.points b.cap some.0 (limited P b is some.0 some.1) X (square_of b.tree n) (tree_cell_of_lists P b is some.0 some.1 n lt) P (2 ^ 40)
      (single_loss_in b.points P (side (square_of b.tree n))) few (single_loss-within b.points P (square_of b.tree n)) in
      omega (arith, x_losses_are P b is n lt some.0 some.1, whole, is.within.weight, (within_widest b.tree.grid is.is_tree.known_grid).weight)
