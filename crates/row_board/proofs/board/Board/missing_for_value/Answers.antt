-- The leaf's row first, then those of its W list.
use Rattle.std.proofs.Common.{◌<◌, length, ap, sym, subst, arith, lit<}
use Rattle.std.specs.Prelude.{All}
use Rattle.letters.specs.declared.Letter.TheVariants.{W}
use Rattle.field_basis.specs.Basis.{BasisModel}
use Rattle.quadtree.specs.TreeModel.{size, leaf_of}
use Rattle.target_values.proofs.FieldBox.{leaf_is, position}
use Rattle.row_board.proofs.Missing.{same_basis, listed, numbers, target_read}
use Rattle.row_board.proofs.board.Board.missing_for_value.Goals as goal

pub leaf_of-leaf-requires : goal.leaf_of-leaf-requires
leaf_of-leaf-requires g c =
    let few = ap (λ (b : BasisModel). length b.targets) (same_basis _ _ _ c.basis.view_is c.self.view_is) in
    let lt : c.args.k < length c.basis.inside.targets.items = omega (arith, few, c.requires) in
    let here = (position g.row.P _ c.basis.invariant c.args.k lt).inside in
    let read = target_read g.row.P _ c.basis.invariant c.args.k c.index.result.now lt c.index.ensures in
    omega (arith, here, read, c.basis.invariant.is_tree.as_many_leaves)

pub w_list-requires : goal.w_list-requires
w_list-requires g c =
    let few = ap (λ (b : BasisModel). length b.targets) (same_basis _ _ _ c.basis.view_is c.self.view_is) in
    let lt : c.args.k < length c.basis.inside.targets.items = omega (arith, few, c.requires) in
    let leaf = ap (leaf_of c.basis.inside.tree) (target_read g.row.P _ c.basis.invariant c.args.k c.index.result.now lt c.index.ensures) in
    let low = (leaf_is g.row.P _ c.basis.invariant c.args.k lt).in_range in
    listed g.row.P _ c.basis.invariant W c.leaf_of-leaf.result (omega (arith, c.leaf_of-leaf.ensures, leaf, low))

pub first_missing-requires : goal.first_missing-requires
first_missing-requires g c =
    let e = same_basis _ _ _ c.basis.view_is c.self.view_is in
    let trees = ap (λ (b : BasisModel). size b.tree) e in
    let few = ap (λ (b : BasisModel). length b.targets) e in
    let lt : c.args.k < length c.basis.inside.targets.items = omega (arith, few, c.requires) in
    let leaf = ap (leaf_of c.basis.inside.tree) (target_read g.row.P _ c.basis.invariant c.args.k c.index.result.now lt c.index.ensures) in
    let low = (leaf_is g.row.P _ c.basis.invariant c.args.k lt).in_range in
    let b = c.leaf_of-leaf.result in
    let inside : b < size c.basis.inside.tree = omega (arith, c.leaf_of-leaf.ensures, leaf, low) in
    (lit< tt, (omega (arith, trees, inside), subst (All (λ m. m < size c.args.self.now.basis.tree)) (sym c.w_list.ensures) (λ k d h. omega (arith, trees, numbers g.row.P _ c.basis.invariant W b inside k d h))))
