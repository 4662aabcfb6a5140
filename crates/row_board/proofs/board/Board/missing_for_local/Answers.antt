-- The parent's row first, then those of the V list.
use Rattle.std.proofs.Common.{◌<◌, ◌∷◌, map, ap, ap₂, ◌∙◌, sym, subst, arith, lit<}
use Rattle.std.specs.Prelude.{All}
use Rattle.letters.specs.declared.Letter.TheVariants.{V}
use Rattle.cell_lists.specs.ListAt.{list_at}
use Rattle.field_basis.specs.Basis.{BasisModel}
use Rattle.quadtree.specs.TreeModel.{size, node_of}
use Rattle.row_board.specs.Names.{FindsMissing}
use Rattle.row_board.specs.declared.name.Name.TheVariants.{Up, Local}
use Rattle.row_board.proofs.Missing.{same_basis, needs_below, listed, numbers}
use Rattle.row_board.proofs.board.Board.missing_for_local.Goals as goal

pub v_list-requires : goal.v_list-requires
v_list-requires g c = let e = ap (λ (b : BasisModel). size b.tree) (same_basis _ _ _ c.basis.view_is c.self.view_is) in listed g.row.P _ c.basis.invariant V c.args.n (omega (arith, e, c.requires))

pub first_missing-requires : goal.first_missing-requires
first_missing-requires g c =
    let trees = ap (λ (b : BasisModel). size b.tree) (same_basis _ _ _ c.basis.view_is c.self.view_is) in
    let n = c.args.n in
    let lt : n < size c.basis.inside.tree = omega (arith, trees, c.requires) in
    let above = (c.basis.invariant.is_tree.nodes_are n lt).parent_is.in_range in
    (lit< tt, (omega (arith, trees, c.parent.ensures, above), subst (All (λ m. m < size c.args.self.now.basis.tree)) (sym c.v_list.ensures) (λ k d h. omega (arith, trees, numbers g.row.P _ c.basis.invariant V n lt k d h))))

pub returns : goal.returns
returns g c =
    let n = c.args.n in
    let e = same_basis _ _ _ c.basis.view_is c.self.view_is in
    subst (λ names. FindsMissing c.args.self.now names c.first_missing.result)
    (ap₂ (λ m l. Local m ∷ map Up l) (c.parent.ensures ∙ ap (λ (b : BasisModel). (node_of b.tree n).parent) e) (c.v_list.ensures ∙ ap (λ (b : BasisModel). list_at b.lists.v n) e) ∙ sym (needs_below c.args.self.now n c.if-n-eq0.false))
    c.first_missing.ensures
