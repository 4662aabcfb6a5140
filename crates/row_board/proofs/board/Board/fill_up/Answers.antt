-- The multipole rows of the quarters are there, and what the row leaves.
use Rattle.std.proofs.Common.{length, ap, ◌∙◌, sym, subst, arith}
use Rattle.std.proofs.lemmas.List.{with_items_is}
use Rattle.std.specs.Prelude.{List}
use Rattle.std.specs.Vec.{with_items}
use Rattle.exact_math.proofs.Orders.{order_bounds}
use Rattle.field_basis.proofs.Trees.{tree_of_basis}
use Rattle.field_basis.specs.Basis.{BasisModel}
use Rattle.field_basis.specs.Trees.{IsTreeOfPoints}
use Rattle.points.specs.declared.Point.{Point}
use Rattle.quadtree.specs.TreeModel.{size}
use Rattle.row_board.specs.Inside.{parts}
use Rattle.row_board.specs.Names.{IsName, needs, AreFilled}
use Rattle.row_board.specs.Parts.{BoardParts}
use Rattle.row_board.specs.declared.name.Name.TheVariants.{Up}
use Rattle.row_board.proofs.Fills.{Fills, others_seen, up_kept, with_up}
use Rattle.row_board.proofs.Needed.{quarters_stand, row_stands}
use Rattle.row_board.proofs.board.Board.fill_up.Given.{Over}
use Rattle.row_board.proofs.board.Board.fill_up.Goals as goal

pub fill_place-requires : goal.fill_place-requires
fill_place-requires g c =
    let P = g.row.P in
    let n = c.args.n in
    let b : BoardParts = parts c.self.inside in
    let is = c.self.invariant in
    let few = order_bounds P is.basis_is.order in
    let named = subst (λ (b : BoardParts). IsName b (Up n)) (sym c.self.view_is) c.requires.name in
    let ready = subst (λ (b : BoardParts). AreFilled b (needs b (Up n))) (sym c.self.view_is) c.requires.ready in
    let trees = ap (λ (b : BasisModel). size b.tree) c.basis.view_is in
    let tree = subst (λ (l : List Point). IsTreeOfPoints l c.basis.inside.tree) (sym c.deref.ensures.value) (tree_of_basis P _ c.basis.invariant) in
    let rows = quarters_stand P b is _ _ c.basis.view_is c.deref.ensures.value n _ c.deref_mut.ensures.value ready in
    (omega (arith, few), (is.basis_is.order, (tree, (omega (arith, trees, named.0), (ap length c.deref_mut.ensures.value ∙ is.up_each ∙ sym trees, (rows, c.requires.room))))))

made : (g : Over) (c : goal.After-self-2-1 g) → Fills g.row.P (Up c.args.n) (parts c.self.inside) (with_up (parts c.self.inside) c.args.n (with_items c.self.inside.up c.fill_place.new.places).items)
made g c =
    let P = g.row.P in
    let n = c.args.n in
    let b : BoardParts = parts c.self.inside in
    let named = subst (λ (b : BoardParts). IsName b (Up n)) (sym c.self.view_is) c.requires.name in
    up_kept P b c.self.invariant n _ c.fill_place.new.places _ c.deref_mut.ensures.value (λ e. with_items_is c.self.inside.up c.fill_place.new.places (e ∙ c.deref_mut.ensures.len)) named
    c.fill_place.ensures.others (row_stands P b c.self.invariant _ _ c.basis.view_is c.deref.ensures.value n _ c.fill_place.ensures.row)

pub invariant_of-self : goal.invariant_of-self
invariant_of-self g c = (made g c).board

pub returns-clause-others : goal.returns-clause-others
returns-clause-others g c = others_seen _ _ _ _ c.self.view_is (made g c).others

pub returns-clause-board : goal.returns-clause-board
returns-clause-board g c = (made g c).board
