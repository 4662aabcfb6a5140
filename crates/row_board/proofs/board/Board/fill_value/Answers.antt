-- The rows of the leaf and of its W list are there, and what the box leaves.
use Rattle.std.proofs.Common.{sym, subst, arith, lit<}
use Rattle.std.specs.Prelude.{List}
use Rattle.exact_math.proofs.Orders.{order_bounds}
use Rattle.cell_lists.specs.ListAt.{list_at}
use Rattle.field_basis.specs.Basis.{target_leaf}
use Rattle.field_basis.specs.FieldPlaces.{AreMultipolePlaces, HasLocalPlace}
use Rattle.field_basis.specs.Place.{PlaceModel}
use Rattle.row_board.specs.Inside.{parts}
use Rattle.row_board.specs.Names.{IsName, needs, AreFilled}
use Rattle.row_board.specs.Parts.{BoardParts}
use Rattle.row_board.specs.declared.name.Name.TheVariants.{Value}
use Rattle.row_board.proofs.Fills.{Fills, others_seen, value_fills, with_value}
use Rattle.row_board.proofs.Needed.{leaf_far_stand, leaf_stands}
use Rattle.row_board.proofs.board.Board.fill_value.Given.{Over}
use Rattle.row_board.proofs.board.Board.fill_value.Goals as goal

pub target_value-requires : goal.target_value-requires
target_value-requires g c =
    let P = g.row.P in
    let k = c.args.k in
    let b : BoardParts = parts c.self.inside in
    let is = c.self.invariant in
    let few = order_bounds P is.basis_is.order in
    let named = subst (λ (b : BoardParts). IsName b (Value k)) (sym c.self.view_is) c.requires.name in
    let ready = subst (λ (b : BoardParts). AreFilled b (needs b (Value k))) (sym c.self.view_is) c.requires.ready in
    let rows = subst (λ (l : List PlaceModel). AreMultipolePlaces P b.basis.points b.basis.tree l (list_at b.basis.lists.w (target_leaf b.basis k))) (sym c.deref.ensures.value) (leaf_far_stand P b is k ready) in
    let leaf = subst (λ (l : List PlaceModel). HasLocalPlace P b.basis l (target_leaf b.basis k)) (sym c.deref-2.ensures.value) (leaf_stands P b is k ready) in
    (lit< tt, (omega (arith, few), (named, (rows, (leaf, c.requires.room)))))

made : (g : Over) (c : goal.After-self-2-1 g) → Fills g.row.P (Value c.args.k) (parts c.self.inside) (with_value (parts c.self.inside) c.args.k c.target_value.result)
made g c =
    let named = subst (λ (b : BoardParts). IsName b (Value c.args.k)) (sym c.self.view_is) c.requires.name in
    value_fills g.row.P (parts c.self.inside) c.self.invariant c.args.k c.target_value.result named c.target_value.ensures.value

pub invariant_of-self : goal.invariant_of-self
invariant_of-self g c = (made g c).board

pub returns-clause-others : goal.returns-clause-others
returns-clause-others g c = others_seen _ _ _ _ c.self.view_is (made g c).others

pub returns-clause-board : goal.returns-clause-board
returns-clause-board g c = (made g c).board
