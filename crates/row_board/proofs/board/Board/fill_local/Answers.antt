-- The rows of the parent and of the V list are there, and what the local row leaves.
use Rattle.std.proofs.Common.{length, ap, ◌∙◌, sym, subst, arith, lit<}
use Rattle.std.proofs.lemmas.List.{with_items_is}
use Rattle.std.specs.Prelude.{List}
use Rattle.std.specs.Vec.{with_items}
use Rattle.exact_math.proofs.Orders.{order_bounds}
use Rattle.cell_lists.specs.ListAt.{list_at}
use Rattle.field_basis.specs.FieldPlaces.{AreMultipolePlaces, HasLocalPlace}
use Rattle.field_basis.specs.Place.{PlaceModel}
use Rattle.quadtree.specs.TreeModel.{node_of}
use Rattle.row_board.specs.Inside.{parts}
use Rattle.row_board.specs.Names.{IsName, needs, AreFilled}
use Rattle.row_board.specs.Parts.{BoardParts}
use Rattle.row_board.specs.declared.name.Name.TheVariants.{Local}
use Rattle.row_board.proofs.Fills.{Fills, others_seen, local_kept, with_local}
use Rattle.row_board.proofs.Needed.{far_stand, parent_stands}
use Rattle.row_board.proofs.board.Board.fill_local.Given.{Over}
use Rattle.row_board.proofs.board.Board.fill_local.Goals as goal

pub fill_place-requires : goal.fill_place-requires
fill_place-requires g c =
    let P = g.row.P in
    let n = c.args.n in
    let b : BoardParts = parts c.self.inside in
    let is = c.self.invariant in
    let few = order_bounds P is.basis_is.order in
    let named = subst (λ (b : BoardParts). IsName b (Local n)) (sym c.self.view_is) c.requires.name in
    let ready = subst (λ (b : BoardParts). AreFilled b (needs b (Local n))) (sym c.self.view_is) c.requires.ready in
    let rows = subst (λ (l : List PlaceModel). AreMultipolePlaces P b.basis.points b.basis.tree l (list_at b.basis.lists.v n)) (sym c.deref.ensures.value) (far_stand P b is n ready named.0) in (
      lit< tt,
      (
        omega (arith, few),
        (
          named.0,
          (
            ap length c.deref_mut.ensures.value ∙ is.local_each,
            (
              rows,
              (
                λ lo. subst (λ (l : List PlaceModel). HasLocalPlace P b.basis l (node_of b.basis.tree n).parent) (sym c.deref_mut.ensures.value) (parent_stands P b is n ready lo),
                c.requires.room,
              ),
            ),
          ),
        ),
      ),
    )

made : (g : Over) (c : goal.After-self-2-1 g) → Fills g.row.P (Local c.args.n) (parts c.self.inside) (with_local (parts c.self.inside) c.args.n (with_items c.self.inside.local c.fill_place.new.places).items)
made g c =
    let n = c.args.n in
    let named = subst (λ (b : BoardParts). IsName b (Local n)) (sym c.self.view_is) c.requires.name in
    local_kept g.row.P (parts c.self.inside) c.self.invariant n _ c.fill_place.new.places _ c.deref_mut.ensures.value (λ e. with_items_is c.self.inside.local c.fill_place.new.places (e ∙ c.deref_mut.ensures.len)) named
    c.fill_place.ensures.others c.fill_place.ensures.local

pub invariant_of-self : goal.invariant_of-self
invariant_of-self g c = (made g c).board

pub returns-clause-others : goal.returns-clause-others
returns-clause-others g c = others_seen _ _ _ _ c.self.view_is (made g c).others

pub returns-clause-board : goal.returns-clause-board
returns-clause-board g c = (made g c).board
