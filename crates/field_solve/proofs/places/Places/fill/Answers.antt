-- The places of each phase are those that the next one reads.
use Rattle.std.proofs.Common.{◌∙◌, List, sym, subst, arith, lit<}
use Rattle.std.proofs.lemmas.List.{with_items_is}
use Rattle.exact_math.proofs.Orders.{order_bounds}
use Rattle.field_basis.specs.Place.{PlaceModel}
use Rattle.row_phases.specs.Levels.{AreAllMadeLocal, AreAllMadeUp}
use Rattle.field_solve.proofs.places.Places.fill.Goals as goal

pub fill_up-requires : goal.fill_up-requires
fill_up-requires g c = let few = order_bounds g.row.P c.requires.order in (c.type_bounds.sync-R, (c.type_bounds.sync-G, (lit< tt, (omega (arith, few), omega (arith, c.deref_mut.ensures.len, c.requires.up, c.args.self.now.up.ok.0)))))

pub fill_down-requires : goal.fill_down-requires
fill_down-requires g c =
    let few = order_bounds g.row.P c.requires.order in
    let up = c.deref.ensures.value ∙ with_items_is c.args.self.now.up c.fill_up.new.places (c.fill_up.auto.places ∙ c.deref_mut.ensures.len) in (
      c.type_bounds.sync-R,
      (
        c.type_bounds.sync-G,
        (
          lit< tt,
          (
            omega (arith, few),
            (subst (λ (l : List PlaceModel). AreAllMadeUp g.row.P c.args.basis.now l) (sym up) c.fill_up.ensures.made, omega (arith, c.deref_mut-2.ensures.len, c.requires.local, c.args.self.now.local.ok.0)),
          ),
        ),
      ),
    )

pub fill_targets-requires : goal.fill_targets-requires
fill_targets-requires g c =
    let few = order_bounds g.row.P c.requires.order in
    let up = c.deref-2.ensures.value ∙ with_items_is c.args.self.now.up c.fill_up.new.places (c.fill_up.auto.places ∙ c.deref_mut.ensures.len) in
    let local = c.deref-3.ensures.value ∙ with_items_is c.args.self.now.local c.fill_down.new.places (c.fill_down.auto.places ∙ c.deref_mut-2.ensures.len) in (
      c.type_bounds.sync-R,
      (
        c.type_bounds.sync-G,
        (
          lit< tt,
          (
            omega (arith, few),
            (
              subst (λ (l : List PlaceModel). AreAllMadeUp g.row.P c.args.basis.now l) (sym up) c.fill_up.ensures.made,
              (subst (λ (l : List PlaceModel). AreAllMadeLocal g.row.P c.args.basis.now l) (sym local) c.fill_down.ensures.made, omega (arith, c.deref_mut-3.ensures.len, c.requires.values, c.args.self.now.values.ok.0)),
            ),
          ),
        ),
      ),
    )
