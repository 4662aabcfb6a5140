use Rattle.std.proofs.Common.{subst, sym, arith, lit<}
use Rattle.exact_math.proofs.Orders.{order_bounds}
use Rattle.field_basis.specs.Basis.{IsBasis}
use Rattle.field_basis.specs.FieldPlaces.{IsLocalPlace}
use Rattle.downward_rows.proofs.MadePlaces.{parent_above}
use Rattle.downward_rows.proofs.PlacesSoFar.{rest_own, rest_written}
use Rattle.downward_rows.proofs.fill.fill_place.Goals as goal

pub make_place-requires : goal.make_place-requires
make_place-requires g c =
    let b = c.args.basis.now in
    let s : IsBasis g.row.P b = subst (IsBasis g.row.P) c.basis.view_is c.basis.invariant in
    let few = order_bounds g.row.P s.order in
    let h = c.split_at_mut-above.ensures in (
      lit< tt,
      (
        omega (arith, few),
        (
          c.requires.cell,
          (
            c.requires.rows,
            (
              λ lo. parent_above g.row.P b s c.args.n c.requires.cell c.args.places.now c.split_at_mut-above.result.0.now c.split_at_mut-above.result.1.now h.value h.front_len lo (c.requires.parent lo),
              c.requires.room,
            ),
          ),
        ),
      ),
    )

pub returns-clause-others : goal.returns-clause-others
returns-clause-others g c = rest_written c.args.places.now c.split_at_mut-above.result.0.now c.split_at_mut-above.result.1.now c.args.n c.make_place.new.place c.split_at_mut-above.ensures.value c.split_at_mut-above.ensures.front_len

pub returns-clause-local : goal.returns-clause-local
returns-clause-local g c =
    let h = c.split_at_mut-above.ensures in
    subst (IsLocalPlace g.row.P c.args.basis.now c.args.n)
    (sym (rest_own c.args.places.now c.split_at_mut-above.result.0.now c.split_at_mut-above.result.1.now c.args.n c.make_place.new.place h.value h.front_len (omega (arith, c.requires.cell, c.requires.len))))
    c.make_place.ensures.local

pub split_at_mut-above-requires : goal.split_at_mut-above-requires
split_at_mut-above-requires g c = omega (arith, c.requires.cell, c.requires.len)

pub returns-clause-work : goal.returns-clause-work
returns-clause-work g c = c.make_place.ensures.work
