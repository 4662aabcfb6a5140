-- The level is made from what is behind it.
use Rattle.std.proofs.Common.{subst, arith, lit<}
use Rattle.exact_math.proofs.Orders.{order_bounds}
use Rattle.field_basis.specs.Basis.{BasisModel, IsBasis}
use Rattle.quadtree.specs.TreeModel.{IsLevel}
use Rattle.row_phases.proofs.UpLevels.{cut_of, level_run, level_made}
use Rattle.row_phases.proofs.up.level_alone.Goals as goal

pub run_alone-requires : goal.run_alone-requires
run_alone-requires g c =
    let from = c.level-range.result.start in
    let to = c.level-range.result.end in
    let places = c.args.places.now in
    let front = c.split_at_mut-run.result.0.now in
    let run = c.split_at_mut-run.result.1.now in
    let behind = c.split_at_mut-front.result.1.now in
    let outer = c.split_at_mut-front.ensures in
    let inner = c.split_at_mut-run.ensures in
    let cut = cut_of from to places c.split_at_mut-front.result.0.now front run behind outer.value outer.front_len inner.value inner.front_len inner.back_len in
    let level = subst (λ (b : BasisModel). IsLevel b.tree c.args.level from to) c.basis.view_is c.level-range.ensures in
    let few = order_bounds g.row.P c.basis.invariant.order in
    let basis = subst (IsBasis g.row.P) c.basis.view_is c.basis.invariant in
    let above = level_run g.row.P c.args.basis.now c.args.level from to level places front run behind cut c.requires.made basis in
    (lit< tt, (omega (arith, few), above))

pub returns : goal.returns
returns g c =
    let from = c.level-range.result.start in
    let to = c.level-range.result.end in
    let places = c.args.places.now in
    let front = c.split_at_mut-run.result.0.now in
    let run = c.split_at_mut-run.result.1.now in
    let behind = c.split_at_mut-front.result.1.now in
    let outer = c.split_at_mut-front.ensures in
    let inner = c.split_at_mut-run.ensures in
    let cut = cut_of from to places c.split_at_mut-front.result.0.now front run behind outer.value outer.front_len inner.value inner.front_len inner.back_len in
    let level = subst (λ (b : BasisModel). IsLevel b.tree c.args.level from to) c.basis.view_is c.level-range.ensures in
    record { made = level_made g.row.P c.args.basis.now c.args.level from to level places front run behind cut c.requires.made c.run_alone.new.run c.run_alone.auto.run c.run_alone.ensures }
