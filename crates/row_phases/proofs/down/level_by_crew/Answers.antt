-- The level stands below those that are made.
use Rattle.std.proofs.Common.{length, subst, arith, lit<}
use Rattle.exact_math.proofs.Orders.{order_bounds}
use Rattle.quadtree.specs.TreeModel.{IsLevel}
use Rattle.field_basis.specs.Basis.{BasisModel, IsBasis}
use Rattle.row_phases.proofs.DownLevels.{level_is_run, level_made}
use Rattle.row_phases.proofs.down.level_by_crew.Goals as goal

pub run_by_crew-requires : goal.run_by_crew-requires
run_by_crew-requires g c =
    let b = c.args.basis.now in
    let s : IsBasis g.row.P b = subst (IsBasis g.row.P) c.basis.view_is c.basis.invariant in
    let r = c.level-range.result in
    let cells = subst (λ (v : BasisModel). IsLevel v.tree c.args.level r.start r.end) c.basis.view_is c.level-range.ensures in
    let front = c.split_at_mut-above.ensures in
    let bounds = order_bounds g.row.P s.order in
    let run = level_is_run g.row.P b s c.args.level r.start r.end cells c.args.places.now c.split_at_mut-above.result.0.now c.split_at_mut-above.result.1.now front.value front.front_len c.requires.made
    c.args.up.now c.requires.up (length c.split_at_mut-run.result.0.now) (omega (arith, cells.ordered, c.split_at_mut-run.ensures.front_len)) in
    (c.type_bounds.sync-R, (c.type_bounds.sync-G, (lit< tt, (omega (arith, bounds), run))))

pub returns : goal.returns
returns g c =
    let b = c.args.basis.now in
    let s : IsBasis g.row.P b = subst (IsBasis g.row.P) c.basis.view_is c.basis.invariant in
    let r = c.level-range.result in
    let cells = subst (λ (v : BasisModel). IsLevel v.tree c.args.level r.start r.end) c.basis.view_is c.level-range.ensures in
    let front = c.split_at_mut-above.ensures in
    let rest = c.split_at_mut-run.ensures in
    record {
      made = level_made g.row.P b s c.args.level r.start r.end cells c.args.places.now c.split_at_mut-above.result.0.now c.split_at_mut-above.result.1.now front.value front.front_len c.requires.made
          c.split_at_mut-run.result.0.now c.run_by_crew.new.run c.split_at_mut-run.result.1.now rest.value (omega (arith, cells.ordered, rest.front_len)) c.run_by_crew.ensures.len c.run_by_crew.ensures.made;
    }
