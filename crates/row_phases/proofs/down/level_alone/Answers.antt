-- The level stands below those that are made.
use Rattle.std.proofs.Common.{length, subst, arith, lit<}
use Rattle.exact_math.proofs.Orders.{order_bounds}
use Rattle.quadtree.specs.TreeModel.{IsLevel}
use Rattle.field_basis.specs.Basis.{BasisModel, IsBasis}
use Rattle.row_phases.proofs.DownLevels.{level_is_run, level_made}
use Rattle.row_phases.proofs.down.level_alone.Goals as goal

pub fill_run-requires : goal.fill_run-requires
fill_run-requires g c =
    let b = c.args.basis.now in
    let s : IsBasis g.row.P b = subst (IsBasis g.row.P) c.basis.view_is c.basis.invariant in
    let r = c.level-range.result in
    let cells = subst (λ (v : BasisModel). IsLevel v.tree c.args.level r.start r.end) c.basis.view_is c.level-range.ensures in
    let front = c.split_at_mut-above.ensures in
    let bounds = order_bounds g.row.P s.order in
    let run = level_is_run g.row.P b s c.args.level r.start r.end cells c.args.places.now c.split_at_mut-above.result.0.now c.split_at_mut-above.result.1.now front.value front.front_len c.requires.made
    c.args.up.now c.requires.up (length c.split_at_mut-run.result.0.now) (omega (arith, cells.ordered, c.split_at_mut-run.ensures.front_len)) in
    (lit< tt, (omega (arith, bounds), (run.rows, (run.in_range, run.parents))))

pub returns : goal.returns
returns g c =
    let b = c.args.basis.now in
    let s : IsBasis g.row.P b = subst (IsBasis g.row.P) c.basis.view_is c.basis.invariant in
    let r = c.level-range.result in
    let cells = subst (λ (v : BasisModel). IsLevel v.tree c.args.level r.start r.end) c.basis.view_is c.level-range.ensures in
    let front = c.split_at_mut-above.ensures in
    let rest = c.split_at_mut-run.ensures in
    record {
      made = level_made g.row.P b s c.args.level r.start r.end cells c.args.places.now c.split_at_mut-above.result.0.now c.split_at_mut-above.result.1.now front.value front.front_len c.requires.made
          c.split_at_mut-run.result.0.now c.fill_run.new.run c.split_at_mut-run.result.1.now rest.value (omega (arith, cells.ordered, rest.front_len)) c.fill_run.ensures.len c.fill_run.ensures.made;
    }
