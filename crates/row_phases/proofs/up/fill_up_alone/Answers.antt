-- One level more.
use Rattle.std.proofs.Common.{ℕ, ◌<◌, subst, arith, lit<}
use Rattle.exact_math.proofs.Orders.{order_bounds}
use Rattle.field_basis.specs.Basis.{BasisModel}
use Rattle.quadtree.specs.TreeModel.{size, square_of}
use Rattle.row_phases.proofs.UpLevels.{all_made, none_made, one_more}
use Rattle.row_phases.proofs.up.fill_up_alone.Goals as goal

pub loop-level-init : goal.loop-level-init
loop-level-init g c =
    let last = subst (λ (b : BasisModel). (n : ℕ) → n < size b.tree → (square_of b.tree n).level < c.level_count-level.result) c.basis.view_is c.level_count-level.ensures in
    none_made g.row.P c.args.basis.now c.level_count-level.result c.args.places.now c.requires.len last

pub level_alone-requires : goal.level_alone-requires
level_alone-requires g c =
    let few = order_bounds g.row.P c.basis.invariant.order in
    (lit< tt, (omega (arith, few), one_more g.row.P c.args.basis.now c.loop-level.level c.loop-level.places c.loop-level-test.true c.loop-level.invariant))

pub loop-level-preserved : goal.loop-level-preserved
loop-level-preserved g c = c.level_alone.ensures.made

pub returns : goal.returns
returns g c = record { made = all_made g.row.P c.args.basis.now c.loop-level.level c.loop-level.places c.loop-level-test.false c.loop-level.invariant }
