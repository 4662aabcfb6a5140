-- The points so far are no heavier than all.
use Rattle.std.proofs.Common.{arith}
use Rattle.certificate_nodes.proofs.Sums.{light_so_far}
use Rattle.certificate_nodes.proofs.under_nodes.points_weight.Goals as goal

pub overflow_add-total : goal.overflow_add-total
overflow_add-total c =
    let light = light_so_far c.args.order c.args.points.now c.loop-p.p-index c.requires.most c.requires.points.light c.loop-p-test.true in
    omega (arith, light, c.loop-p.invariant, c.weight-total.ensures)
