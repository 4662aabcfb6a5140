use Rattle.std.proofs.Common.{◌≡◌, take}
use Rattle.certificate_nodes.specs.UnderNodes.{points_weight}
use Rattle.certificate_nodes.proofs.under_nodes.points_weight.Given as goal

abbrev pub invariant-loop-p : goal.invariant-loop-p
invariant-loop-p l = l.total ≡ points_weight l.order (take l.p-index l.points)
