use Rattle.std.proofs.Common.{◌+◌, ◌<◌}
use Rattle.certificate_nodes.specs.Presented.{accounting_of, node_count}
use Rattle.certificate_tiling.specs.Walk.{CoversBetween}
use Rattle.certificate_tiling.proofs.walk.go_to.Given as goal

abbrev pub invariant-loop-left : goal.invariant-loop-left
invariant-loop-left l = record {
  between : CoversBetween (accounting_of l.given) l.to l.left l.entered l.cover;
  left_inside : l.left < node_count l.given;
  entered_inside : l.entered < node_count l.given;
}

abbrev pub decreases-loop-left : goal.decreases-loop-left
decreases-loop-left l = l.left + l.entered
