-- The points at the indices so far.
use Rattle.std.proofs.Common.{◌≡◌, ◌++◌, take}
use Rattle.certificate_nodes.specs.AtNodes.{points_at}
use Rattle.certificate_nodes.proofs.point_rows.gather.Given as goal

abbrev pub invariant-loop-k : goal.invariant-loop-k
invariant-loop-k l = l.into.items ≡ l.initial.into.items ++ points_at l.points (take l.k-index l.indices)
