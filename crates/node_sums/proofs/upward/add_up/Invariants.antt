-- The nodes from one on are added to their parents.
use Rattle.std.proofs.Common.{◌<◌, length}
use Rattle.node_sums.proofs.Pushed.{ArePushed}
use Rattle.node_sums.proofs.upward.add_up.Given as goal

abbrev pub invariant-loop-n : goal.invariant-loop-n
invariant-loop-n l = record {
  pushed : ArePushed l.parents l.initial.values l.n l.values;
  some : 0 < length l.values → 0 < l.n;
}
