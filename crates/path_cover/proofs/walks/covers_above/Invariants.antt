use Rattle.std.proofs.Common.{◌≡◌, ◌+◌, ◌<◌, length}
use Rattle.node_sums.specs.Sums.{value_at}
use Rattle.path_cover.specs.Covers.{times_above}
use Rattle.path_cover.proofs.walks.covers_above.Given as goal

abbrev pub invariant-loop-n : goal.invariant-loop-n
invariant-loop-n l = record {
  inside : l.n < length l.parents;
  so_far : l.times + times_above l.parents (value_at l.covers) (length l.covers) l.n ≡ times_above l.parents (value_at l.covers) (length l.covers) l.c + value_at l.covers 0;
}

abbrev pub decreases-loop-n : goal.decreases-loop-n
decreases-loop-n l = l.n
