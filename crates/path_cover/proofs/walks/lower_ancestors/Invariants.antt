use Rattle.std.proofs.Common.{ℕ, ◌≡◌, ◌+◌, ◌<◌, length, cond}
use Rattle.node_sums.specs.Sums.{value_at}
use Rattle.path_cover.specs.Kept.{strictly_under}
use Rattle.path_cover.proofs.walks.lower_ancestors.Given as goal

abbrev pub invariant-loop-n : goal.invariant-loop-n
invariant-loop-n l = record {
  inside : l.n < length l.parents;
  so_far : (k : ℕ) → k < length l.below → value_at l.below k + cond (strictly_under l.parents l.c k) l.by 0 ≡ value_at l.initial.below k + cond (strictly_under l.parents l.n k) l.by 0;
}

abbrev pub decreases-loop-n : goal.decreases-loop-n
decreases-loop-n l = l.n
