use Rattle.std.proofs.Common.{◌≡◌, take}
use Rattle.std.specs.List.{range_with_len, count_by}
use Rattle.quadtree.specs.TreeModel.{size, node_of}
use Rattle.sample_summary.proofs.numbers.leaf_count.Given as goal

abbrev pub invariant-loop-n : goal.invariant-loop-n
invariant-loop-n l = l.count ≡ count_by (λ n. (node_of l.tree n).is_leaf) (take l.n (range_with_len 0 (size l.tree)))
