use Rattle.std.proofs.Common.{◌≡◌, length, take, sum}
use Rattle.path_cover.proofs.LeafCounts.{AreCounts}
use Rattle.path_cover.proofs.sizes.sources_in.Given as goal

abbrev pub invariant-loop-leaf : goal.invariant-loop-leaf
invariant-loop-leaf l = record {
  len : length l.counts.items ≡ l.nodes;
  all : sum l.counts.items ≡ l.leaf-index;
  are : AreCounts (take l.leaf-index l.leaves) l.counts.items;
}
