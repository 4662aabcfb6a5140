use Rattle.std.proofs.Common.{◌+◌, ◌*◌, ◌^◌, arith}
use Rattle.points.specs.Limits.{weight64}
use Rattle.complex_box.proofs.Sizes.{box_wider}
use Rattle.benches.proofs.Weights.{one_more, weight_of}
use Rattle.benches.proofs.rows.loops.far_sources.Goals as goal

pub add_far_source-requires-clause-sum : goal.add_far_source-requires-clause-sum
add_far_source-requires-clause-sum c = λ k h. box_wider (c.loop-n.n * 2 ^ 57) (2 ^ 110) _ (omega arith) (c.loop-n.invariant.size k h)

pub loop-n-preserved : goal.loop-n-preserved
loop-n-preserved c = record {
  len = c.add_far_source.ensures.len;
  size = λ k h. box_wider (c.loop-n.n * 2 ^ 57 + 2 ^ 40 * weight64 c.outside.result) ((c.loop-n.n + 1) * 2 ^ 57) _
      (one_more c.loop-n.n (weight64 c.outside.result) (weight_of c.outside.result.kind c.args.kind c.outside.ensures.kind c.requires.weight))
      (c.add_far_source.ensures.size (c.loop-n.n * 2 ^ 57) c.loop-n.invariant.size k h);
}
