use Rattle.std.proofs.Common.{ℕ, arith, ◌<◌, ◌≤◌, cond}
use Rattle.std.specs.Prelude.{length}
use Rattle.std.proofs.Math.ListN.{length-set}
use Rattle.node_sums.specs.Sums.{value_at}
use Rattle.path_cover.specs.Kept.{strictly_under}
use Rattle.path_cover.proofs.Parents.{lower_fits, lower_step, no_ancestor}
use Rattle.path_cover.proofs.walks.lower_ancestors.Goals as goal

pub overflow_sub-below : goal.overflow_sub-below
overflow_sub-below c =
    let ps = c.args.parents.now in
    let enough : (k : ℕ) → k < length c.loop-n.below → cond (strictly_under ps c.args.c k) c.args.by 0 ≤ value_at c.args.below.now k = λ k l. c.requires.enough k (omega arith) in
    lower_fits ps c.loop-n.below c.args.below.now c.loop-n.n c.args.c c.args.by c.requires.parents (omega arith) (omega arith) (omega arith) c.loop-n.invariant.so_far enough

pub loop-n-preserved : goal.loop-n-preserved
loop-n-preserved c =
    let ps = c.args.parents.now in
    let smaller = c.requires.parents.smaller c.loop-n.n (omega arith) (omega arith) in
    let enough : (k : ℕ) → k < length c.loop-n.below → cond (strictly_under ps c.args.c k) c.args.by 0 ≤ value_at c.args.below.now k = λ k l. c.requires.enough k (omega arith) in
    record {
      inside = omega arith;
      so_far = λ k l. lower_step ps c.loop-n.below c.args.below.now c.loop-n.n c.args.c c.args.by c.requires.parents (omega arith) (omega arith) (omega arith) c.loop-n.invariant.so_far enough k
          (omega (arith, length-set c.loop-n.below));
    }

pub returns : goal.returns
returns c = λ n l.
    let none = no_ancestor c.args.parents.now c.requires.parents c.loop-n.n n c.args.by (omega arith) in
    let so_far = c.loop-n.invariant.so_far n (omega arith) in
    omega arith
