use Rattle.std.proofs.Common.{arith}
use Rattle.std.proofs.Math.ListN.{length-set}
use Rattle.node_sums.specs.Sums.{parent_in}
use Rattle.path_cover.proofs.Parents.{raise_fits, raise_step, no_ancestor}
use Rattle.path_cover.proofs.walks.raise_ancestors.Goals as goal

pub overflow_add-below : goal.overflow_add-below
overflow_add-below c =
    let ps = c.args.parents.now in
    let smaller = c.requires.parents.smaller c.loop-n.n (omega arith) (omega arith) in
    let fits = raise_fits ps c.loop-n.below c.args.below.now c.loop-n.n c.args.c c.args.by c.requires.parents (omega arith) (omega arith) (omega arith) c.loop-n.invariant.so_far
    (c.requires.room (parent_in ps c.loop-n.n) (omega arith)) in
    omega arith

pub loop-n-preserved : goal.loop-n-preserved
loop-n-preserved c =
    let ps = c.args.parents.now in
    let smaller = c.requires.parents.smaller c.loop-n.n (omega arith) (omega arith) in
    record {
      inside = omega arith;
      so_far = λ k l. raise_step ps c.loop-n.below c.args.below.now c.loop-n.n c.args.c c.args.by c.requires.parents (omega arith) (omega arith) (omega arith) c.loop-n.invariant.so_far k
          (omega (arith, length-set c.loop-n.below));
    }

pub returns : goal.returns
returns c = λ n l.
    let none = no_ancestor c.args.parents.now c.requires.parents c.loop-n.n n c.args.by (omega arith) in
    let so_far = c.loop-n.invariant.so_far n (omega arith) in
    omega arith
