use Rattle.std.proofs.Common.{◌∙◌, sym, ap, length, arith, take_all}
use Rattle.std.specs.List.{range_with_len, count_by}
use Rattle.std.proofs.lemmas.List.FromFn.{length-range_with_len}
use Rattle.quadtree.specs.TreeModel.{size, node_of}
use Rattle.sample_summary.proofs.Counting.{counted_yes, counted_no}
use Rattle.sample_summary.proofs.numbers.leaf_count.Goals as goal
use Rattle.sample_summary.proofs.numbers.leaf_count.Goals.{then-is_leaf, else-is_leaf}

pub loop-n-preserved : goal.loop-n-preserved
loop-n-preserved c =
    let tree = c.args.tree.now in
    let same = ap length c.cells-n-end.ensures.all in
    elim c.if-is_leaf.branch [
      | then-is_leaf w ↦ counted_yes (λ n. (node_of tree n).is_leaf) (size tree) c.loop-n.n c.loop-n.count c.if-is_leaf.count (omega (arith, same)) c.loop-n.invariant (sym c.is_leaf.ensures ∙ w.if-is_leaf.true) w.count-is
      | else-is_leaf w ↦ counted_no (λ n. (node_of tree n).is_leaf) (size tree) c.loop-n.n c.loop-n.count c.if-is_leaf.count (omega (arith, same)) c.loop-n.invariant (sym c.is_leaf.ensures ∙ w.if-is_leaf.false) w.count-is
    ]

pub returns : goal.returns
returns c =
    let tree = c.args.tree.now in
    let same = ap length c.cells-n-end.ensures.all in
    c.loop-n.invariant ∙ ap (count_by (λ n. (node_of tree n).is_leaf)) (take_all c.loop-n.n (range_with_len 0 (size tree)) (omega (arith, same, length-range_with_len 0 (size tree))))
