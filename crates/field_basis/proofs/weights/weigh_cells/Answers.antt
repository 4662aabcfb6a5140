-- One weight more.
use Rattle.std.proofs.Common.{◌≡◌, ◌∙◌, ◌<◌, pos, length, ap, sym, subst, arith}
use Rattle.std.proofs.lemmas.List.{get_or_default}
use Rattle.quadtree.specs.TreeModel.{size, square_of}
use Rattle.tree_field.specs.Field.{weight_in}
use Rattle.field_basis.specs.Weights.{IsWeight}
use Rattle.field_basis.proofs.CellWeights.{weight_kept, one_more}
use Rattle.field_basis.proofs.weights.weigh_cells.Goals as goal

pub loop-n-preserved : goal.loop-n-preserved
loop-n-preserved c =
    let n = c.loop-n.n in
    let cells : length c.cells-n-end.result.now ≡ size c.args.tree.now = ap length c.cells-n-end.ensures.all in
    let lt : n < length c.loop-n.weights = omega (arith, cells, c.loop-n.auto.weights, c.requires.len, c.loop-n-test.true) in
    let small = c.cell_weight.ensures.size in
    let kept = weight_kept c.cell_weight.result small in
    record {
      weights = one_more (λ m w. w ≡ pos (weight_in c.args.points.now c.args.order (square_of c.args.tree.now m))) c.loop-n.weights n _ lt (kept ∙ c.cell_weight.ensures.weight) c.loop-n.invariant.weights;
      size = one_more (λ m w. IsWeight w) c.loop-n.weights n _ lt (subst IsWeight (sym kept) small) c.loop-n.invariant.size;
    }

pub returns-clause-weights : goal.returns-clause-weights
returns-clause-weights c =
    let cells : length c.cells-n-end.result.now ≡ size c.args.tree.now = ap length c.cells-n-end.ensures.all in
    record { each = λ n lt. c.loop-n.invariant.weights n (omega (arith, cells, lt, c.loop-n-test.false)) }

pub returns-clause-size : goal.returns-clause-size
returns-clause-size c = λ k d lt.
    let cells : length c.cells-n-end.result.now ≡ size c.args.tree.now = ap length c.cells-n-end.ensures.all in
    subst IsWeight (get_or_default c.loop-n.weights k (pos 0) d lt) (c.loop-n.invariant.size k (omega (arith, cells, lt, c.loop-n.auto.weights, c.requires.len, c.loop-n-test.false)))
