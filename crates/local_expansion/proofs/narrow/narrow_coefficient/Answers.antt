use Rattle.std.proofs.Common.{◌∙◌, ◌+◌, ◌^◌, ap, sym, subst, arith, lit≤, pos}
use Rattle.exact_math.specs.Ends.{BoxEndsWithin, add_box, times_box, quot_box}
use Rattle.complex_box.specs.Box.{box_ends}
use Rattle.complex_box.proofs.Sizes.{box_wider}
use Rattle.row_recursions.specs.Rows.{row_of, sum_boxes}
use Rattle.row_recursions.proofs.RowWrites.{row_read, row_got}
use Rattle.local_expansion.proofs.ProductSums.{sum_fits, product_next}
use Rattle.local_expansion.proofs.narrow.narrow_coefficient.Goals as goal

pub box_product-requires-clause-left : goal.box_product-requires-clause-left
box_product-requires-clause-left g c = subst (BoxEndsWithin (2 ^ 62)) (sym (row_read c.args.column.now c.loop-k.k _ (omega (arith, c.requires.len)) c.index-column-k.is))
    (box_wider (2 ^ 39 + 1) (2 ^ 62) _ (lit≤ tt) (c.requires.entries c.loop-k.k (omega arith)))

pub box_product-requires-clause-right : goal.box_product-requires-clause-right
box_product-requires-clause-right g c = subst (BoxEndsWithin (2 ^ 62)) (sym (row_got c.args.row.cells.now c.loop-k.k c.get.ensures)) (c.requires.size c.loop-k.k (omega arith))

pub add-sum-requires : goal.add-sum-requires
add-sum-requires g c = subst (λ b. BoxEndsWithin (2 ^ 126) (add_box (box_ends c.loop-k.sum) b)) (sym c.box_product.ensures)
    (sum_fits g.row.P (row_of c.args.column.now) (row_of c.args.row.cells.now) c.requires.most c.requires.entries (λ k h. box_wider (2 ^ 62) (2 ^ 80) _ (lit≤ tt) (c.requires.size k h)) c.loop-k.k _ _ _ (omega arith) c.loop-k.invariant
    (row_read c.args.column.now c.loop-k.k _ (omega (arith, c.requires.len)) c.index-column-k.is) (row_got c.args.row.cells.now c.loop-k.k c.get.ensures))

pub loop-k-preserved : goal.loop-k-preserved
loop-k-preserved g c = product_next g.row.P (row_of c.args.column.now) (row_of c.args.row.cells.now) c.requires.most c.requires.entries (λ k h. box_wider (2 ^ 62) (2 ^ 80) _ (lit≤ tt) (c.requires.size k h)) c.loop-k.k _ _ _ _ c.loop-k.invariant
    (row_read c.args.column.now c.loop-k.k _ (omega (arith, c.requires.len)) c.index-column-k.is) (row_got c.args.row.cells.now c.loop-k.k c.get.ensures) (c.add-sum.ensures.ends ∙ ap (add_box (box_ends c.loop-k.sum)) c.box_product.ensures)

pub returns : goal.returns
returns g c = c.quot_shift.ensures.ends ∙ ap (λ b. quot_box b (pos (2 ^ 40))) (c.loop-k.invariant ∙ ap (λ n. sum_boxes n (λ k. times_box (row_of c.args.column.now k) (row_of c.args.row.cells.now k))) {x = c.loop-k.k} {y = g.row.P} (omega arith))
