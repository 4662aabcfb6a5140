use Rattle.std.proofs.Common.{◌∙◌, ◌^◌, ap, arith, pos}
use Rattle.exact_math.specs.Ends.{times_box, quot_box}
use Rattle.row_recursions.specs.Rows.{row_of, sum_boxes}
use Rattle.row_recursions.proofs.RowWrites.{row_read, row_got}
use Rattle.local_expansion.proofs.ProductSums.{product_fits, sum_fits, product_next}
use Rattle.local_expansion.proofs.conversion.wide_coefficient.Goals as goal

pub add_product-requires-clause-product : goal.add_product-requires-clause-product
add_product-requires-clause-product g c = product_fits g.row.P (row_of c.args.column.now) (row_of c.args.row.cells.now) c.requires.most c.requires.entries c.requires.size c.loop-k.k _ _ (omega arith)
    (row_read c.args.column.now c.loop-k.k _ (omega (arith, c.requires.len)) c.index-column-k.is) (row_got c.args.row.cells.now c.loop-k.k c.get.ensures)

pub add_product-requires-clause-sum : goal.add_product-requires-clause-sum
add_product-requires-clause-sum g c = sum_fits g.row.P (row_of c.args.column.now) (row_of c.args.row.cells.now) c.requires.most c.requires.entries c.requires.size c.loop-k.k _ _ _ (omega arith) c.loop-k.invariant
    (row_read c.args.column.now c.loop-k.k _ (omega (arith, c.requires.len)) c.index-column-k.is) (row_got c.args.row.cells.now c.loop-k.k c.get.ensures)

pub loop-k-preserved : goal.loop-k-preserved
loop-k-preserved g c = product_next g.row.P (row_of c.args.column.now) (row_of c.args.row.cells.now) c.requires.most c.requires.entries c.requires.size c.loop-k.k _ _ _ _ c.loop-k.invariant
    (row_read c.args.column.now c.loop-k.k _ (omega (arith, c.requires.len)) c.index-column-k.is) (row_got c.args.row.cells.now c.loop-k.k c.get.ensures) c.add_product.ensures.ends

pub returns : goal.returns
returns g c = c.finish_shift.ensures.ends ∙ ap (λ b. quot_box b (pos (2 ^ 40))) (c.loop-k.invariant ∙ ap (λ n. sum_boxes n (λ k. times_box (row_of c.args.column.now k) (row_of c.args.row.cells.now k))) {x = c.loop-k.k} {y = g.row.P} (omega arith))
