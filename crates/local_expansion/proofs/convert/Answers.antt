use Rattle.std.proofs.Common.{◌∙◌, ap₂, arith, lit<, rules}
use Rattle.std.proofs.lemmas.List.{length-set}
use Rattle.exact_math.specs.Ends.{add_box}
use Rattle.exact_math.proofs.Orders.{order_bounds}
use Rattle.complex_box.specs.Box.{number}
use Rattle.complex_box.specs.Rows.{zero_cbox}
use Rattle.row_recursions.specs.Rows.{row_of}
use Rattle.row_recursions.proofs.RowWrites.{written-next, row_read}
use Rattle.local_expansion.proofs.ConvertCalls.{column_within, sum_fits, converted_field, converted_added, converted_width}
use Rattle.local_expansion.proofs.ProductSums.{by_kernel}
use Rattle.local_expansion.proofs.convert.Goals as goal

pub coefficient-requires : goal.coefficient-requires
coefficient-requires g c =
    let few = order_bounds g.row.P c.requires.order in
    (lit< tt, (c.column.ensures.whole, (omega (arith, few), (column_within g.row.P (number c.args.e) (row_of c.args.row.cells.now) c.requires.order c.requires.distance c.loop-l.l c.column.result.now (omega arith) c.column.ensures, (c.requires.size, search rules)))))

pub add-requires : goal.add-requires
add-requires g c = sum_fits g.row.P (number c.args.e) (row_of c.args.row.cells.now) c.requires.order c.requires.distance (row_of c.args.into.now) c.loop-l.l _ _ (omega arith) c.requires.size c.requires.sum
    (row_read c.loop-l.into c.loop-l.l _ (omega (arith, c.loop-l.invariant.len)) c.index-into-l.is ∙ c.loop-l.invariant.written.above c.loop-l.l (omega arith))
    (c.coefficient.ensures ∙ by_kernel g.row.P (number c.args.e) c.loop-l.l (row_of c.column.result.now) (row_of c.args.row.cells.now) (λ k h. c.column.ensures.entries k zero_cbox h))

pub loop-l-preserved : goal.loop-l-preserved
loop-l-preserved g c = record {
  len = length-set c.loop-l.into c.loop-l.l c.add.result ∙ c.loop-l.invariant.len;
  written = written-next _ _ _ _ _ (omega (arith, c.loop-l.invariant.len))
      (c.add.ensures.ends ∙ ap₂ add_box
      (row_read c.loop-l.into c.loop-l.l _ (omega (arith, c.loop-l.invariant.len)) c.index-into-l.is ∙ c.loop-l.invariant.written.above c.loop-l.l (omega arith))
      (c.coefficient.ensures ∙ by_kernel g.row.P (number c.args.e) c.loop-l.l (row_of c.column.result.now) (row_of c.args.row.cells.now) (λ k h. c.column.ensures.entries k zero_cbox h)))
      c.loop-l.invariant.written;
}

pub returns-clause-adds : goal.returns-clause-adds
returns-clause-adds g c = λ k h. c.loop-l.invariant.written.below k (omega (arith, h))

pub returns-clause-contains : goal.returns-clause-contains
returns-clause-contains g c = converted_field g.row.P (number c.args.e) (row_of c.args.row.cells.now) c.requires.order c.requires.distance (row_of c.args.into.now) (row_of c.loop-l.into) (returns-clause-adds g c)

pub returns-clause-size : goal.returns-clause-size
returns-clause-size g c = λ m n v w. converted_added g.row.P (number c.args.e) (row_of c.args.row.cells.now) c.requires.order c.requires.distance m n (row_of c.args.into.now) (row_of c.loop-l.into) (returns-clause-adds g c) v w

pub returns-clause-narrow : goal.returns-clause-narrow
returns-clause-narrow g c = λ v w A row holds n. converted_width g.row.P (number c.args.e) (row_of c.args.row.cells.now) c.requires.order c.requires.distance v w A (row_of c.args.into.now) (row_of c.loop-l.into) (returns-clause-adds g c) row holds n
