use Rattle.std.proofs.Common.{◌∙◌, ap, ◌*◌, ◌^◌, arith}
use Rattle.exact_math.specs.Ends.{add_box}
use Rattle.points.specs.Limits.{weight64}
use Rattle.row_recursions.specs.Cells.{moments_in}
use Rattle.row_recursions.specs.Rows.{row_of}
use Rattle.row_recursions.proofs.RowSizes.{added_within}
use Rattle.row_recursions.proofs.RowWidths.{added_narrow}
use Rattle.multipole.proofs.RowCalls.{part_within, part_narrow, sum_fits, added_moments}
use Rattle.cell_name.specs.Cell.{square}
use Rattle.multipole.proofs.add_source.Goals as goal

pub add_row-requires-clause-fits : goal.add_row-requires-clause-fits
add_row-requires-clause-fits g c = λ k h. sum_fits g.row.P c.args.cell c.args.p.now c.requires.order c.requires.inside (row_of c.args.row.now) (row_of c.fill_moments.new.row) c.requires.range c.requires.sum
    (λ j l. c.fill_moments.ensures.moments j (omega arith)) k (omega arith)

pub returns-clause-adds : goal.returns-clause-adds
returns-clause-adds g c = λ k h. c.add_row.ensures.adds k (omega arith) ∙ ap (add_box (row_of c.args.row.now k)) (c.fill_moments.ensures.moments k (omega arith))

pub returns-clause-contains : goal.returns-clause-contains
returns-clause-contains g c = added_moments g.row.P c.args.cell c.args.p.now (row_of c.args.row.now) (row_of c.add_row.new.into) (returns-clause-adds g c)

pub returns-clause-size : goal.returns-clause-size
returns-clause-size g c = λ n h. added_within g.row.P n (2 ^ 40 * weight64 c.args.p.now) (row_of c.args.row.now) (moments_in (square c.args.cell) c.args.p.now) (row_of c.add_row.new.into) (returns-clause-adds g c) h
    (part_within g.row.P c.args.cell c.args.p.now c.requires.order c.requires.inside)

pub returns-clause-narrow : goal.returns-clause-narrow
returns-clause-narrow g c = λ k v h n. added_narrow g.row.P (row_of c.args.row.now) (moments_in (square c.args.cell) c.args.p.now) (row_of c.add_row.new.into) (returns-clause-adds g c) k h n
    (part_narrow c.args.cell c.args.p.now c.requires.inside k)
