use Rattle.std.proofs.Common.{◌∙◌, ap, ◌*◌, ◌^◌, subst, sym, arith, length}
use Rattle.exact_math.specs.Ends.{add_box}
use Rattle.points.specs.Limits.{weight64}
use Rattle.row_recursions.specs.Cells.{moments_in}
use Rattle.row_recursions.specs.Rows.{row_of, HasPart}
use Rattle.row_recursions.proofs.RowSizes.{taken_within}
use Rattle.row_recursions.proofs.RowWrites.{has_part}
use Rattle.multipole.proofs.RowCalls.{part_within}
use Rattle.cell_name.specs.Cell.{square}
use Rattle.multipole.proofs.take_source.Goals as goal

pub take_row-requires-clause-part : goal.take_row-requires-clause-part
take_row-requires-clause-part g c = has_part (length c.args.row.now) (row_of c.args.row.now) (row_of c.fill_moments.new.row) (moments_in (square c.args.cell) c.args.p.now)
    (λ k h. c.fill_moments.ensures.moments k (omega arith))
    (subst (λ n. HasPart n (row_of c.args.row.now) (moments_in (square c.args.cell) c.args.p.now)) (sym c.requires.len) c.requires.part)

pub returns-clause-adds : goal.returns-clause-adds
returns-clause-adds g c = λ k h. c.take_row.ensures.adds k (omega arith) ∙ ap (add_box (row_of c.take_row.new.into k)) (c.fill_moments.ensures.moments k (omega arith))

pub returns-clause-size : goal.returns-clause-size
returns-clause-size g c = λ n h. taken_within g.row.P n (2 ^ 40 * weight64 c.args.p.now) (row_of c.args.row.now) (moments_in (square c.args.cell) c.args.p.now) (row_of c.take_row.new.into) (returns-clause-adds g c) h
    (part_within g.row.P c.args.cell c.args.p.now c.requires.order c.requires.inside)
