use Rattle.std.proofs.Common.{arith}
use Rattle.row_recursions.specs.Cells.{quadrant_of}
use Rattle.row_recursions.specs.Rows.{row_of, shifted_down}
use Rattle.row_recursions.proofs.RowWidths.{added_narrow, shifted_down_narrow}
use Rattle.row_recursions.proofs.Turns.{unit_quadrant}
use Rattle.local_shift.proofs.Sums.{halves_add, halves_fit, holds_both, sum_within}
use Rattle.local_shift.proofs.shift_down.Goals as goal

pub add_halves-requires-clause-fits : goal.add_halves-requires-clause-fits
add_halves-requires-clause-fits g c = λ k h. halves_fit g.row.P c.args.q (row_of c.args.parent.cells.now) (row_of c.args.into.now) (row_of c.move_down.new.moved) c.requires.size c.requires.sum c.move_down.ensures.moved k (omega arith)

pub returns-clause-adds : goal.returns-clause-adds
returns-clause-adds g c = halves_add g.row.P c.args.q (row_of c.args.parent.cells.now) (row_of c.args.into.now) (row_of c.move_down.new.moved) (row_of c.add_halves.new.into)
    (λ k h. c.add_halves.ensures.adds k (omega arith)) c.move_down.ensures.moved

pub returns-clause-contains : goal.returns-clause-contains
returns-clause-contains g c = holds_both g.row.P c.args.q (row_of c.args.parent.cells.now) (row_of c.args.into.now) (row_of c.add_halves.new.into) (returns-clause-adds g c)

pub returns-clause-size : goal.returns-clause-size
returns-clause-size g c = sum_within g.row.P c.args.q (row_of c.args.parent.cells.now) (row_of c.args.into.now) (row_of c.add_halves.new.into) (returns-clause-adds g c)

pub returns-clause-narrow : goal.returns-clause-narrow
returns-clause-narrow g c = λ v w row n k h. added_narrow g.row.P (row_of c.args.into.now) (shifted_down g.row.P (row_of c.args.parent.cells.now) (quadrant_of c.args.q)) (row_of c.add_halves.new.into) (returns-clause-adds g c) k h (n k h)
    (shifted_down_narrow g.row.P w (quadrant_of c.args.q) (row_of c.args.parent.cells.now) (unit_quadrant c.args.q) row k h)
