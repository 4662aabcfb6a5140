use Rattle.std.proofs.Common.{◌∙◌, ap, arith}
use Rattle.exact_math.specs.Ends.{add_box}
use Rattle.row_recursions.specs.Cells.{quadrant_of}
use Rattle.row_recursions.specs.Rows.{row_of, shifted_up}
use Rattle.row_recursions.proofs.RowSizes.{added_within}
use Rattle.row_recursions.proofs.RowWidths.{added_narrow, shifted_up_narrow}
use Rattle.row_recursions.proofs.Turns.{unit_quadrant}
use Rattle.multipole_shift.proofs.RowShifts.{part_within, sum_fits, added_moments}
use Rattle.multipole_shift.proofs.add.shift_up.Goals as goal

pub add_row-requires-clause-fits : goal.add_row-requires-clause-fits
add_row-requires-clause-fits g c = λ k h. sum_fits g.row.P (row_of c.args.child.cells.now) c.args.q (row_of c.args.into.now) (row_of c.shift_in_place.new.row) c.requires.size c.requires.sum
    (λ j l. c.shift_in_place.ensures.shifted j (omega arith) ∙ ap (λ cells. shifted_up (row_of cells) (quadrant_of c.args.q) j) c.copy_from_slice.ensures.after) k (omega arith)

pub returns-clause-adds : goal.returns-clause-adds
returns-clause-adds g c = λ k h. c.add_row.ensures.adds k (omega arith)
    ∙ ap (add_box (row_of c.args.into.now k)) (c.shift_in_place.ensures.shifted k (omega arith) ∙ ap (λ cells. shifted_up (row_of cells) (quadrant_of c.args.q) k) c.copy_from_slice.ensures.after)

pub returns-clause-contains : goal.returns-clause-contains
returns-clause-contains g c = added_moments g.row.P (row_of c.args.child.cells.now) c.args.q (row_of c.args.into.now) (row_of c.add_row.new.into) (returns-clause-adds g c)

pub returns-clause-size : goal.returns-clause-size
returns-clause-size g c = λ m n v w. added_within g.row.P m n (row_of c.args.into.now) (shifted_up (row_of c.args.child.cells.now) (quadrant_of c.args.q)) (row_of c.add_row.new.into) (returns-clause-adds g c) v
    (part_within g.row.P (row_of c.args.child.cells.now) c.args.q n w)

pub returns-clause-narrow : goal.returns-clause-narrow
returns-clause-narrow g c = λ k v w h row n. added_narrow g.row.P (row_of c.args.into.now) (shifted_up (row_of c.args.child.cells.now) (quadrant_of c.args.q)) (row_of c.add_row.new.into) (returns-clause-adds g c) k h n
    (shifted_up_narrow w k (quadrant_of c.args.q) (row_of c.args.child.cells.now) (unit_quadrant c.args.q) row)
