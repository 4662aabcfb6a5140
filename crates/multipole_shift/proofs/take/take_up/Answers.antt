use Rattle.std.proofs.Common.{◌∙◌, ap, sym, subst, length, arith}
use Rattle.exact_math.specs.Ends.{add_box}
use Rattle.row_recursions.specs.Cells.{quadrant_of}
use Rattle.row_recursions.specs.Rows.{row_of, HasPart, shifted_up}
use Rattle.row_recursions.proofs.RowSizes.{taken_within}
use Rattle.row_recursions.proofs.RowWrites.{has_part}
use Rattle.multipole_shift.proofs.RowShifts.{part_within}
use Rattle.multipole_shift.proofs.take.take_up.Goals as goal

pub take_row-requires-clause-part : goal.take_row-requires-clause-part
take_row-requires-clause-part g c = has_part (length c.args.into.now) (row_of c.args.into.now) (row_of c.shift_in_place.new.row) (shifted_up (row_of c.args.child.cells.now) (quadrant_of c.args.q))
    (λ j l. c.shift_in_place.ensures.shifted j (omega arith) ∙ ap (λ cells. shifted_up (row_of cells) (quadrant_of c.args.q) j) c.copy_from_slice.ensures.after)
    (subst (λ n. HasPart n (row_of c.args.into.now) (shifted_up (row_of c.args.child.cells.now) (quadrant_of c.args.q))) (sym c.requires.len) c.requires.part)

pub returns-clause-adds : goal.returns-clause-adds
returns-clause-adds g c = λ k h. c.take_row.ensures.adds k (omega arith)
    ∙ ap (add_box (row_of c.take_row.new.into k)) (c.shift_in_place.ensures.shifted k (omega arith) ∙ ap (λ cells. shifted_up (row_of cells) (quadrant_of c.args.q) k) c.copy_from_slice.ensures.after)

pub returns-clause-size : goal.returns-clause-size
returns-clause-size g c = λ m n v w. taken_within g.row.P m n (row_of c.args.into.now) (shifted_up (row_of c.args.child.cells.now) (quadrant_of c.args.q)) (row_of c.take_row.new.into) (returns-clause-adds g c) v
    (part_within g.row.P (row_of c.args.child.cells.now) c.args.q n w)
