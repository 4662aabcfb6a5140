use Rattle.std.proofs.Common.{length}
use Rattle.row_recursions.specs.Cells.{quadrant_of}
use Rattle.row_recursions.specs.Rows.{row_of}
use Rattle.multipole_shift.proofs.UpSteps.{BeforeRound, WithinRound}
use Rattle.multipole_shift.proofs.rounds.shift_in_place.Given as goal

abbrev pub invariant-loop-r : goal.invariant-loop-r
invariant-loop-r l = BeforeRound (length l.fn.row) (row_of l.fn.row) (quadrant_of l.q) l.r l.row

abbrev pub invariant-loop-i : goal.invariant-loop-i
invariant-loop-i l = WithinRound (length l.fn.row) (row_of l.fn.row) (quadrant_of l.q) l.r l.i l.row
