use Rattle.std.proofs.Common.{◌≡◌, ◌-◌, ◌≤◌}
use Rattle.complex_box.specs.Box.{box_ends}
use Rattle.row_recursions.specs.Rows.{row_of}
use Rattle.row_recursions.proofs.RowWrites.{Written}
use Rattle.row_recursions.specs.Cells.{quadrant_of}
use Rattle.local_shift.specs.Rounds.{next_row}
use Rattle.local_shift.proofs.rounds.take_in.Given as goal

abbrev pub invariant-loop-k : goal.invariant-loop-k
invariant-loop-k l = record {
  first : 1 ≤ l.k;
  written : Written (row_of l.fn.moved) (next_row (box_ends l.fn.taken) (quadrant_of l.q) (row_of l.fn.moved)) l.k l.moved;
  lower : box_ends l.lower ≡ row_of l.fn.moved (l.k - 1);
}
