use Rattle.std.proofs.Common.{◌≡◌, ℕ, ◌<◌, length}
use Rattle.row_recursions.specs.Rows.{row_of, down_round}
use Rattle.row_recursions.specs.Cells.{quadrant_of}
use Rattle.local_shift.proofs.rounds.move_down.Given as goal

abbrev pub invariant-loop-n : goal.invariant-loop-n
invariant-loop-n g l = record {
  len : length l.moved ≡ g.row.P;
  rounds : (k : ℕ) → k < g.row.P → row_of l.moved k ≡ down_round g.row.P (row_of l.parent.cells.now) (quadrant_of l.q) l.n k;
}
