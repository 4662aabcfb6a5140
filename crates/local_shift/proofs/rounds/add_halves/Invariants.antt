use Rattle.std.proofs.Common.{pos}
use Rattle.exact_math.specs.Ends.{add_box, quot_box}
use Rattle.row_recursions.specs.Rows.{row_of}
use Rattle.row_recursions.proofs.RowWrites.{Written}
use Rattle.local_shift.proofs.rounds.add_halves.Given as goal

abbrev pub invariant-loop-k : goal.invariant-loop-k
invariant-loop-k l = Written (row_of l.fn.into) (λ j. add_box (row_of l.fn.into j) (quot_box (row_of l.moved j) (pos 2))) l.k l.into
