use Rattle.exact_math.specs.Ends.{take_box}
use Rattle.row_recursions.specs.Rows.{row_of}
use Rattle.row_recursions.proofs.RowWrites.{Written}
use Rattle.row_recursions.proofs.sums.take_row.Given as goal

abbrev pub invariant-loop-k : goal.invariant-loop-k
invariant-loop-k l = Written (row_of l.fn.into) (λ j. take_box (row_of l.fn.into j) (row_of l.part j)) l.k l.into
