use Rattle.std.proofs.Common.{◌≡◌}
use Rattle.exact_math.specs.Ends.{times_box}
use Rattle.row_recursions.specs.Rows.{row_of, sum_boxes}
use Rattle.local_expansion.proofs.conversion.wide_coefficient.Given as goal

abbrev pub invariant-loop-k : goal.invariant-loop-k
invariant-loop-k g l = l.sum ≡ sum_boxes l.k (λ j. times_box (row_of l.column j) (row_of l.row.cells.now j))
