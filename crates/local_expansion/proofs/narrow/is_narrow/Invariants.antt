use Rattle.std.proofs.Common.{◌^◌}
use Rattle.row_recursions.specs.Rows.{row_of}
use Rattle.row_recursions.specs.Sizes.{RowWithin}
use Rattle.local_expansion.proofs.narrow.is_narrow.Given as goal

abbrev pub invariant-loop-k : goal.invariant-loop-k
invariant-loop-k g l = RowWithin l.k (2 ^ 62) (row_of l.row.cells.now)
