use Rattle.std.proofs.Common.{◌≡◌, ◌^◌, length}
use Rattle.row_recursions.specs.Rows.{row_of}
use Rattle.row_recursions.specs.Sizes.{RowWithin}
use Rattle.benches.proofs.rows.samples.sample_row.Given as goal

abbrev pub invariant-loop-k : goal.invariant-loop-k
invariant-loop-k l = record {
  len : length l.row ≡ 16;
  size : RowWithin l.k (2 ^ 60) (row_of l.row);
}
