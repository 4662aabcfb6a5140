use Rattle.std.proofs.Common.{◌≡◌, ◌*◌, ◌^◌, length}
use Rattle.row_recursions.specs.Rows.{row_of}
use Rattle.row_recursions.specs.Sizes.{RowWithin}
use Rattle.benches.proofs.rows.loops.shift_downs.Given as goal

abbrev pub invariant-loop-n : goal.invariant-loop-n
invariant-loop-n l = record {
  len : length l.into ≡ 16;
  size : RowWithin 16 (l.n * 2 ^ 60) (row_of l.into);
  count : l.work.translations ≡ l.n;
}
