-- The moments of the sources so far.
use Rattle.std.proofs.Common.{◌≡◌, ◌*◌, ◌^◌, length, take}
use Rattle.cell_name.specs.Cell.{square}
use Rattle.points.specs.Limits.{total_weight}
use Rattle.row_recursions.specs.Cells.{moments_in}
use Rattle.row_recursions.specs.Rows.{row_of, AreSameRows}
use Rattle.row_recursions.specs.Sizes.{RowWithin}
use Rattle.soundness.specs.Steps.{total_row}
use Rattle.certificate_rows.proofs.sources.sum_sources.Given as goal

abbrev pub invariant-loop-p : goal.invariant-loop-p
invariant-loop-p g l = record {
  len : length l.row ≡ g.row.P;
  row : AreSameRows g.row.P (total_row (moments_in (square l.cell)) (take l.p-index l.sources)) (row_of l.row);
  size : RowWithin g.row.P (2 ^ 40 * total_weight (take l.p-index l.sources)) (row_of l.row);
}
