-- What the sources so far add.
use Rattle.std.proofs.Common.{ℕ, ◌≡◌, ◌+◌, ◌*◌, ◌^◌, length, take}
use Rattle.cell_name.specs.Cell.{square}
use Rattle.points.specs.Limits.{total_weight}
use Rattle.row_recursions.specs.Cells.{far_coefficients_in}
use Rattle.row_recursions.specs.Rows.{row_of, RowsAdd}
use Rattle.row_recursions.specs.Sizes.{RowWithin}
use Rattle.soundness.specs.Steps.{total_row}
use Rattle.certificate_rows.proofs.x_entries.add_far_sources.Given as goal

abbrev pub invariant-loop-p : goal.invariant-loop-p
invariant-loop-p g l = record {
  len : length l.into ≡ g.row.P;
  adds : RowsAdd g.row.P (row_of l.fn.into) (total_row (far_coefficients_in (square l.cell)) (take l.p-index l.sources)) (row_of l.into);
  size : (n : ℕ) → RowWithin g.row.P n (row_of l.fn.into) → RowWithin g.row.P (n + 2 ^ 40 * total_weight (take l.p-index l.sources)) (row_of l.into);
}
