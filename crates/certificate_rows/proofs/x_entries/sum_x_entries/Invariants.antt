-- The entries so far.
use Rattle.std.proofs.Common.{◌≡◌, ◌*◌, ◌^◌, length, take}
use Rattle.cell_name.specs.Cell.{square}
use Rattle.certificate_nodes.specs.Presented.{accounting_of}
use Rattle.row_recursions.specs.Rows.{row_of, AreSameRows}
use Rattle.row_recursions.specs.Sizes.{RowWithin}
use Rattle.soundness.specs.Steps.{total_row}
use Rattle.certificate_rows.specs.Entries.{nth_entry, x_row}
use Rattle.certificate_rows.proofs.x_entries.sum_x_entries.Given as goal

abbrev pub invariant-loop-e : goal.invariant-loop-e
invariant-loop-e g l = record {
  len : length l.row ≡ g.row.P;
  sum : AreSameRows g.row.P (total_row (λ e. x_row (accounting_of l.given) (square l.b) (nth_entry l.given.certificate e)) (take l.e-index l.entries)) (row_of l.row);
  size : RowWithin g.row.P (2 ^ 76 * l.e-index) (row_of l.row);
}
