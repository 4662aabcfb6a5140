-- The entries so far.
use Rattle.std.proofs.Common.{◌≡◌, ◌+◌, ◌*◌, ◌^◌, length, take}
use Rattle.cell_name.specs.Cell.{square}
use Rattle.limits.specs.Limits.{most_given_local}
use Rattle.row_recursions.specs.Rows.{row_of, RowsAdd}
use Rattle.row_recursions.specs.Sizes.{RowWithin}
use Rattle.soundness.specs.Steps.{total_row}
use Rattle.certificate_rows.specs.Entries.{nth_entry, v_row}
use Rattle.certificate_rows.proofs.v_entries.add_v_entries.Given as goal

abbrev pub invariant-loop-e : goal.invariant-loop-e
invariant-loop-e g l = record {
  len : length l.into ≡ g.row.P;
  part : length l.part ≡ g.row.P;
  adds : RowsAdd g.row.P (row_of l.fn.into) (total_row (λ e. v_row l.cert g.row.P (square l.b) (nth_entry l.cert e)) (take l.e-index l.entries)) (row_of l.into);
  size : RowWithin g.row.P (most_given_local + 2 ^ 81 * l.e-index) (row_of l.into);
}
