-- The cells so far.
use Rattle.std.proofs.Common.{◌≡◌, ◌+◌, ◌*◌, ◌^◌, length, take}
use Rattle.row_recursions.specs.Rows.{row_of, RowsAdd}
use Rattle.row_recursions.specs.Sizes.{RowWithin}
use Rattle.soundness.specs.Computed.{total_row}
use Rattle.downward_rows.specs.Entries.{x_entry}
use Rattle.downward_rows.proofs.x_entries.add_x_entries.Given as goal

abbrev pub invariant-loop-c : goal.invariant-loop-c
invariant-loop-c g l = record {
  len : length l.into ≡ g.row.P;
  adds : RowsAdd g.row.P (row_of l.fn.into) (total_row (x_entry l.basis l.n) (take l.c-index l.c-items)) (row_of l.into);
  size : RowWithin g.row.P (2 ^ 91 + 2 ^ 84 * l.c-index) (row_of l.into);
}
