-- The positions so far.
use Rattle.std.proofs.Common.{◌≡◌, ℕ, ◌+◌, ◌*◌, ◌^◌, length, take}
use Rattle.cell_name.specs.Cell.{square}
use Rattle.row_recursions.specs.Rows.{row_of, RowsAdd}
use Rattle.row_recursions.specs.Sizes.{RowWithin}
use Rattle.soundness.specs.Computed.{total_row}
use Rattle.downward_rows.specs.Entries.{far_row_at}
use Rattle.downward_rows.proofs.x_entries.add_positions.Given as goal

abbrev pub invariant-loop-k : goal.invariant-loop-k
invariant-loop-k g l = record {
  len : length l.into ≡ g.row.P;
  adds : RowsAdd g.row.P (row_of l.fn.into) (total_row (far_row_at l.points (square l.cell)) (take l.k-index l.list)) (row_of l.into);
  size : (n : ℕ) → RowWithin g.row.P n (row_of l.fn.into) → RowWithin g.row.P (n + 2 ^ 67 * l.k-index) (row_of l.into);
}
