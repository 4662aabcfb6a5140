use Rattle.std.proofs.Common.{◌≡◌, length}
use Rattle.exact_math.specs.Ends.{add_box}
use Rattle.complex_box.specs.Box.{number}
use Rattle.kernel_table.specs.Kernel.{kernel_entry}
use Rattle.row_recursions.specs.Rows.{row_of, converted}
use Rattle.row_recursions.proofs.RowWrites.{Written}
use Rattle.local_expansion.proofs.convert.Given as goal

abbrev pub invariant-loop-l : goal.invariant-loop-l
invariant-loop-l g l = record {
  len : length l.into ≡ g.row.P;
  written : Written (row_of l.fn.into) (λ k. add_box (row_of l.fn.into k) (converted g.row.P (kernel_entry (number l.e)) (row_of l.row.cells.now) k)) l.l l.into;
}
