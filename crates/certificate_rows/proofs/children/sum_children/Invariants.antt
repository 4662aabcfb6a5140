-- The children so far.
use Rattle.std.proofs.Common.{◌≡◌, ◌*◌, length, take}
use Rattle.limits.specs.Limits.{most_given_multipole}
use Rattle.row_recursions.specs.Rows.{row_of, AreSameRows}
use Rattle.row_recursions.specs.Sizes.{RowWithin}
use Rattle.soundness.specs.Steps.{child_rows}
use Rattle.certificate_rows.specs.Given.{cell_at, multipole_at}
use Rattle.certificate_rows.proofs.children.sum_children.Given as goal

abbrev pub invariant-loop-d : goal.invariant-loop-d
invariant-loop-d g l = record {
  len : length l.row ≡ g.row.P;
  part : length l.part ≡ g.row.P;
  row : AreSameRows g.row.P (child_rows (cell_at l.cert) (multipole_at l.cert) (take l.d-index l.children)) (row_of l.row);
  size : RowWithin g.row.P (most_given_multipole * l.d-index) (row_of l.row);
}
