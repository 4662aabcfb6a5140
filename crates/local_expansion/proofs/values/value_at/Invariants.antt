use Rattle.std.proofs.Common.{◌≡◌, ◌^◌}
use Rattle.complex_box.specs.Box.{box_ends, number}
use Rattle.row_recursions.specs.Rows.{row_of, local_round}
use Rattle.local_expansion.proofs.values.value_at.Given as goal

abbrev pub invariant-loop-n : goal.invariant-loop-n
invariant-loop-n g l = box_ends l.value ≡ local_round g.row.P (row_of l.row.cells.now) (2 ^ l.bits) (number l.o) l.n
