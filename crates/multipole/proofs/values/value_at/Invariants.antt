use Rattle.std.proofs.Common.{◌≡◌, ◌^◌}
use Rattle.complex_box.specs.Box.{box_ends, number}
use Rattle.row_recursions.specs.Rows.{row_of, multipole_round}
use Rattle.multipole.proofs.values.value_at.Given as goal

abbrev pub invariant-loop-n : goal.invariant-loop-n
invariant-loop-n g l = box_ends l.value ≡ multipole_round g.row.P (row_of l.row.cells.now) (2 ^ l.bits) (number l.fn.zeta) l.n
