use Rattle.std.proofs.Common.{◌≡◌, ◌^◌}
use Rattle.exact_math.specs.Ends.{BoxEndsWithin}
use Rattle.complex_box.specs.Box.{box_ends, number}
use Rattle.row_recursions.specs.Rows.{row_of, powers}
use Rattle.row_recursions.proofs.RowWrites.{Written}
use Rattle.multipole.proofs.moments.fill_powers.Given as goal

abbrev pub invariant-loop-k : goal.invariant-loop-k
invariant-loop-k l = record {
  written : Written (row_of l.fn.row) (powers (box_ends l.fn.first) (number l.o) (2 ^ l.shift)) l.k l.row;
  power : box_ends l.power ≡ powers (box_ends l.fn.first) (number l.o) (2 ^ l.shift) l.k;
  size : BoxEndsWithin (2 ^ 60) (box_ends l.power);
}
