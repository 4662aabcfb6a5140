use Rattle.std.proofs.Common.{◌≡◌, suc, ◌*◌, ◌^◌}
use Rattle.exact_math.specs.Ends.{BoxEndsWithin, add_box}
use Rattle.complex_box.specs.Box.{box_ends, number}
use Rattle.row_recursions.specs.Rows.{row_of, far_powers}
use Rattle.row_recursions.proofs.RowWrites.{Written}
use Rattle.local_expansion.specs.FarPowers.{far_dipoles}
use Rattle.local_expansion.proofs.sources.add_dipoles.Given as goal

abbrev pub invariant-loop-l : goal.invariant-loop-l
invariant-loop-l l = record {
  written : Written (row_of l.fn.into) (λ k. add_box (row_of l.fn.into k) (far_dipoles (box_ends l.fn.first) (2 * 2 ^ l.fn.bits) (number l.fn.zeta) k)) l.l l.into;
  power : box_ends l.power ≡ far_powers (box_ends l.fn.first) (2 * 2 ^ l.fn.bits) (number l.fn.zeta) (suc l.l);
  size : BoxEndsWithin (2 ^ 60) (box_ends l.power);
}
