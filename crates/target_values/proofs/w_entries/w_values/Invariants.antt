-- The values of the cells so far.
use Rattle.std.proofs.Common.{◌≡◌, ◌*◌, ◌^◌, take}
use Rattle.exact_math.specs.Ends.{BoxEndsWithin}
use Rattle.cell_lists.specs.ListAt.{list_at}
use Rattle.complex_box.specs.Box.{box_ends}
use Rattle.points.specs.Points.{place}
use Rattle.soundness.specs.Computed.{total_box}
use Rattle.target_values.specs.Values.{value_of_cell}
use Rattle.target_values.proofs.w_entries.w_values.Given as goal

abbrev pub invariant-loop-c : goal.invariant-loop-c
invariant-loop-c g l =
    record {
      ends : box_ends l.sum ≡ total_box (value_of_cell g.row.P l.basis (place l.target)) (take l.c-index (list_at l.basis.lists.w l.leaf));
      size : BoxEndsWithin (2 ^ 83 * l.c-index) (box_ends l.sum);
    }
