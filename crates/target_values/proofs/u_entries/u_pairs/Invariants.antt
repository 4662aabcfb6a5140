-- The pairs with the sources of the cells so far.
use Rattle.std.proofs.Common.{◌≡◌, ◌+◌, ◌*◌, ◌^◌, ◌≤◌, take}
use Rattle.std.specs.Prelude.{sum_by}
use Rattle.exact_math.specs.Ends.{BoxEndsWithin}
use Rattle.cell_lists.specs.ListAt.{list_at}
use Rattle.complex_box.specs.Box.{box_ends}
use Rattle.field_basis.specs.Counts.{paired}
use Rattle.limits.specs.Limits.{most_points, widest_grid}
use Rattle.points.specs.Points.{place}
use Rattle.soundness.specs.Computed.{total_box}
use Rattle.target_values.specs.Values.{pairs_of_cell, count_of_cell}
use Rattle.target_values.proofs.u_entries.u_pairs.Given as goal

abbrev pub invariant-loop-c : goal.invariant-loop-c
invariant-loop-c g l =
    record {
      ends : box_ends l.sum ≡ total_box (pairs_of_cell l.basis (place l.target)) (take l.c-index (list_at l.basis.lists.u l.leaf));
      size : BoxEndsWithin (2 ^ 84 * l.c-index) (box_ends l.sum);
      work : l.work ≡ paired (sum_by (count_of_cell l.basis (place l.target)) (take l.c-index (list_at l.basis.lists.u l.leaf))) l.initial.work;
      few : l.work.pairs ≤ l.initial.work.pairs + most_points widest_grid * l.c-index;
    }
