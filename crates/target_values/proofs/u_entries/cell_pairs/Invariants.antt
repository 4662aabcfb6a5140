-- The pairs with the members so far.
use Rattle.std.proofs.Common.{◌≡◌, ◌+◌, ◌*◌, ◌^◌, ◌≤◌, take}
use Rattle.exact_math.specs.Ends.{BoxEndsWithin}
use Rattle.complex_box.specs.Box.{box_ends}
use Rattle.field_basis.specs.Counts.{paired, sources_at, count_apart}
use Rattle.near_field.specs.Pair.{pair_box}
use Rattle.points.specs.Points.{place}
use Rattle.quadtree.specs.TreeModel.{node_of}
use Rattle.soundness.specs.Computed.{total_box}
use Rattle.target_values.proofs.u_entries.cell_pairs.Given as goal

abbrev pub invariant-loop-k : goal.invariant-loop-k
invariant-loop-k g l =
    record {
      ends : box_ends l.sum ≡ total_box (pair_box (place l.target)) (sources_at l.basis.points (take l.k-index (node_of l.basis.tree l.c).members));
      size : BoxEndsWithin (2 ^ 67 * l.k-index) (box_ends l.sum);
      work : l.work ≡ paired (count_apart (place l.target) (sources_at l.basis.points (take l.k-index (node_of l.basis.tree l.c).members))) l.initial.work;
      few : l.work.pairs ≤ l.initial.work.pairs + l.k-index;
    }
