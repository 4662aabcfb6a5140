-- The pairs with the sources so far.
use Rattle.std.proofs.Common.{◌≡◌, ◌*◌, ◌^◌, take}
use Rattle.exact_math.specs.Ends.{BoxEndsWithin}
use Rattle.exact_math.specs.Gaussian.{gaussian}
use Rattle.complex_box.specs.Box.{box_ends}
use Rattle.near_field.specs.Pair.{pair_box}
use Rattle.soundness.specs.Computed.{total_box}
use Rattle.certificate_targets.proofs.near.pairs_with.Given as goal

abbrev pub invariant-loop-p : goal.invariant-loop-p
invariant-loop-p l =
    record {
      ends : box_ends l.sum ≡ total_box (pair_box (gaussian l.x l.y)) (take l.p-index l.sources);
      size : BoxEndsWithin (2 ^ 67 * l.p-index) (box_ends l.sum);
    }
