-- The values of the entries so far.
use Rattle.std.proofs.Common.{◌≡◌, ◌*◌, ◌^◌, take}
use Rattle.exact_math.specs.Ends.{BoxEndsWithin}
use Rattle.exact_math.specs.Gaussian.{gaussian}
use Rattle.complex_box.specs.Box.{box_ends}
use Rattle.soundness.specs.Computed.{total_box}
use Rattle.certificate_nodes.specs.AtNodes.{entry_numbers_at}
use Rattle.certificate_nodes.specs.Presented.{accounting_of}
use Rattle.certificate_targets.specs.Parts.{entry_of, value_of}
use Rattle.certificate_targets.proofs.far.far_value.Given as goal

abbrev pub invariant-loop-e : goal.invariant-loop-e
invariant-loop-e g l =
    record {
      ends : box_ends l.sum ≡ total_box (λ e. value_of (accounting_of l.given) g.row.P (gaussian l.x l.y) (entry_of l.given.certificate e)) (take l.e-index (entry_numbers_at l.given.certificate l.n));
      size : BoxEndsWithin (2 ^ 85 * l.e-index) (box_ends l.sum);
    }
