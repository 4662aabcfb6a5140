-- What the entries so far can lose.
use Rattle.std.proofs.Common.{◌≡◌, ◌≤◌, ◌*◌, ◌^◌, take}
use Rattle.std.specs.Prelude.{sum_by}
use Rattle.certificate_nodes.specs.AtNodes.{entry_numbers_at}
use Rattle.certificate_nodes.specs.Presented.{accounting_of}
use Rattle.certificate_targets.specs.Parts.{entry_of, loss_of}
use Rattle.certificate_targets.proofs.far.far_loss.Given as goal

abbrev pub invariant-loop-e : goal.invariant-loop-e
invariant-loop-e g l =
    record {
      loss : l.lost ≡ sum_by (λ e. loss_of (accounting_of l.given) g.row.P (entry_of l.given.certificate e)) (take l.e-index (entry_numbers_at l.given.certificate l.n));
      size : l.lost ≤ 2 ^ 84 * l.e-index;
    }
