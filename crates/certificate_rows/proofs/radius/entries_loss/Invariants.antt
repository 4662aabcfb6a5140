-- What the entries so far can lose.
use Rattle.std.proofs.Common.{◌≡◌, ◌*◌, ◌^◌, ◌≤◌, take}
use Rattle.std.specs.Prelude.{sum_by}
use Rattle.certificate_nodes.specs.Presented.{accounting_of}
use Rattle.certificate_rows.specs.Entries.{loss_at, nth_entry}
use Rattle.certificate_rows.proofs.radius.entries_loss.Given as goal

abbrev pub invariant-loop-e : goal.invariant-loop-e
invariant-loop-e g l = record {
  value : l.sum ≡ sum_by (λ e. loss_at (accounting_of l.given) g.row.P l.side (nth_entry l.given.certificate e)) (take l.e-index l.entries);
  size : l.sum ≤ 2 ^ 77 * l.e-index;
}
