-- What the cells so far can lose.
use Rattle.std.proofs.Common.{◌≡◌, ◌+◌, take}
use Rattle.std.specs.Prelude.{sum_by}
use Rattle.downward_rows.specs.Radii.{v_loss}
use Rattle.downward_rows.proofs.radius.add_v_losses.Given as goal

abbrev pub invariant-loop-c : goal.invariant-loop-c
invariant-loop-c g l = l.ledger ≡ l.fn.ledger + sum_by (v_loss g.row.P l.basis l.n) (take l.c-index l.c-items)
