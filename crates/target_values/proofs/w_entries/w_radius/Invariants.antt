-- What the cells so far can lose.
use Rattle.std.proofs.Common.{◌≡◌, take}
use Rattle.std.specs.Prelude.{sum_by}
use Rattle.cell_lists.specs.ListAt.{list_at}
use Rattle.target_values.specs.Values.{loss_of_cell}
use Rattle.target_values.proofs.w_entries.w_radius.Given as goal

abbrev pub invariant-loop-c : goal.invariant-loop-c
invariant-loop-c g l =
    l.ledger ≡ sum_by (loss_of_cell g.row.P l.basis) (take l.c-index (list_at l.basis.lists.w l.leaf))
