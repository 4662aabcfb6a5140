-- The places so far.
use Rattle.std.proofs.Common.{ℕ, ◌≡◌, ◌+◌, ◌<◌, length}
use Rattle.field_basis.specs.MadePlaces.{IsMadeTarget}
use Rattle.field_basis.specs.Target.{target_at}
use Rattle.target_values.proofs.run.fill_run.Given as goal

abbrev pub invariant-loop-k : goal.invariant-loop-k
invariant-loop-k g l =
    record {
      len : length l.run ≡ length l.initial.run;
      made : (j : ℕ) → j < l.k → IsMadeTarget g.row.P l.basis (l.first + j) (target_at l.run j);
    }
