-- The places so far.
use Rattle.std.proofs.Common.{ℕ, ◌+◌, ◌<◌}
use Rattle.field_basis.specs.MadePlaces.{IsMadeLocal}
use Rattle.field_basis.specs.Place.{place_at}
use Rattle.downward_rows.proofs.run.fill_run.Given as goal

abbrev pub invariant-loop-k : goal.invariant-loop-k
invariant-loop-k g l = (j : ℕ) → j < l.k → IsMadeLocal g.row.P l.basis (l.first + j) (place_at l.run j)
