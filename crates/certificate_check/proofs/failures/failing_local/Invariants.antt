use Rattle.std.proofs.Common.{ℕ, ◌<◌}
use Rattle.certificate_check.specs.Failures.{LocalLineHolds}
use Rattle.certificate_check.proofs.failures.failing_local.Given as goal

abbrev pub invariant-loop-number : goal.invariant-loop-number
invariant-loop-number g l = (m : ℕ) → m < l.number → LocalLineHolds l.given m
