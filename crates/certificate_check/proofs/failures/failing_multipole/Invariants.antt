use Rattle.std.proofs.Common.{ℕ, ◌<◌}
use Rattle.certificate_check.specs.Failures.{MultipoleLineHolds}
use Rattle.certificate_check.proofs.failures.failing_multipole.Given as goal

abbrev pub invariant-loop-n : goal.invariant-loop-n
invariant-loop-n g l = (m : ℕ) → m < l.n → MultipoleLineHolds l.given m
