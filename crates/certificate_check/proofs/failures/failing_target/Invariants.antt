use Rattle.std.proofs.Common.{ℕ, ◌<◌}
use Rattle.certificate_rules.specs.LineRules.{TargetHolds}
use Rattle.certificate_check.proofs.failures.failing_target.Given as goal

abbrev pub invariant-loop-k : goal.invariant-loop-k
invariant-loop-k g l = (m : ℕ) → m < l.k → TargetHolds l.given.points l.given.certificate m
