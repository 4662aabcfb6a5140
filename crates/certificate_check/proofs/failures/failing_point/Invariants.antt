use Rattle.std.proofs.Common.{ℕ, ◌<◌}
use Rattle.certificate_rules.specs.LineRules.{PointHolds}
use Rattle.certificate_check.proofs.failures.failing_point.Given as goal

abbrev pub invariant-loop-k : goal.invariant-loop-k
invariant-loop-k l = (m : ℕ) → m < l.k → PointHolds l.given.points l.given.certificate m
