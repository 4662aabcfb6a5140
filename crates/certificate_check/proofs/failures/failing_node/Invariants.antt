use Rattle.std.proofs.Common.{ℕ, ◌<◌}
use Rattle.certificate_rules.specs.LineRules.{NodeHolds}
use Rattle.certificate_check.proofs.failures.failing_node.Given as goal

abbrev pub invariant-loop-n : goal.invariant-loop-n
invariant-loop-n l = (m : ℕ) → m < l.n → NodeHolds l.given.points l.given.certificate m
