use Rattle.std.proofs.Common.{ℕ, ◌<◌}
use Rattle.certificate_rules.specs.LineRules.{EntryHolds}
use Rattle.certificate_check.proofs.failures.failing_entry.Given as goal

abbrev pub invariant-loop-e : goal.invariant-loop-e
invariant-loop-e l = (m : ℕ) → m < l.e → EntryHolds l.given.points l.given.certificate m
