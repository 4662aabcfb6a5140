use Rattle.std.proofs.Common.{◌≡◌}
use Rattle.truncation.specs.Tails.{single_tail as the_tail}
use Rattle.tail_bounds.proofs.single_tail.Given as goal

abbrev pub invariant-loop-step : goal.invariant-loop-step
invariant-loop-step l = l.tail ≡ the_tail l.step
