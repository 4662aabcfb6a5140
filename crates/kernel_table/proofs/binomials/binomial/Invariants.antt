use Rattle.std.proofs.Common.{◌≡◌}
use Rattle.exact_math.specs.Binomials.{choose}
use Rattle.kernel_table.proofs.binomials.binomial.Given as goal

abbrev pub invariant-loop-chosen : goal.invariant-loop-chosen
invariant-loop-chosen l = l.ways ≡ choose l.n l.chosen
