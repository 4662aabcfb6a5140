use Rattle.std.proofs.Common.{arith}
use Rattle.std.proofs.lemmas.Int.{ints}
use Rattle.exact_math.proofs.Bridges.{contains-neg, contains-wider}
use Rattle.report_lines.proofs.counts.CountEnds.neg.Goals as goal

pub returns-clause-contains : goal.returns-clause-contains
returns-clause-contains c x p = contains-wider (contains-neg p) (omega (arith, ints)) (omega (arith, ints))
