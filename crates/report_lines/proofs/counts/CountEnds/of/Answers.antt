use Rattle.std.proofs.Common.{ap, arith, SFits}
use Rattle.std.specs.Int.{w128}
use Rattle.std.proofs.lemmas.Int.{ints, to_z-of_z}
use Rattle.exact_math.proofs.Bridges.{contains-wider}
use Rattle.report_lines.proofs.Bounds.{contains-counts}
use Rattle.report_lines.specs.Counts.{count_below, count_above}
use Rattle.report_lines.proofs.counts.CountEnds.of.Goals as goal

pub returns-clause-contains : goal.returns-clause-contains
returns-clause-contains c x p =
    let lo_fits : SFits w128 c.args.i.lo = omega (arith, ints, c.requires.lo) in
    let hi_fits : SFits w128 c.args.i.hi = omega (arith, ints, c.requires.hi) in
    let lo = ap count_below (to_z-of_z w128 c.args.i.lo lo_fits) in
    let hi = ap count_above (to_z-of_z w128 c.args.i.hi hi_fits) in
    contains-wider (contains-counts c.args.i.lo c.args.i.hi x p)
    (omega (arith, ints, lo, c.count_down.ensures.value, c.count_down.ensures.size))
    (omega (arith, ints, hi, c.count_up.ensures.value, c.count_up.ensures.size))
