use Rattle.std.proofs.Common.{ap, arith, SFits}
use Rattle.std.specs.Int.{w128}
use Rattle.std.proofs.lemmas.Int.{ints, to_z-of_z}
use Rattle.report_lines.specs.Counts.{count_below, count_above}
use Rattle.sample_summary.proofs.widths.width.Goals as goal

pub returns : goal.returns
returns c =
    let lo_fits : SFits w128 c.args.i.lo = omega (arith, ints, c.requires.lo) in
    let hi_fits : SFits w128 c.args.i.hi = omega (arith, ints, c.requires.hi) in
    let lo = ap count_below (to_z-of_z w128 c.args.i.lo lo_fits) in
    let hi = ap count_above (to_z-of_z w128 c.args.i.hi hi_fits) in
    omega (arith, ints, lo, hi, c.to_count.ensures.value, c.to_count.ensures.size, c.to_count-2.ensures.value, c.to_count-2.ensures.size, c.unsigned_abs.ensures.value)
