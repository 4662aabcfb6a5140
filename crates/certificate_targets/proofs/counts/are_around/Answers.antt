use Rattle.std.proofs.Common.{SFits, to_z-of_z, arith}
use Rattle.std.specs.Int.{w128}
use Rattle.std.proofs.lemmas.Int.{ints}
use Rattle.certificate_targets.proofs.counts.are_around.Goals as goal

pub returns-then-is_below : goal.returns-then-is_below
returns-then-is_below c =
    let a = c.ranges.lo in
    let b = c.ranges.hi in
    let p : SFits w128 c.args.interval.lo = omega (arith, ints, c.requires.interval.lo.above, c.requires.interval.lo.below) in
    let q : SFits w128 c.args.interval.hi = omega (arith, ints, c.requires.interval.hi.above, c.requires.interval.hi.below) in
    let h = simp to_z-of_z at c.is_below.ensures in
    let i = simp to_z-of_z at c.is_above.ensures in
    (λ t. record { lower = h.0 c.if-is_below.true; upper = i.0 t }, λ e. i.1 e.upper)
