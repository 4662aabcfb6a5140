use Rattle.std.proofs.Common.{arith, to_z-of_z, SFits}
use Rattle.std.proofs.lemmas.Int.{ints}
use Rattle.std.specs.Int.{w64}
use Rattle.local_expansion.proofs.NarrowEnds.{below_down, below_up}
use Rattle.local_expansion.proofs.narrow.end_below.Goals as goal

pub returns-then-factor-lt0-clause-product : goal.returns-then-factor-lt0-clause-product
returns-then-factor-lt0-clause-product c =
    let lo : SFits w64 c.args.x.lo = omega (arith, ints, c.args.x.low_end) in
    let hi : SFits w64 c.args.x.hi = omega (arith, ints, c.args.x.high_end) in
    simp to_z-of_z (below_down c.args.x.lo c.args.x.hi c.args.factor c.args.x.ordered (omega (arith, ints)))

pub returns-clause-product : goal.returns-clause-product
returns-clause-product c =
    let lo : SFits w64 c.args.x.lo = omega (arith, ints, c.args.x.low_end) in
    let hi : SFits w64 c.args.x.hi = omega (arith, ints, c.args.x.high_end) in
    simp to_z-of_z (below_up c.args.x.lo c.args.x.hi c.args.factor c.args.x.ordered (omega (arith, ints)))
