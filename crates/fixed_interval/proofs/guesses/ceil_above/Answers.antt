use Rattle.std.proofs.Common.{rules, to_z-of_z, SFits}
use Rattle.std.specs.Int.{w64, w128}
use Rattle.fixed_interval.proofs.Rests as rests
use Rattle.fixed_interval.proofs.guesses.ceil_above.Goals as goal

pub overflow_cast-above : goal.overflow_cast-above
overflow_cast-above c =
    let e = c.ranges.lo in
    let f = c.ranges.hi in
    let a = rests.above c.args.lo c.args.hi c.args.n c.args.below.quotient c.args.below.rest c.requires.most c.requires.ordered c.requires.near c.requires.floor in
    let w = a.width in
    simp to_z-of_z a.small

pub overflow_add-above : goal.overflow_add-above
overflow_add-above c =
    let e = c.ranges.lo in
    let f = c.ranges.hi in
    let r : SFits w64 c.args.below.rest = search rules in
    let a = rests.above c.args.lo c.args.hi c.args.n c.args.below.quotient c.args.below.rest c.requires.most c.requires.ordered c.requires.near c.requires.floor in
    let w = a.width in
    let s = a.small in
    simp to_z-of_z a.fits

pub steps_to-requires-clause-from_zero : goal.steps_to-requires-clause-from_zero
steps_to-requires-clause-from_zero c =
    let e = c.ranges.lo in
    let f = c.ranges.hi in
    let r : SFits w64 c.args.below.rest = search rules in
    let a = rests.above c.args.lo c.args.hi c.args.n c.args.below.quotient c.args.below.rest c.requires.most c.requires.ordered c.requires.near c.requires.floor in
    let w = a.width in
    let s = a.small in
    let t = a.fits in
    simp to_z-of_z a.from_zero

pub steps_to-requires-clause-most : goal.steps_to-requires-clause-most
steps_to-requires-clause-most c =
    let e = c.ranges.lo in
    let f = c.ranges.hi in
    let n = c.ranges.n in
    let r : SFits w64 c.args.below.rest = search rules in
    let a = rests.above c.args.lo c.args.hi c.args.n c.args.below.quotient c.args.below.rest c.requires.most c.requires.ordered c.requires.near c.requires.floor in
    let w = a.width in
    let s = a.small in
    let t = a.fits in
    simp to_z-of_z a.most

pub overflow_add-result : goal.overflow_add-result
overflow_add-result c =
    let q : SFits w128 c.args.below.quotient = search rules in
    let k : SFits w128 c.steps_to.result = search rules in
    let w = rests.quotient_within c.args.lo c.args.n c.args.below.quotient c.args.below.rest c.requires.least c.requires.size c.requires.floor in
    simp to_z-of_z (rests.step_fits c.args.below.quotient c.steps_to.result w c.steps_to.ensures.low c.steps_to.ensures.high)

pub returns : goal.returns
returns c =
    let e = c.ranges.lo in
    let f = c.ranges.hi in
    let n = c.ranges.n in
    let q : SFits w128 c.args.below.quotient = search rules in
    let k : SFits w128 c.steps_to.result = search rules in
    let r : SFits w64 c.args.below.rest = search rules in
    let v = rests.quotient_within c.args.lo c.args.n c.args.below.quotient c.args.below.rest c.requires.least c.requires.size c.requires.floor in
    let x = rests.step_fits c.args.below.quotient c.steps_to.result v c.steps_to.ensures.low c.steps_to.ensures.high in
    let a = rests.above c.args.lo c.args.hi c.args.n c.args.below.quotient c.args.below.rest c.requires.most c.requires.ordered c.requires.near c.requires.floor in
    let w = a.width in
    let s = a.small in
    let t = a.fits in
    let l = simp to_z-of_z at c.steps_to.ensures.reached in
    let h = simp to_z-of_z at c.steps_to.ensures.near in
    simp to_z-of_z (rests.ceil_above c.args.lo c.args.hi c.args.n c.args.below.quotient c.args.below.rest c.steps_to.result c.requires.floor l h)
