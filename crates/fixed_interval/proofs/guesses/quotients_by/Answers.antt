use Rattle.std.proofs.Common.{rules, pos, ◌-ℤ◌, to_z-of_z, SFits}
use Rattle.std.specs.Int.{w64, w128}
use Rattle.fixed_interval.specs.Division.{HasRest}
use Rattle.fixed_interval.proofs.Rests.{rest_floor, rest_ceil, quotient_within, negative_fits, negative_within}
use Rattle.fixed_interval.proofs.guesses.quotients_by.Goals as goal

pub returns-then-hi-from-clause-lo : goal.returns-then-hi-from-clause-lo
returns-then-hi-from-clause-lo c =
    let e = c.ranges.lo in
    let n = c.ranges.n in
    let q : SFits w128 c.in_ok-below.below.quotient = search rules in
    let r : SFits w64 c.in_ok-below.below.rest = search rules in
    let d : HasRest c.args.lo c.args.n c.in_ok-below.below.quotient c.in_ok-below.below.rest = simp to_z-of_z at c.in_ok-below.ensures in
    simp to_z-of_z (rest_floor c.args.lo c.args.n c.in_ok-below.below.quotient c.in_ok-below.below.rest d)

pub floor_by-requires-2-clause-size : goal.floor_by-requires-2-clause-size
floor_by-requires-2-clause-size c =
    let e = c.ranges.hi in
    let f = negative_fits c.args.hi c.requires.high_end in
    simp to_z-of_z (negative_within c.args.hi c.requires.high_end)

pub overflow_sub-result : goal.overflow_sub-result
overflow_sub-result c =
    let e = c.ranges.hi in
    let n = c.ranges.n in
    let f = negative_fits c.args.hi c.requires.high_end in
    let q : SFits w128 c.in_ok-above.above.quotient = search rules in
    let r : SFits w64 c.in_ok-above.above.rest = search rules in
    let d : HasRest (pos 0 -ℤ c.args.hi) c.args.n c.in_ok-above.above.quotient c.in_ok-above.above.rest = simp to_z-of_z at c.in_ok-above.ensures in
    let w = quotient_within (pos 0 -ℤ c.args.hi) c.args.n c.in_ok-above.above.quotient c.in_ok-above.above.rest c.requires.least (negative_within c.args.hi c.requires.high_end) d in
    let g = negative_fits c.in_ok-above.above.quotient w in
    simp to_z-of_z g

pub returns-clause-lo : goal.returns-clause-lo
returns-clause-lo c =
    let e = c.ranges.lo in
    let n = c.ranges.n in
    let q : SFits w128 c.in_ok-below.below.quotient = search rules in
    let r : SFits w64 c.in_ok-below.below.rest = search rules in
    let d : HasRest c.args.lo c.args.n c.in_ok-below.below.quotient c.in_ok-below.below.rest = simp to_z-of_z at c.in_ok-below.ensures in
    simp to_z-of_z (rest_floor c.args.lo c.args.n c.in_ok-below.below.quotient c.in_ok-below.below.rest d)

pub returns-clause-hi : goal.returns-clause-hi
returns-clause-hi c =
    let e = c.ranges.hi in
    let n = c.ranges.n in
    let f = negative_fits c.args.hi c.requires.high_end in
    let q : SFits w128 c.in_ok-above.above.quotient = search rules in
    let r : SFits w64 c.in_ok-above.above.rest = search rules in
    let d : HasRest (pos 0 -ℤ c.args.hi) c.args.n c.in_ok-above.above.quotient c.in_ok-above.above.rest = simp to_z-of_z at c.in_ok-above.ensures in
    let w = quotient_within (pos 0 -ℤ c.args.hi) c.args.n c.in_ok-above.above.quotient c.in_ok-above.above.rest c.requires.least (negative_within c.args.hi c.requires.high_end) d in
    let g = negative_fits c.in_ok-above.above.quotient w in
    simp to_z-of_z (rest_ceil c.args.hi c.args.n c.in_ok-above.above.quotient c.in_ok-above.above.rest d)
