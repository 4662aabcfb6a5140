use Rattle.std.proofs.Common.{◌≡◌, arith, rules, pos, neg_ℤ, ◌-ℤ◌, ◌*ℤ◌, ◌+ℤ◌, ◌≤ℤ◌, ◌<ℤ◌, to_z-of_z, SFits}
use Rattle.std.proofs.lemmas.Int.{ints}
use Rattle.std.specs.Int.{w64, w128}
use Rattle.fixed_interval.proofs.Rests.{left, one_less, just_so}
use Rattle.fixed_interval.proofs.guesses.floor_by.Goals as goal

pub overflow_add-result : goal.overflow_add-result
overflow_add-result c =
    let n = c.ranges.n in
    let z = c.ranges.z in
    let guess : SFits w64 c.guess-guess.result = search rules in
    let fits : SFits w128 c.rest_of-rest.result = search rules in
    let divisor : SFits w128 c.from-divisor.result = search rules in
    let d : c.from-divisor.result ≡ c.args.n = simp to_z-of_z at c.from-divisor.ensures in
    let negative : SFits w128 (pos 0 -ℤ c.from-divisor.result) = omega (arith, ints, d) in
    let a = simp to_z-of_z at c.if-rest-divisor.false in
    let b = simp to_z-of_z at c.if-divisor-rest.false in
    let low : neg_ℤ c.args.n ≤ℤ c.rest_of-rest.result = grind (arith, ints, a, d) in
    let high : c.rest_of-rest.result <ℤ c.args.n = grind (arith, ints, b, d) in
    let l = left c.args.z c.args.n c.guess-guess.result c.rest_of-rest.result guess c.requires.most low high in
    let e = l.small in
    let f = l.wide in
    let t = simp to_z-of_z at c.if-left-lt0.true in
    let s : c.rest_of-rest.result <ℤ pos 0 = grind (arith, ints, t) in
    let g : SFits w64 (c.rest_of-rest.result +ℤ c.args.n) = omega (arith, ints, low, s, c.requires.most) in
    simp to_z-of_z g

pub returns-then-left-lt0 : goal.returns-then-left-lt0
returns-then-left-lt0 c =
    let n = c.ranges.n in
    let z = c.ranges.z in
    let guess : SFits w64 c.guess-guess.result = search rules in
    let fits : SFits w128 c.rest_of-rest.result = search rules in
    let divisor : SFits w128 c.from-divisor.result = search rules in
    let d : c.from-divisor.result ≡ c.args.n = simp to_z-of_z at c.from-divisor.ensures in
    let negative : SFits w128 (pos 0 -ℤ c.from-divisor.result) = omega (arith, ints, d) in
    let a = simp to_z-of_z at c.if-rest-divisor.false in
    let b = simp to_z-of_z at c.if-divisor-rest.false in
    let low : neg_ℤ c.args.n ≤ℤ c.rest_of-rest.result = grind (arith, ints, a, d) in
    let high : c.rest_of-rest.result <ℤ c.args.n = grind (arith, ints, b, d) in
    let l = left c.args.z c.args.n c.guess-guess.result c.rest_of-rest.result guess c.requires.most low high in
    let e = l.small in
    let f = l.wide in
    let q : c.from-quotient.result ≡ c.guess-guess.result = simp to_z-of_z at c.from-quotient.ensures in
    let w : c.rest_of-rest.result ≡ c.args.z -ℤ (c.guess-guess.result *ℤ c.args.n) = simp to_z-of_z at c.rest_of-rest.ensures in
    let t = simp to_z-of_z at c.if-left-lt0.true in
    let s : c.rest_of-rest.result <ℤ pos 0 = grind (arith, ints, t) in
    let g : SFits w64 (c.rest_of-rest.result +ℤ c.args.n) = omega (arith, ints, low, s, c.requires.most) in
    let h = l.less in
    simp (q, to_z-of_z) (one_less c.args.z c.args.n c.guess-guess.result c.rest_of-rest.result w low s)

pub returns : goal.returns
returns c =
    let n = c.ranges.n in
    let z = c.ranges.z in
    let guess : SFits w64 c.guess-guess.result = search rules in
    let fits : SFits w128 c.rest_of-rest.result = search rules in
    let divisor : SFits w128 c.from-divisor.result = search rules in
    let d : c.from-divisor.result ≡ c.args.n = simp to_z-of_z at c.from-divisor.ensures in
    let negative : SFits w128 (pos 0 -ℤ c.from-divisor.result) = omega (arith, ints, d) in
    let a = simp to_z-of_z at c.if-rest-divisor.false in
    let b = simp to_z-of_z at c.if-divisor-rest.false in
    let low : neg_ℤ c.args.n ≤ℤ c.rest_of-rest.result = grind (arith, ints, a, d) in
    let high : c.rest_of-rest.result <ℤ c.args.n = grind (arith, ints, b, d) in
    let l = left c.args.z c.args.n c.guess-guess.result c.rest_of-rest.result guess c.requires.most low high in
    let e = l.small in
    let f = l.wide in
    let q : c.from-quotient.result ≡ c.guess-guess.result = simp to_z-of_z at c.from-quotient.ensures in
    let w : c.rest_of-rest.result ≡ c.args.z -ℤ (c.guess-guess.result *ℤ c.args.n) = simp to_z-of_z at c.rest_of-rest.ensures in
    let t = simp to_z-of_z at c.if-left-lt0.false in
    let s : pos 0 ≤ℤ c.rest_of-rest.result = grind (arith, ints, t) in
    simp (q, to_z-of_z) (just_so c.args.z c.args.n c.guess-guess.result c.rest_of-rest.result w s high)
