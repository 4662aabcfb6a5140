use Rattle.std.proofs.Common.{◌≡◌, refl, arith, to_z-of_z}
use Rattle.std.proofs.lemmas.Int.{ints}
use Rattle.fixed_interval.proofs.Rests.{rest_fits}
use Rattle.fixed_interval.proofs.guesses.rest_of.Goals as goal

pub overflow_sub-result : goal.overflow_sub-result
overflow_sub-result c =
    let a : c.from.result ≡ c.args.multiple = omega (arith, ints, c.from.ensures) in
    let b : c.from-2.result ≡ c.args.n = omega (arith, ints, c.from-2.ensures) in
    let f = rest_fits c.args.z c.args.multiple c.args.n c.ranges.multiple c.requires.least c.requires.most c.requires.size in
    let g = f.number in
    let h = f.guess in
    let i = f.divisor in
    let j = f.product in
    simp (a, b, to_z-of_z) f.rest

pub returns : goal.returns
returns c =
    let a : c.from.result ≡ c.args.multiple = omega (arith, ints, c.from.ensures) in
    let b : c.from-2.result ≡ c.args.n = omega (arith, ints, c.from-2.ensures) in
    let f = rest_fits c.args.z c.args.multiple c.args.n c.ranges.multiple c.requires.least c.requires.most c.requires.size in
    let g = f.number in
    let h = f.guess in
    let i = f.divisor in
    let j = f.product in
    let k = f.rest in
    simp (a, b, to_z-of_z) refl
