use Rattle.std.proofs.Common.{◌≡◌, ◌∙◌, arith, to_z-of_z, SFits, w64}
use Rattle.std.specs.Int.{w128}
use Rattle.std.proofs.lemmas.Int.{ints}
use Rattle.near_field.proofs.TermSizes.{small_product, same_fraction, pole_re, pole_im}
use Rattle.near_field.proofs.term.pole_over.Goals as goal

pub difference_of_products-requires-clause-first : goal.difference_of_products-requires-clause-first
difference_of_products-requires-clause-first c = small_product _ _ c.ranges.im c.ranges.dx c.requires.pole.1 c.requires.size.0 (omega arith)

pub difference_of_products-requires-clause-second : goal.difference_of_products-requires-clause-second
difference_of_products-requires-clause-second c = small_product _ _ c.ranges.re c.ranges.dy c.requires.pole.0 c.requires.size.1 (omega arith)

pub returns : goal.returns
returns c =
    let a = c.ranges.re in
    let b = c.ranges.im in
    let d = c.ranges.dx in
    let e = c.ranges.dy in
    let r = simp to_z-of_z at c.sum_of_products.ensures.value in
    let s = simp to_z-of_z at c.difference_of_products.ensures.value in
    let n = simp to_z-of_z at c.norm.ensures.value in
    let f : SFits w64 c.sum_of_products.result = omega (arith, ints) in
    let g : SFits w64 c.difference_of_products.result = omega (arith, ints) in
    let m : c.from.result ≡ c.norm.result = omega (arith, ints, c.from.ensures) in
    let h : SFits w128 c.from.result = omega (arith, ints, m) in
    same_fraction _
    (to_z-of_z f ∙ r ∙ pole_re c.args.re c.args.im c.args.dx c.args.dy)
    (to_z-of_z g ∙ s ∙ pole_im c.args.re c.args.im c.args.dx c.args.dy)
    (to_z-of_z h ∙ m ∙ n)
