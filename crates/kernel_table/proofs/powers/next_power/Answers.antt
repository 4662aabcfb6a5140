use Rattle.std.proofs.Common.{◌∙◌, ap₂, arith, pos, neg_ℤ, ◌*ℤ◌}
use Rattle.std.proofs.lemmas.Int.{ints}
use Rattle.exact_math.specs.Ends.{gquot_box}
use Rattle.exact_math.specs.Gaussian.{gaussian, norm_gaussian, conj, scale_gaussian}
use Rattle.complex_box.specs.Box.{box_ends, number}
use Rattle.kernel_table.proofs.Norms.{wide-is}
use Rattle.kernel_table.proofs.Sizes.{gscale-fits}
use Rattle.kernel_table.proofs.powers.next_power.Goals as goal

pub gquot-requires-clause-fits : goal.gquot-requires-clause-fits
gquot-requires-clause-fits c =
    let p = c.requires.distance.near in
    gscale-fits c.requires.size
    (record { above = omega (arith, ints, p.re.above); below = omega (arith, ints, p.re.below) })
    (record { above = omega (arith, ints, p.im.below); below = omega (arith, ints, p.im.above) })

pub returns : goal.returns
returns c =
    let p = c.requires.distance.near in
    let low = c.norm.ensures.positive in
    let high = c.norm.ensures.small in
    c.gquot.ensures.ends
    ∙ ap₂ (λ g n. gquot_box (box_ends c.args.power) g n) {y = conj (scale_gaussian 2 (number c.args.e))} {v = norm_gaussian (number c.args.e)}
    (ap₂ gaussian {y = pos 2 *ℤ c.args.e.re} {v = neg_ℤ (pos 2 *ℤ c.args.e.im)}
    (omega (arith, ints, p.re.above, p.re.below)) (omega (arith, ints, p.im.above, p.im.below)))
    (wide-is c.norm.result (omega (arith, ints, low)) (omega (arith, ints, high)) ∙ c.norm.ensures.value)
