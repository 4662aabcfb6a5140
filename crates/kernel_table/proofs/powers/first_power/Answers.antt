use Rattle.std.proofs.Common.{◌≡◌, ◌^◌, ◌∙◌, ap₂, arith, pos, neg_ℤ, ◌*ℤ◌}
use Rattle.std.proofs.lemmas.Int.{ints}
use Rattle.exact_math.specs.Ends.{point_box, quot_box}
use Rattle.exact_math.specs.Gaussian.{norm_gaussian}
use Rattle.complex_box.specs.Box.{number}
use Rattle.kernel_table.specs.Kernel.{kernel_power}
use Rattle.kernel_table.proofs.Norms.{wide-is}
use Rattle.kernel_table.proofs.powers.first_power.Goals as goal

pub returns : goal.returns
unfolding kernel_power
returns c =
    let p = c.requires.near in
    let n : c.norm.result ≡ norm_gaussian (number c.args.e) = c.norm.ensures.value in
    let low = c.norm.ensures.positive in
    let high = c.norm.ensures.small in
    c.quot.ensures.ends
    ∙ ap₂ quot_box
    (c.point-numerator.ensures.ends
    ∙ ap₂ point_box {y = pos (2 ^ 60) *ℤ c.args.e.re} {v = neg_ℤ (pos (2 ^ 60) *ℤ c.args.e.im)}
    (omega (arith, ints, p.re.above, p.re.below, c.from.ensures)) (omega (arith, ints, p.im.above, p.im.below, c.from-2.ensures)))
    (wide-is c.norm.result (omega (arith, ints, low)) (omega (arith, ints, high)) ∙ n)
