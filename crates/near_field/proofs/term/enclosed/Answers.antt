use Rattle.std.proofs.Common.{◌≡◌, ◌∙◌, ◌^◌, ap₂, arith, to_z, of_z, pos, ◌*ℤ◌}
use Rattle.std.specs.Int.{w128}
use Rattle.std.proofs.lemmas.Int.{ints}
use Rattle.exact_math.specs.Ends.{point_box, quot_box}
use Rattle.near_field.proofs.term.enclosed.Goals as goal

pub returns : goal.returns
returns c =
    let d : to_z w128 (of_z w128 c.args.term.denominator) ≡ c.args.term.denominator = omega (arith, ints) in
    let re : to_z w128 (of_z w128 (to_z w128 (of_z w128 c.from-re.result) *ℤ pos (2 ^ 40))) ≡ pos (2 ^ 40) *ℤ c.args.term.re = omega (arith, ints, c.from-re.ensures) in
    let im : to_z w128 (of_z w128 (to_z w128 (of_z w128 c.from-im.result) *ℤ pos (2 ^ 40))) ≡ pos (2 ^ 40) *ℤ c.args.term.im = omega (arith, ints, c.from-im.ensures) in
    c.quot.ensures.ends ∙ ap₂ quot_box (c.point.ensures.ends ∙ ap₂ point_box re im) d
