use Rattle.std.proofs.Common.{◌∙◌, ◌*◌, ◌/◌, pos, ◌-ℤ◌, ap, sym, arith, to_z, of_z, to_z-of_z, SFits, w64}
use Rattle.std.proofs.lemmas.Int.{ints}
use Rattle.std.proofs.lemmas.Nat.{shr_le}
use Rattle.limits.specs.Grid.{half}
use Rattle.limits.specs.Limits.{first_grid}
use Rattle.point_sample.proofs.Draws.{pow_four}
use Rattle.point_sample.proofs.generator.coordinate.Goals as goal

pub returns : goal.returns
returns c =
    let part = shr_le c.args.draw (2 * c.args.scale) in
    let read = c.from.ensures in
    let r = c.ranges.draw in
    let f : SFits w64 c.from.result = omega (arith, ints) in
    let g : SFits w64 (c.from.result -ℤ pos (half first_grid)) = omega (arith, ints) in
    ap (λ z. to_z w64 (of_z w64 (to_z w64 (of_z w64 c.from.result) -ℤ to_z w64 (of_z w64 z)))) c.half.ensures
    ∙ ap (λ z. to_z w64 (of_z w64 (z -ℤ pos (half first_grid)))) (to_z-of_z f)
    ∙ to_z-of_z g
    ∙ ap (λ z. z -ℤ pos (half first_grid)) read
    ∙ ap (λ p. pos (c.args.draw / p) -ℤ pos (half first_grid)) (sym (pow_four c.args.scale))
