use Rattle.std.proofs.Common.{◌≡◌, ◌∙◌, ◌^◌, ap₂, sym, subst, arith, to_z, of_z, pos, ◌*ℤ◌}
use Rattle.std.specs.Int.{w128}
use Rattle.std.proofs.lemmas.Int.{ints}
use Rattle.exact_math.specs.Ends.{point_box, BoxEndsWithin}
use Rattle.exact_math.specs.Within.{Within}
use Rattle.row_recursions.proofs.places.units.Goals as goal

pub returns-clause-ends : goal.returns-clause-ends
returns-clause-ends c =
    let re : to_z w128 (of_z w128 (pos (2 ^ 40) *ℤ to_z w128 (of_z w128 c.from.result))) ≡ pos (2 ^ 40) *ℤ c.args.re = omega (arith, ints, c.from.ensures) in
    let im : to_z w128 (of_z w128 (pos (2 ^ 40) *ℤ to_z w128 (of_z w128 c.from-2.result))) ≡ pos (2 ^ 40) *ℤ c.args.im = omega (arith, ints, c.from-2.ensures) in
    c.point.ensures.ends ∙ ap₂ point_box re im

pub returns-clause-size : goal.returns-clause-size
returns-clause-size c =
    let re : Within (2 ^ 60) (pos (2 ^ 40) *ℤ c.args.re) = record { above = omega (arith, ints); below = omega (arith, ints) } in
    let im : Within (2 ^ 60) (pos (2 ^ 40) *ℤ c.args.im) = record { above = omega (arith, ints); below = omega (arith, ints) } in
    subst (BoxEndsWithin (2 ^ 60)) (sym (returns-clause-ends c)) (record { re = record { lo = re; hi = re }; im = record { lo = im; hi = im } })
