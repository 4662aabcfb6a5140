use Rattle.std.proofs.Common.{◌+◌, ◌^◌, ap₂, sym, subst, arith, to_z-of_z}
use Rattle.std.proofs.lemmas.Int.{ints}
use Rattle.exact_math.specs.Gaussian.{gaussian}
use Rattle.exact_math.specs.Within.{GaussianWithin}
use Rattle.limits.specs.Limits.{widest_grid}
use Rattle.row_recursions.proofs.Points.{grid_offset_within}
use Rattle.row_recursions.proofs.places.offset.Goals as goal

pub offset-re-requires : goal.offset-re-requires
offset-re-requires c =
    let f = c.ranges.x in
    let g = c.ranges.y in
    simp to_z-of_z c.requires

pub returns-clause-value : goal.returns-clause-value
returns-clause-value c =
    let f = c.ranges.x in
    let g = c.ranges.y in
    let w = grid_offset_within c.args.cell c.args.x c.args.y c.requires in
    let a = simp to_z-of_z at c.offset-re.ensures.x in
    let b = simp to_z-of_z at c.offset-re.ensures.y in
    ap₂ gaussian (omega (arith, ints, a, w.re.above, w.re.below)) (omega (arith, ints, b, w.im.above, w.im.below))

pub returns-clause-size : goal.returns-clause-size
returns-clause-size c = subst (GaussianWithin (2 ^ (widest_grid + 1))) (sym (returns-clause-value c)) (grid_offset_within c.args.cell c.args.x c.args.y c.requires)
