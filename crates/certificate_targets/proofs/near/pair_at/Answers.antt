use Rattle.std.proofs.Common.{◌≡◌, arith, ℤ, to_z-of_z, to_z, of_z, SFits, w64}
use Rattle.std.proofs.lemmas.Int.{ints}
use Rattle.complex_box.proofs.Sizes.{box_wider}
use Rattle.exact_math.specs.Ends.{BoxEnds}
use Rattle.exact_math.specs.Gaussian.{gaussian}
use Rattle.limits.specs.Grid.{IsInGrid}
use Rattle.limits.specs.Limits.{widest_grid}
use Rattle.near_field.specs.Pair.{pair_box}
use Rattle.points.specs.declared.Point.{Point}
use Rattle.row_recursions.proofs.Points.{weight_bounded}
use Rattle.certificate_targets.proofs.near.pair_at.Goals as goal

ends_at : (x y : ℤ) (p : Point) {e : BoxEnds} → IsInGrid widest_grid x y → e ≡ pair_box (gaussian (to_z w64 (of_z w64 x)) (to_z w64 (of_z w64 y))) p → e ≡ pair_box (gaussian x y) p
ends_at x y p grid h =
    let f : SFits w64 x = omega (arith, ints) in
    let g : SFits w64 y = omega (arith, ints) in
    rw (to_z-of_z f, to_z-of_z g) at h

pub returns-clause-ends : goal.returns-clause-ends
returns-clause-ends c = ends_at _ _ c.args.p.now c.requires.in_grid c.pair.ensures.ends

pub returns-clause-size : goal.returns-clause-size
returns-clause-size c = box_wider _ _ _ (let light = weight_bounded c.args.p.now c.requires.range in omega arith) c.pair.ensures.size
