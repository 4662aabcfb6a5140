use Rattle.std.proofs.Common.{◌≡◌, ◌∙◌, arith, pos, ◌+ℤ◌, unsigned_abs, to_z, of_z, w64}
use Rattle.std.proofs.lemmas.Int.{ints}
use Rattle.complex_box.specs.Box.{number}
use Rattle.kernel_table.proofs.FarDistances.{first_far}
use Rattle.kernel_table.proofs.distances.distance_index.Goals as goal

pub returns-then-abs-ge2-clause-value : goal.returns-then-abs-ge2-clause-value
returns-then-abs-ge2-clause-value c =
    let low = c.requires.near.im.above in
    let high = c.requires.near.im.below in
    let sum : to_z w64 (of_z w64 (to_z w64 (of_z w64 c.args.e.im) +ℤ pos 3)) ≡ c.args.e.im +ℤ pos 3 = omega (arith, ints, low, high) in
    let re : to_z w64 (of_z w64 c.args.e.re) ≡ c.args.e.re = let r = c.requires.near.re in omega (arith, ints, r.above, r.below) in
    first_far c.far_index.result (unsigned_abs (to_z w64 (of_z w64 (to_z w64 (of_z w64 c.args.e.im) +ℤ pos 3)))) (number c.args.e) c.far_index.ensures.index
    (omega (arith, ints, sum, low, high)) (c.far_index.ensures.value ∙ re) (omega (arith, ints, sum, low, high))
