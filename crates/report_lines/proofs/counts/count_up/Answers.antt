use Rattle.std.proofs.Common.{◌≡◌, ◌^◌, pos, neg_ℤ, ◌-ℤ◌, ◌*ℤ◌, ap, arith, SFits}
use Rattle.std.specs.Int.{w128}
use Rattle.std.proofs.lemmas.Int.{ints, to_z-of_z}
use Rattle.exact_math.specs.Rounding.{floor_div}
use Rattle.report_lines.proofs.Reduced.{ceil_reduced}
use Rattle.report_lines.proofs.counts.count_up.Goals as goal

pub returns-clause-value : goal.returns-clause-value
returns-clause-value c =
    let n : SFits w128 c.args.n = c.ranges.n in
    let product : SFits w128 (c.args.n *ℤ pos 244140625) = omega (arith, ints) in
    let turned : SFits w128 (pos 0 -ℤ (c.args.n *ℤ pos 244140625)) = omega (arith, ints) in
    let count : SFits w128 c.shifted.result = omega (arith, ints, c.shifted.ensures.size) in
    let back : SFits w128 (pos 0 -ℤ c.shifted.result) = omega (arith, ints, c.shifted.ensures.size) in
    let value = simp to_z-of_z at c.shifted.ensures.value in
    let same = ceil_reduced c.args.n in
    let minus : pos 0 -ℤ (c.args.n *ℤ pos 244140625) ≡ neg_ℤ (c.args.n *ℤ pos 244140625) = omega (arith, ints) in
    let kept = ap (λ z. floor_div z (pos (2 ^ 28))) minus in
    rw (to_z-of_z w128 c.shifted.result count, to_z-of_z w128 (pos 0 -ℤ c.shifted.result) back) (omega (arith, ints, value, kept, same))
