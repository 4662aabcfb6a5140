use Rattle.std.proofs.Common.{pos, ◌*ℤ◌, ◌∙◌, arith, SFits}
use Rattle.std.specs.Int.{w128}
use Rattle.std.proofs.lemmas.Int.{ints, to_z-of_z}
use Rattle.report_lines.proofs.Reduced.{floor_reduced}
use Rattle.report_lines.proofs.counts.count_down.Goals as goal

pub returns-clause-value : goal.returns-clause-value
returns-clause-value c =
    let n : SFits w128 c.args.n = c.ranges.n in
    let product : SFits w128 (c.args.n *ℤ pos 244140625) = omega (arith, ints) in
    let count : SFits w128 c.shifted.result = omega (arith, ints, c.shifted.ensures.size) in
    let value = simp to_z-of_z at c.shifted.ensures.value in
    rw (to_z-of_z w128 c.shifted.result count) (value ∙ floor_reduced c.args.n)
