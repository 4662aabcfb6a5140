use Rattle.std.proofs.Common.{SFits, to_z-of_z, arith, get_or, pos, ◌∙◌, sym}
use Rattle.std.specs.Int.{w128}
use Rattle.std.proofs.lemmas.Bool.{false≢true}
use Rattle.std.proofs.lemmas.Int.{ints}
use Rattle.limits.specs.Limits.{most_printed}
use Rattle.certificate_targets.proofs.Scaled.{first_within, second_within, third_within, fourth_within}
use Rattle.certificate_targets.proofs.counts.enclose.Goals as goal

pub are_around-requires-then-are_around-clause-lo : goal.are_around-requires-then-are_around-clause-lo
are_around-requires-then-are_around-clause-lo c =
    let w = third_within most_printed c.args.counts c.requires.counts in
    let p : SFits w128 (get_or c.args.counts 2 (pos 0)) = omega (arith, ints, w.above, w.below) in
    simp to_z-of_z w

pub are_around-requires-then-are_around-clause-hi : goal.are_around-requires-then-are_around-clause-hi
are_around-requires-then-are_around-clause-hi c =
    let w = fourth_within most_printed c.args.counts c.requires.counts in
    let p : SFits w128 (get_or c.args.counts 3 (pos 0)) = omega (arith, ints, w.above, w.below) in
    simp to_z-of_z w

pub returns-then-are_around : goal.returns-then-are_around
returns-then-are_around c =
    let w = first_within most_printed c.args.counts c.requires.counts in
    let v = second_within most_printed c.args.counts c.requires.counts in
    let p : SFits w128 (get_or c.args.counts 0 (pos 0)) = omega (arith, ints, w.above, w.below) in
    let q : SFits w128 (get_or c.args.counts 1 (pos 0)) = omega (arith, ints, v.above, v.below) in
    let h = simp to_z-of_z at c.are_around.ensures in
    let y = third_within most_printed c.args.counts c.requires.counts in
    let z = fourth_within most_printed c.args.counts c.requires.counts in
    let r : SFits w128 (get_or c.args.counts 2 (pos 0)) = omega (arith, ints, y.above, y.below) in
    let s : SFits w128 (get_or c.args.counts 3 (pos 0)) = omega (arith, ints, z.above, z.below) in
    let i = simp to_z-of_z at c.are_around-then-are_around.ensures in
    (λ t. record { re = h.0 c.if-are_around.true; im = i.0 t }, λ e. i.1 e.im)

pub returns-else-are_around : goal.returns-else-are_around
returns-else-are_around c =
    let w = first_within most_printed c.args.counts c.requires.counts in
    let v = second_within most_printed c.args.counts c.requires.counts in
    let p : SFits w128 (get_or c.args.counts 0 (pos 0)) = omega (arith, ints, w.above, w.below) in
    let q : SFits w128 (get_or c.args.counts 1 (pos 0)) = omega (arith, ints, v.above, v.below) in
    let h = simp to_z-of_z at c.are_around.ensures in
    (λ t. absurd (false≢true (sym c.if-are_around.false ∙ t)), λ e. h.1 e.re)
