use Rattle.std.proofs.Common.{◌≡◌, ◌∙◌, ◌^◌, ap, ap₂, sym, subst, arith, length, to_z, of_z}
use Rattle.std.proofs.lemmas.Int.{ints}
use Rattle.std.specs.Int.{w128}
use Rattle.exact_math.specs.Ends.{BoxEndsWithin, add_box, neg_box}
use Rattle.complex_box.specs.Box.{box_ends, number}
use Rattle.complex_box.proofs.Sizes.{box_wider, neg_box_within}
use Rattle.row_recursions.specs.Rows.{row_of}
use Rattle.row_recursions.proofs.RowWrites.{written-start, written-next, row_read}
use Rattle.local_expansion.proofs.FarSteps.{far_powers-zero, turn_fits, power_next, power_next_within, index_next, added_fits}
use Rattle.local_expansion.proofs.sources.add_poles.Goals as goal
use mathlib.Core.Path.{refl}

pub loop-l-init : goal.loop-l-init
loop-l-init c = record { written = written-start _ _ _ (λ j. refl); power = sym (far_powers-zero _ _ _); size = c.requires.size }

pub gquot_by-power-requires-clause-fits : goal.gquot_by-power-requires-clause-fits
gquot_by-power-requires-clause-fits c = turn_fits _ _ c.loop-l.invariant.size c.far_ratio-ratio.ensures.small

pub add-requires : goal.add-requires
add-requires c =
    let low = c.far_ratio-ratio.ensures.positive in
    let high = c.far_ratio-ratio.ensures.most in
    let d : to_z w128 (of_z w128 c.far_ratio-ratio.result.divisor) ≡ c.far_ratio-ratio.result.divisor = omega (arith, ints) in
    let size = power_next_within c.args.bits (number c.args.zeta) _ _ _ _ c.requires.far c.loop-l.invariant.size c.far_ratio-ratio.ensures.factor (d ∙ c.far_ratio-ratio.ensures.divisor) c.gquot_by-power.ensures.ends in
    added_fits (row_of c.args.into.now) (length c.args.into.now) c.loop-l.l _ _ c.requires.sum (omega arith)
    (row_read c.loop-l.into c.loop-l.l _ (omega arith) c.index-into-l.is ∙ c.loop-l.invariant.written.above c.loop-l.l (omega arith))
    (box_wider (2 ^ 60) (2 ^ 65) _ (omega arith) (subst (BoxEndsWithin (2 ^ 60)) (sym c.neg.ensures.ends) (neg_box_within (2 ^ 60) (box_ends c.gquot_by-power.result) size)))

pub loop-l-preserved : goal.loop-l-preserved
loop-l-preserved c =
    let low = c.far_ratio-ratio.ensures.positive in
    let high = c.far_ratio-ratio.ensures.most in
    let d : to_z w128 (of_z w128 c.far_ratio-ratio.result.divisor) ≡ c.far_ratio-ratio.result.divisor = omega (arith, ints) in
    let next = power_next c.args.bits (number c.args.zeta) (box_ends c.args.first) _ _ _ _ c.loop-l.l c.loop-l.invariant.power c.far_ratio-ratio.ensures.factor (d ∙ c.far_ratio-ratio.ensures.divisor) c.gquot_by-power.ensures.ends in
    record {
      written = written-next _ _ _ _ _ (omega arith)
          (c.add.ensures.ends ∙ ap₂ add_box (row_read c.loop-l.into c.loop-l.l _ (omega arith) c.index-into-l.is ∙ c.loop-l.invariant.written.above c.loop-l.l (omega arith)) (c.neg.ensures.ends ∙ ap neg_box next))
          c.loop-l.invariant.written;
      power = index_next _ _ _ _ next;
      size = power_next_within c.args.bits (number c.args.zeta) _ _ _ _ c.requires.far c.loop-l.invariant.size c.far_ratio-ratio.ensures.factor (d ∙ c.far_ratio-ratio.ensures.divisor) c.gquot_by-power.ensures.ends;
    }
