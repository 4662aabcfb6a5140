use Rattle.std.proofs.Common.{◌≡◌, ◌∙◌, suc, ◌+◌, ◌*◌, ◌^◌, ap, ap₂, sym, subst, arith, length, pos, ◌+ℤ◌, to_z, of_z}
use Rattle.std.proofs.lemmas.Int.{ints}
use Rattle.std.specs.Int.{w128}
use Rattle.exact_math.specs.Ends.{BoxEnds, BoxEndsWithin, add_box, scale_box}
use Rattle.exact_math.specs.Within.{Within}
use Rattle.complex_box.specs.Box.{box_ends, number}
use Rattle.complex_box.proofs.Sizes.{box_wider, scale_box_within}
use Rattle.row_recursions.specs.Rows.{row_of, far_powers}
use Rattle.row_recursions.proofs.RowWrites.{written-start, written-next, row_read}
use Rattle.local_expansion.proofs.FarSteps.{far_powers-zero, turn_fits, power_next, power_next_within, added_fits}
use Rattle.local_expansion.proofs.sources.add_dipoles.Goals as goal
use mathlib.Core.Path.{refl}

pub gquot_by-power-requires-clause-fits : goal.gquot_by-power-requires-clause-fits
gquot_by-power-requires-clause-fits c = turn_fits _ _ c.requires.size c.far_ratio-ratio.ensures.small

pub loop-l-init : goal.loop-l-init
loop-l-init c =
    let low = c.far_ratio-ratio.ensures.positive in
    let high = c.far_ratio-ratio.ensures.most in
    let d : to_z w128 (of_z w128 c.far_ratio-ratio.result.divisor) ≡ c.far_ratio-ratio.result.divisor = omega (arith, ints) in
    record {
      written = written-start _ _ _ (λ j. refl);
      power = power_next c.args.bits (number c.args.zeta) (box_ends c.args.first) _ _ _ _ 0 (sym (far_powers-zero _ _ _)) c.far_ratio-ratio.ensures.factor (d ∙ c.far_ratio-ratio.ensures.divisor) c.gquot_by-power.ensures.ends;
      size = power_next_within c.args.bits (number c.args.zeta) _ _ _ _ c.requires.far c.requires.size c.far_ratio-ratio.ensures.factor (d ∙ c.far_ratio-ratio.ensures.divisor) c.gquot_by-power.ensures.ends;
    }

pub gquot_by-power-requires-in-loop-l-clause-fits : goal.gquot_by-power-requires-in-loop-l-clause-fits
gquot_by-power-requires-in-loop-l-clause-fits c = turn_fits _ _ c.loop-l.invariant.size c.far_ratio-ratio.ensures.small

pub scale-requires : goal.scale-requires
scale-requires c =
    let low = c.far_ratio-ratio.ensures.positive in
    let high = c.far_ratio-ratio.ensures.most in
    let d : to_z w128 (of_z w128 c.far_ratio-ratio.result.divisor) ≡ c.far_ratio-ratio.result.divisor = omega (arith, ints) in
    let e : to_z w128 (of_z w128 (to_z w128 c.loop-l.l +ℤ pos 1)) ≡ pos (suc c.loop-l.l) = omega (arith, ints, c.requires.len) in
    let w : Within 32 (pos (suc c.loop-l.l)) = record { above = omega (arith, ints); below = omega (arith, ints, c.requires.len) } in
    rw e (box_wider (2 ^ 60 * 32) (2 ^ 126) _ (omega arith) (scale_box_within 32 (2 ^ 60) (pos (suc c.loop-l.l)) (box_ends c.gquot_by-power-in-loop-l.result) w
    (power_next_within c.args.bits (number c.args.zeta) _ _ _ _ c.requires.far c.loop-l.invariant.size c.far_ratio-ratio.ensures.factor (d ∙ c.far_ratio-ratio.ensures.divisor) c.gquot_by-power-in-loop-l.ensures.ends)))

pub add-requires : goal.add-requires
add-requires c =
    let low = c.far_ratio-ratio.ensures.positive in
    let high = c.far_ratio-ratio.ensures.most in
    let d : to_z w128 (of_z w128 c.far_ratio-ratio.result.divisor) ≡ c.far_ratio-ratio.result.divisor = omega (arith, ints) in
    let e : to_z w128 (of_z w128 (to_z w128 c.loop-l.l +ℤ pos 1)) ≡ pos (suc c.loop-l.l) = omega (arith, ints, c.requires.len) in
    let w : Within 32 (pos (suc c.loop-l.l)) = record { above = omega (arith, ints); below = omega (arith, ints, c.requires.len) } in
    let size = power_next_within c.args.bits (number c.args.zeta) _ _ _ _ c.requires.far c.loop-l.invariant.size c.far_ratio-ratio.ensures.factor (d ∙ c.far_ratio-ratio.ensures.divisor) c.gquot_by-power-in-loop-l.ensures.ends in
    added_fits (row_of c.args.into.now) (length c.args.into.now) c.loop-l.l _ _ c.requires.sum (omega arith)
    (row_read c.loop-l.into c.loop-l.l _ (omega arith) c.index-into-l.is ∙ c.loop-l.invariant.written.above c.loop-l.l (omega arith))
    (subst (BoxEndsWithin (2 ^ 65)) (sym (c.scale.ensures.ends ∙ ap (λ n. scale_box (box_ends c.gquot_by-power-in-loop-l.result) n) e)) (scale_box_within 32 (2 ^ 60) (pos (suc c.loop-l.l)) (box_ends c.gquot_by-power-in-loop-l.result) w size))

pub loop-l-preserved : goal.loop-l-preserved
loop-l-preserved c =
    let low = c.far_ratio-ratio.ensures.positive in
    let high = c.far_ratio-ratio.ensures.most in
    let d : to_z w128 (of_z w128 c.far_ratio-ratio.result.divisor) ≡ c.far_ratio-ratio.result.divisor = omega (arith, ints) in
    let e : to_z w128 (of_z w128 (to_z w128 c.loop-l.l +ℤ pos 1)) ≡ pos (suc c.loop-l.l) = omega (arith, ints, c.requires.len) in
    let next = power_next c.args.bits (number c.args.zeta) (box_ends c.args.first) _ _ _ _ (suc c.loop-l.l) c.loop-l.invariant.power c.far_ratio-ratio.ensures.factor (d ∙ c.far_ratio-ratio.ensures.divisor) c.gquot_by-power-in-loop-l.ensures.ends in
    record {
      written = written-next _ _ _ _ _ (omega arith)
          (c.add.ensures.ends ∙ ap₂ add_box (row_read c.loop-l.into c.loop-l.l _ (omega arith) c.index-into-l.is ∙ c.loop-l.invariant.written.above c.loop-l.l (omega arith))
          (c.scale.ensures.ends ∙ ap (λ n. scale_box (box_ends c.gquot_by-power-in-loop-l.result) n) e ∙ ap (λ (b : BoxEnds). scale_box b (pos (suc c.loop-l.l))) next)) c.loop-l.invariant.written;
      power = next ∙ ap (far_powers (box_ends c.args.first) (2 * 2 ^ c.args.bits) (number c.args.zeta)) {x = suc (suc c.loop-l.l)} {y = suc (c.loop-l.l + 1)} (omega arith);
      size = power_next_within c.args.bits (number c.args.zeta) _ _ _ _ c.requires.far c.loop-l.invariant.size c.far_ratio-ratio.ensures.factor (d ∙ c.far_ratio-ratio.ensures.divisor) c.gquot_by-power-in-loop-l.ensures.ends;
    }
