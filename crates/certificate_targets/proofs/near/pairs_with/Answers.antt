-- The pair with one source more.
use Rattle.std.proofs.Common.{◌∙◌, ap, arith, to_z, of_z, to_z-of_z, w64}
use Rattle.std.proofs.lemmas.List.{take_all}
use Rattle.complex_box.proofs.Sizes.{add_box_within, box_wider}
use Rattle.complex_box.specs.Box.{box_ends}
use Rattle.exact_math.specs.Ends.{add_box}
use Rattle.exact_math.specs.Gaussian.{gaussian}
use Rattle.near_field.specs.Pair.{pair_box}
use Rattle.soundness.specs.Computed.{total_box}
use Rattle.certificate_targets.proofs.Sums.{total-step}
use Rattle.certificate_targets.proofs.near.pairs_with.Goals as goal

pub loop-p-preserved : goal.loop-p-preserved
loop-p-preserved c =
    let z = gaussian (to_z w64 (of_z w64 c.args.x)) (to_z w64 (of_z w64 c.args.y)) in
    record {
      ends = total-step (pair_box z) c.args.sources.now c.loop-p.p-index _ c.loop-p-test.true c.loop-p.invariant.ends (c.add-sum.ensures.ends ∙ ap (add_box (box_ends c.loop-p.sum)) c.pair_at.ensures.ends);
      size = rw c.add-sum.ensures.ends (box_wider _ _ _ (omega arith) (add_box_within _ _ (box_ends c.loop-p.sum) (box_ends c.pair_at.result) c.loop-p.invariant.size c.pair_at.ensures.size));
    }

pub returns-clause-ends : goal.returns-clause-ends
returns-clause-ends c =
    let x = c.ranges.x in
    let y = c.ranges.y in
    let so_far = simp to_z-of_z at c.loop-p.invariant.ends in
    so_far ∙ ap (total_box (pair_box (gaussian c.args.x c.args.y))) (take_all c.loop-p.p-index c.args.sources.now c.loop-p-test.false)
