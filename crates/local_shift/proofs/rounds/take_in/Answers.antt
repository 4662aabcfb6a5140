use Rattle.std.proofs.Common.{ap, ap₂, sym, ◌∙◌, ◌+◌, ◌-◌, ◌^◌, arith, pos, subst}
use Rattle.std.proofs.lemmas.List.{length-set}
use mathlib.Core.Path.{refl}
use Rattle.exact_math.specs.Ends.{BoxEndsWithin, add_box, scale_box, gscale_box, quot_box}
use Rattle.complex_box.specs.Box.{box_ends}
use Rattle.row_recursions.specs.Rows.{row_of}
use Rattle.row_recursions.proofs.RowWrites.{row_read, written-start, written-next}
use Rattle.row_recursions.specs.Cells.{quadrant_of}
use Rattle.local_shift.proofs.RoundSteps.{next_row-at}
use Rattle.local_shift.proofs.rounds.take_in.Goals as goal

pub first_coefficient-requires-clause-own : goal.first_coefficient-requires-clause-own
first_coefficient-requires-clause-own c = subst (BoxEndsWithin (2 ^ 91)) (sym (row_read c.args.moved.now 0 c.index-moved-0.result (omega arith) c.index-moved-0.is)) (c.requires.size 0 (omega arith))

pub loop-k-init : goal.loop-k-init
loop-k-init c =
    let p = row_read c.args.moved.now 0 c.index-moved-0.result (omega arith) c.index-moved-0.is in
    record {
      first = omega arith;
      written = written-next _ _ 0 _ _ (omega arith) (c.first_coefficient.ensures ∙ ap (λ b. add_box (box_ends c.args.taken) (quot_box (gscale_box b (quadrant_of c.args.q)) (pos 4))) p)
          (written-start _ _ _ (λ j. refl));
      lower = p;
    }

pub next_coefficient-requires-clause-own : goal.next_coefficient-requires-clause-own
next_coefficient-requires-clause-own c =
    let n = length-set c.args.moved.now 0 c.first_coefficient.result in
    let p = row_read c.loop-k.moved c.loop-k.k c.index-moved-k.result (omega (arith, n)) c.index-moved-k.is ∙ c.loop-k.invariant.written.above c.loop-k.k (omega arith) in
    subst (BoxEndsWithin (2 ^ 91)) (sym p) (c.requires.size c.loop-k.k (omega arith))

pub next_coefficient-requires-clause-lower : goal.next_coefficient-requires-clause-lower
next_coefficient-requires-clause-lower c = subst (BoxEndsWithin (2 ^ 91)) (sym c.loop-k.invariant.lower) (c.requires.size (c.loop-k.k - 1) (omega arith))

pub loop-k-preserved : goal.loop-k-preserved
loop-k-preserved c =
    let n = length-set c.args.moved.now 0 c.first_coefficient.result in
    let p = row_read c.loop-k.moved c.loop-k.k c.index-moved-k.result (omega (arith, n)) c.index-moved-k.is ∙ c.loop-k.invariant.written.above c.loop-k.k (omega arith) in
    record {
      first = omega arith;
      written = written-next _ _ _ _ _ (omega (arith, n))
          (c.next_coefficient.ensures ∙ ap₂ (λ a b. quot_box (add_box (gscale_box a (quadrant_of c.args.q)) (scale_box b (pos 2))) (pos 4)) p c.loop-k.invariant.lower
          ∙ sym (next_row-at (box_ends c.args.taken) (quadrant_of c.args.q) (row_of c.args.moved.now) c.loop-k.k c.loop-k.invariant.first)) c.loop-k.invariant.written;
      lower = p ∙ ap (row_of c.args.moved.now) {x = c.loop-k.k} {y = c.loop-k.k + 1 - 1} (omega arith);
    }

pub returns-clause-next : goal.returns-clause-next
returns-clause-next c = λ k h. c.loop-k.invariant.written.below k (omega arith)

pub returns-clause-others : goal.returns-clause-others
returns-clause-others c = λ k h. c.loop-k.invariant.written.above k (omega arith)
