use Rattle.std.proofs.Common.{ap, ap₂, sym, ◌∙◌, ◌^◌, arith, pos, subst}
use Rattle.exact_math.specs.Ends.{BoxEndsWithin, add_box, quot_box}
use Rattle.row_recursions.proofs.RowWrites.{row_read, written-next}
use Rattle.local_shift.proofs.rounds.add_halves.Goals as goal

pub add-requires : goal.add-requires
add-requires c =
    let p = row_read c.loop-k.into c.loop-k.k c.index-into-k.result (omega arith) c.index-into-k.is ∙ c.loop-k.invariant.above c.loop-k.k (omega arith) in
    let q = c.quot_shift.ensures.ends ∙ ap (λ b. quot_box b (pos 2)) (row_read c.args.moved.now c.loop-k.k c.index-moved-k.result (omega arith) c.index-moved-k.is) in
    subst (BoxEndsWithin (2 ^ 126)) (sym (ap₂ add_box p q)) (c.requires.fits c.loop-k.k (omega arith))

pub loop-k-preserved : goal.loop-k-preserved
loop-k-preserved c =
    let p = row_read c.loop-k.into c.loop-k.k c.index-into-k.result (omega arith) c.index-into-k.is ∙ c.loop-k.invariant.above c.loop-k.k (omega arith) in
    let q = c.quot_shift.ensures.ends ∙ ap (λ b. quot_box b (pos 2)) (row_read c.args.moved.now c.loop-k.k c.index-moved-k.result (omega arith) c.index-moved-k.is) in
    written-next _ _ _ _ _ (omega arith) (c.add.ensures.ends ∙ ap₂ add_box p q) c.loop-k.invariant
