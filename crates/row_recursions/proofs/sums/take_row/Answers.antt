use Rattle.std.proofs.Common.{ap, ap₂, sym, ◌∙◌, arith}
use Rattle.exact_math.specs.Ends.{add_box, take_box}
use Rattle.row_recursions.specs.Rows.{row_of}
use Rattle.row_recursions.proofs.RowWrites.{row_read, written-next, box_take_fits, take_adds}
use Rattle.row_recursions.proofs.sums.take_row.Goals as goal

pub take-requires : goal.take-requires
take-requires c =
    let p = row_read c.loop-k.into c.loop-k.k c.index-into-k.result (omega arith) c.index-into-k.is ∙ c.loop-k.invariant.above c.loop-k.k (omega arith) in
    let q = row_read c.args.part.now c.loop-k.k c.index-part-k.result (omega arith) c.index-part-k.is in
    box_take_fits _ c.loop-k.k _ _ c.index-into-k.result c.index-part-k.result (omega arith) p q c.requires.part

pub loop-k-preserved : goal.loop-k-preserved
loop-k-preserved c =
    let p = row_read c.loop-k.into c.loop-k.k c.index-into-k.result (omega arith) c.index-into-k.is ∙ c.loop-k.invariant.above c.loop-k.k (omega arith) in
    let q = row_read c.args.part.now c.loop-k.k c.index-part-k.result (omega arith) c.index-part-k.is in
    written-next _ _ _ _ _ (omega arith) (c.take.ensures.ends ∙ ap₂ take_box p q) c.loop-k.invariant

pub returns-clause-adds : goal.returns-clause-adds
returns-clause-adds c = λ k h. take_adds (row_of c.args.part.now k) (row_of c.args.into.now k) ∙ ap (λ b. add_box b (row_of c.args.part.now k)) (sym (c.loop-k.invariant.below k (omega arith)))
