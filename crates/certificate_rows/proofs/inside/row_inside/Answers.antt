use Rattle.std.proofs.Common.{IsTrue, sym, subst, below_more, arith, rules}
use Rattle.exact_math.specs.Ends.{BoxEndsInside}
use Rattle.complex_box.specs.Box.{box_ends}
use Rattle.row_recursions.specs.Rows.{row_of}
use Rattle.row_recursions.proofs.RowWrites.{row_read}
use Rattle.certificate_rows.proofs.inside.row_inside.Goals as goal

pub loop-k-preserved : goal.loop-k-preserved
loop-k-preserved c =
    let k = c.loop-k.k in
    let p = row_read c.args.inner.now k c.index-inner-k.result (omega arith) c.index-inner-k.is in
    let q = row_read c.args.outer.now k c.index-outer-k.result (omega arith) c.index-outer-k.is in
    let h = c.inside.ensures.exactly.0 (search rules) in
    below_more (λ j. BoxEndsInside (row_of c.args.inner.now j) (row_of c.args.outer.now j)) k c.loop-k.invariant
    (subst (λ b. BoxEndsInside b (row_of c.args.outer.now k)) p (subst (BoxEndsInside (box_ends c.index-inner-k.result)) q h))

pub returns-then-not-inside : goal.returns-then-not-inside
returns-then-not-inside c =
    let k = c.loop-k.k in
    let p = row_read c.args.inner.now k c.index-inner-k.result (omega arith) c.index-inner-k.is in
    let q = row_read c.args.outer.now k c.index-outer-k.result (omega arith) c.index-outer-k.is in (
      search rules,
      λ h. subst IsTrue c.if-not-inside.true (c.inside.ensures.exactly.1
          (subst (λ b. BoxEndsInside b (box_ends c.index-outer-k.result)) (sym p) (subst (BoxEndsInside (row_of c.args.inner.now k)) (sym q) (h k (omega arith))))),
    )
