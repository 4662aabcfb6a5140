use Rattle.std.proofs.Common.{◌^◌, IsTrue, sym, subst, below_more, arith, rules}
use Rattle.exact_math.specs.Ends.{BoxEndsWithin}
use Rattle.row_recursions.specs.Rows.{row_of}
use Rattle.row_recursions.proofs.RowWrites.{row_got}
use Rattle.local_expansion.proofs.narrow.is_narrow.Goals as goal

pub loop-k-preserved : goal.loop-k-preserved
loop-k-preserved g c = below_more (λ j. BoxEndsWithin (2 ^ 62) (row_of c.args.row.cells.now j)) c.loop-k.k c.loop-k.invariant
    (subst (BoxEndsWithin (2 ^ 62)) (row_got c.args.row.cells.now c.loop-k.k c.get.ensures) (search rules))

pub returns-then-not-box_is_narrow : goal.returns-then-not-box_is_narrow
returns-then-not-box_is_narrow g c = (
  search rules,
  λ h. subst IsTrue c.if-not-box_is_narrow.true (c.box_is_narrow.ensures.1 (subst (BoxEndsWithin (2 ^ 62)) (sym (row_got c.args.row.cells.now c.loop-k.k c.get.ensures)) (h c.loop-k.k (omega arith)))),
)
