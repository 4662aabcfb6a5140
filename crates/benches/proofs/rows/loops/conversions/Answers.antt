use Rattle.std.proofs.Common.{◌∙◌, ◌+◌, ◌*◌, ◌^◌, arith, lit≤, rules, subst, sym}
use Rattle.complex_box.proofs.Sizes.{box_wider}
use Rattle.row_recursions.specs.Rows.{row_of}
use Rattle.row_recursions.specs.Sizes.{RowWithin}
use Rattle.benches.proofs.rows.loops.conversions.Goals as goal
use Rattle.benches.proofs.rows.loops.conversions.Goals.{After-work-1}

module _ (c : After-work-1) where
  row_size : RowWithin 16 (2 ^ 80) (row_of c.new.result.cells.now)
  row_size = λ k h. box_wider (2 ^ 60) (2 ^ 80) _ (lit≤ tt) (subst (λ cells. RowWithin 16 (2 ^ 60) (row_of cells)) (sym c.new.ensures) c.sample_row-row.ensures k h)

  into_size : RowWithin 16 (2 ^ 110) (row_of c.loop-n.into)
  into_size = λ k h. box_wider (c.loop-n.n * 2 ^ 61) (2 ^ 110) _ (omega arith) (c.loop-n.invariant.size k h)

pub convert-requires : goal.convert-requires
convert-requires c = (search rules, (search rules, (search rules, (c.loop-n.invariant.len, (c.distance.ensures, (row_size c, (into_size c, search rules)))))))

pub loop-n-preserved : goal.loop-n-preserved
loop-n-preserved c = record {
  len = c.convert.auto.into ∙ c.loop-n.invariant.len;
  size = λ k h. box_wider (c.loop-n.n * 2 ^ 61 + 3 * 2 ^ 59) ((c.loop-n.n + 1) * 2 ^ 61) _ (omega arith)
      (c.convert.ensures.size (2 ^ 59) (c.loop-n.n * 2 ^ 61) (subst (λ cells. RowWithin 16 (2 ^ 60) (row_of cells)) (sym c.new.ensures) c.sample_row-row.ensures) c.loop-n.invariant.size k h);
  count = omega arith;
}
