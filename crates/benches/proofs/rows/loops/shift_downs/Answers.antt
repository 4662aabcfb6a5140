use Rattle.std.proofs.Common.{◌+◌, ◌*◌, ◌^◌, arith, subst, sym}
use Rattle.complex_box.proofs.Sizes.{box_wider}
use Rattle.row_recursions.specs.Rows.{row_of}
use Rattle.row_recursions.specs.Sizes.{RowWithin}
use Rattle.benches.proofs.rows.loops.shift_downs.Goals as goal

pub loop-n-preserved : goal.loop-n-preserved
loop-n-preserved c = record {
  len = c.shift_down.ensures.len;
  size = λ k h. box_wider (2 ^ 60 + c.loop-n.n * 2 ^ 60) ((c.loop-n.n + 1) * 2 ^ 60) _ (omega arith)
      (c.shift_down.ensures.size (2 ^ 60) (c.loop-n.n * 2 ^ 60) (subst (λ cells. RowWithin 16 (2 ^ 60) (row_of cells)) (sym c.new.ensures) c.sample_row-row.ensures) c.loop-n.invariant.size k h);
  count = omega arith;
}
