use Rattle.std.proofs.Common.{◌+◌, ◌^◌, sym, subst, arith}
use Rattle.complex_box.proofs.Sizes.{box_wider}
use Rattle.row_recursions.specs.Rows.{row_of}
use Rattle.row_recursions.specs.Sizes.{RowWithin}
use Rattle.row_tests.proofs.ZeroRows.{zeros_within}
use Rattle.row_tests.proofs.shifts_up.above.Goals as goal

pub returns : goal.returns
returns c = λ k h. box_wider (0 + 2 ^ 79) (2 ^ 79) _ (omega arith)
    (c.shift_up.ensures.size 0 (2 ^ 79) (zeros_within 0 c.zero-row.result c.zero-row.ensures.ends)
    (subst (λ cells. RowWithin 4 (2 ^ 79) (row_of cells)) (sym c.new.ensures) c.requires.size) k h)
