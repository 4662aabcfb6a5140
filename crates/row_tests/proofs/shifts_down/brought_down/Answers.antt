use Rattle.std.proofs.Common.{◌+◌, ◌^◌, sym, subst, arith}
use Rattle.complex_box.proofs.Sizes.{box_wider}
use Rattle.row_recursions.specs.Rows.{row_of}
use Rattle.row_recursions.specs.Sizes.{RowWithin}
use Rattle.row_tests.proofs.ZeroRows.{zeros_within}
use Rattle.row_tests.proofs.shifts_down.brought_down.Goals as goal

pub returns : goal.returns
returns g c = λ k h. box_wider (2 ^ 90 + 0) (2 ^ 90) _ (omega arith)
    (c.shift_down.ensures.size (2 ^ 90) 0 (subst (λ cells. RowWithin 4 (2 ^ 90) (row_of cells)) (sym c.new.ensures) c.requires.size)
    (zeros_within 0 c.zero-row.result c.zero-row.ensures.ends) k h)
