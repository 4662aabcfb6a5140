use Rattle.std.proofs.Common.{◌+◌, ◌*◌, ◌^◌, arith, lit≤, lit<, rules, subst, sym}
use Rattle.std.proofs.lemmas.Int.{ints}
use mathlib.Core.Logic.{inr}
use mathlib.Core.Path.{refl}
use Rattle.complex_box.proofs.Sizes.{box_wider}
use Rattle.row_recursions.specs.Rows.{row_of}
use Rattle.row_recursions.specs.Sizes.{RowWithin}
use Rattle.row_tests.proofs.ZeroRows.{zero_row}
use Rattle.row_tests.proofs.order_32.far_cell.Goals as goal

pub convert-requires : goal.convert-requires
convert-requires g c = (
  lit< tt,
  (
    lit< tt,
    (
      inr (inr (inr (inr refl))),
      (
        refl,
        (
          search rules,
          (
            subst (λ cells. RowWithin 32 (2 ^ 80) (row_of cells)) (sym c.new.ensures) (λ k h. box_wider (2 ^ 79) (2 ^ 80) _ (lit≤ tt) (c.moments_of_nine-moments.ensures k h)),
            (zero_row 32 (2 ^ 110) c.zero-row.result c.zero-row.ensures.ends, search rules),
          ),
        ),
      ),
    ),
  ),
)

pub at_local-requires : goal.at_local-requires
at_local-requires g c = (
  lit< tt,
  (
    inr (inr (inr (inr refl))),
    (
      record { west = omega (arith, ints); east = omega (arith, ints); south = omega (arith, ints); north = omega (arith, ints) },
      subst (λ cells. RowWithin 32 (2 ^ 90) (row_of cells)) (sym c.new-3.ensures)
          (λ k h. box_wider (0 + 3 * 2 ^ 78) (2 ^ 90) _ (lit≤ tt) (c.convert.ensures.size (2 ^ 78) 0
          (subst (λ cells. RowWithin 32 (2 ^ 79) (row_of cells)) (sym c.new.ensures) c.moments_of_nine-moments.ensures)
          (zero_row 32 0 c.zero-row.result c.zero-row.ensures.ends) k h)),
    ),
  ),
)
