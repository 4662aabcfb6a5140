-- What the entries of a node add to its local row and what they can lose, each entry by its number.
use Rattle.std.specs.Prelude.{ℕ, ◌+◌, ◌≡◌, true, cond}
use Rattle.exact_math.specs.Ends.{BoxEnds, zero_box}
use Rattle.accounting_text.specs.Given.{given_entry}
use Rattle.cell_name.specs.Square.{Square}
use Rattle.cert_text.specs.Certificate.{Certificate, nth_line}
use Rattle.kernel_table.specs.Kernel.{IsKernelDistance, kernel_entry}
use Rattle.letters.specs.declared.Entry.{Entry}
use Rattle.letters.specs.declared.Letter.TheVariants.{V, X}
use Rattle.row_recursions.specs.Rows.{converted}
use Rattle.row_recursions.specs.Cells.{far_coefficients_in}
use Rattle.soundness.specs.Accounts.{Accounting, is_letter, sources_under}
use Rattle.soundness.specs.Computed.{point_of, weight_under}
use Rattle.soundness.specs.Squares.{sides_between}
use Rattle.soundness.specs.Steps.{total_row}
use Rattle.truncation.specs.Tails.{pair_loss, single_loss}
use Rattle.certificate_rows.specs.Given.{cell_at, multipole_at}

module _ (c : Certificate) where
  abbrev pub nth_entry : ℕ → Entry
  nth_entry e = given_entry (nth_line c.entries e)

  -- ---- V entries of the cell b
  -- b is a distance of the kernel away from the cell of the entry's c
  abbrev pub HasDistance : Square → Entry → Type 0
  HasDistance b e = is_letter V e.letter ≡ true → IsKernelDistance (sides_between b (cell_at c e.c))

  -- the row of the entry's c, converted, and nothing where it is another letter's
  abbrev pub v_row : ℕ → Square → Entry → ℕ → BoxEnds
  v_row P b e k = cond (is_letter V e.letter) (converted P (kernel_entry (sides_between b (cell_at c e.c))) (multipole_at c e.c) k) zero_box

-- ---- X entries of the cell b
module _ (A : Accounting) where
  -- what the sources under the entry's c add, and nothing where it is another letter's
  abbrev pub x_row : Square → Entry → ℕ → BoxEnds
  x_row b e k = cond (is_letter X e.letter) (total_row (λ x. far_coefficients_in b (point_of x)) (sources_under A e.c) k) zero_box

  -- ---- what an entry of a cell of the side s can lose at order P: nothing where it is a U or a W entry
  abbrev pub loss_at : ℕ → ℕ → Entry → ℕ
  loss_at P s e = cond (is_letter V e.letter) (pair_loss P (weight_under P A e.c) s) 0 + cond (is_letter X e.letter) (single_loss P (weight_under P A e.c) s) 0
