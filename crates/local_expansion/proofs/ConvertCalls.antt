-- What the conversion of a row does to what a local row contains and to its size.
use Rattle.std.proofs.Common.{◌≡◌, sym, ap₂, subst, ℕ, ◌+◌, ◌*◌, ◌^◌, ◌≤◌, ◌<◌, List, arith}
use Rattle.std.proofs.lemmas.Int.{ints}
use Rattle.exact_math.specs.Ends.{BoxEnds, BoxEndsWithin, add_box}
use Rattle.exact_math.specs.Gaussian.{Gaussian}
use Rattle.exact_math.specs.Orders.{IsOrder}
use Rattle.exact_math.specs.Sums.{sum_terms}
use Rattle.exact_math.proofs.Orders.{order_bounds}
use Rattle.complex_box.specs.Rows.{zero_cbox}
use Rattle.complex_box.specs.declared.CBox.{CBox}
use Rattle.complex_box.proofs.Sizes.{box_wider, add_box_within}
use Rattle.kernel_table.specs.Kernel.{IsKernelDistance, kernel_entry, IsKernelColumn}
use Rattle.kernel_table.proofs.Entries.{kernel_entries}
use Rattle.kernel_table.proofs.Sizes.{norm≥4}
use Rattle.truncation.specs.Entries.{pair_cut}
use Rattle.row_recursions.specs.Contents.{AddsFieldConverted}
use Rattle.row_recursions.specs.Rows.{row_of, RowsAdd, converted}
use Rattle.row_recursions.specs.Sizes.{RowWithin}
use Rattle.row_recursions.proofs.ConvertLaws.{field_converted}
use Rattle.row_recursions.proofs.ConvertedSizes.{converted_within}
use Rattle.row_recursions.specs.Widths.{RowNarrow, RowHoldsWithin}
use Rattle.row_recursions.proofs.ConvertedWidths.{converted_narrow}
use Rattle.row_recursions.proofs.RowSizes.{added_within}
use Rattle.row_recursions.proofs.RowWidths.{added_narrow}
use Rattle.local_expansion.proofs.RowCalls.{field_added}

module _ (P : ℕ) (e : Gaussian) (m : ℕ → BoxEnds) (order : IsOrder P) (distance : IsKernelDistance e) where
  -- a column of the kernel
  pub column_within : (l : ℕ) (column : List CBox) → l < P → IsKernelColumn P e l column → RowWithin P (2 ^ 39 + 1) (row_of column)
  column_within l column h is k i =
      let few = order_bounds P order in
      subst (BoxEndsWithin (2 ^ 39 + 1)) (sym (is.entries k zero_cbox i)) (kernel_entries e k l distance (omega (arith, few, h, i))).size

  few_enough : P ≤ 32
  few_enough = let few = order_bounds P order in omega (arith, few)

  -- a coefficient, added
  pub sum_fits : (old : ℕ → BoxEnds) (l : ℕ) (a b : BoxEnds) → l < P → RowWithin P (2 ^ 80) m → RowWithin P (2 ^ 110) old → a ≡ old l → b ≡ converted P (kernel_entry e) m l → BoxEndsWithin (2 ^ 126) (add_box a b)
  sum_fits old l a b h bounded within i j = subst (BoxEndsWithin (2 ^ 126)) (sym (ap₂ add_box i j))
      (box_wider (2 ^ 110 + 3 * 2 ^ 79) (2 ^ 126) _ (omega arith) (add_box_within (2 ^ 110) (3 * 2 ^ 79) (old l) (converted P (kernel_entry e) m l) (within l h)
      (converted_within P (2 ^ 79) e m few_enough distance bounded l h)))

  -- the row to which it was added
  pub converted_field : (old new : ℕ → BoxEnds) → RowsAdd P old (converted P (kernel_entry e) m) new → AddsFieldConverted P e m old new
  converted_field old new adds s b c xs field h v w = field_added P s b field (λ t. sum_terms (pair_cut P s e b c t) xs) old (converted P (kernel_entry e) m) new h adds w
      (field_converted P s e b c xs m h (omega (arith, ints, norm≥4 e distance)) v)

  pub converted_added : (k n : ℕ) (old new : ℕ → BoxEnds) → RowsAdd P old (converted P (kernel_entry e) m) new → RowWithin P (2 * k) m → RowWithin P n old → RowWithin P (n + 3 * k) new
  converted_added k n old new adds v w = added_within P n (3 * k) old (converted P (kernel_entry e) m) new adds w (converted_within P k e m few_enough distance v)

  pub converted_width : (v w A : ℕ) (old new : ℕ → BoxEnds) → RowsAdd P old (converted P (kernel_entry e) m) new → RowNarrow P w m → RowHoldsWithin P A m → RowNarrow P v old → RowNarrow P (v + (2 * w + 2 * P * A + 3)) new
  converted_width v w A old new adds row holds n k h = added_narrow P old (converted P (kernel_entry e) m) new adds k h (n k h) (converted_narrow P w A e m few_enough distance row holds k h)
