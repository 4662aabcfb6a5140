-- Sums of products of a column with a row.
use Rattle.std.proofs.Common.{◌≡◌, sym, ap, ap₂, ◌∙◌, subst, ℕ, zero, suc, ◌+◌, ◌*◌, ◌^◌, ◌≤◌, ◌<◌, arith, pos}
use Rattle.exact_math.specs.Ends.{BoxEnds, BoxEndsWithin, add_box, times_box, quot_box}
use Rattle.exact_math.specs.Gaussian.{Gaussian}
use Rattle.complex_box.specs.Box.{TimesFits}
use Rattle.complex_box.proofs.Sizes.{box_wider, add_box_within, times_box_within, times_fits, zero_within}
use Rattle.kernel_table.specs.Kernel.{kernel_entry}
use Rattle.row_recursions.specs.Rows.{sum_boxes, converted}
use Rattle.row_recursions.specs.Sizes.{RowWithin}
use Rattle.row_recursions.proofs.Equations.{converted-is, sum_boxes-same}

pub sum_next : (f : ℕ → BoxEnds) (k : ℕ) (s t : BoxEnds) → s ≡ sum_boxes k f → t ≡ add_box s (f k) → t ≡ sum_boxes (k + 1) f
sum_next f k s t e h = h ∙ ap (λ b. add_box b (f k)) e ∙ ap (λ n. sum_boxes n f) {x = suc k} {y = k + 1} (omega arith)

-- an entry is at most 2^39 + 1 in size, and a box of the row 2^80
module _ (P : ℕ) (column row : ℕ → BoxEnds) (few : P ≤ 32) (narrow : RowWithin P (2 ^ 39 + 1) column) (bounded : RowWithin P (2 ^ 80) row) where
  abbrev most : ℕ
  most = (2 ^ 39 + 1) * 2 ^ 80 + (2 ^ 39 + 1) * 2 ^ 80

  sum_within : (k : ℕ) → k ≤ P → BoxEndsWithin (k * most) (sum_boxes k (λ j. times_box (column j) (row j)))
  sum_within zero h = zero_within (0 * most)
  sum_within (suc k) h = box_wider (k * most + most) (suc k * most) _ (omega arith)
      (add_box_within (k * most) most (sum_boxes k (λ j. times_box (column j) (row j))) (times_box (column k) (row k)) (sum_within k (omega (arith, h)))
      (times_box_within (2 ^ 39 + 1) (2 ^ 80) (column k) (row k) (narrow k (omega (arith, h))) (bounded k (omega (arith, h)))))

  pub product_fits : (k : ℕ) (a b : BoxEnds) → k < P → a ≡ column k → b ≡ row k → TimesFits a b
  product_fits k a b h e f = times_fits (2 ^ 39 + 1) (2 ^ 80) a b (subst (BoxEndsWithin (2 ^ 39 + 1)) (sym e) (narrow k h)) (subst (BoxEndsWithin (2 ^ 80)) (sym f) (bounded k h)) (omega arith)

  pub sum_fits : (k : ℕ) (s a b : BoxEnds) → k < P → s ≡ sum_boxes k (λ j. times_box (column j) (row j)) → a ≡ column k → b ≡ row k → BoxEndsWithin (2 ^ 126) (add_box s (times_box a b))
  sum_fits k s a b h i e f = subst (BoxEndsWithin (2 ^ 126)) (sym (ap₂ add_box i (ap₂ times_box e f)))
      (box_wider (suc k * most) (2 ^ 126) _ (omega (arith, h, few)) (sum_within (suc k) (omega (arith, h))))

  pub product_next : (k : ℕ) (s a b t : BoxEnds) → s ≡ sum_boxes k (λ j. times_box (column j) (row j)) → a ≡ column k → b ≡ row k → t ≡ add_box s (times_box a b)
      → t ≡ sum_boxes (k + 1) (λ j. times_box (column j) (row j))
  product_next k s a b t i e f j = sum_next (λ j. times_box (column j) (row j)) k s t i (j ∙ ap (add_box s) (ap₂ times_box e f))

-- by the entries of the kernel
pub by_kernel : (P : ℕ) (e : Gaussian) (l : ℕ) (column row : ℕ → BoxEnds) → ((k : ℕ) → k < P → column k ≡ kernel_entry e k l)
    → quot_box (sum_boxes P (λ k. times_box (column k) (row k))) (pos (2 ^ 40)) ≡ converted P (kernel_entry e) row l
by_kernel P e l column row h = ap (λ b. quot_box b (pos (2 ^ 40))) (sum_boxes-same P _ _ (λ k i. ap (λ b. times_box b (row k)) (h k i))) ∙ sym (converted-is P (kernel_entry e) row l)
