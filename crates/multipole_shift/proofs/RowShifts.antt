-- What the shift up does to what a row contains and to its size.
use Rattle.std.proofs.Common.{◌≡◌, sym, subst, ℕ, ◌+◌, ◌*◌, ◌^◌, ◌<◌, ◌++◌, arith}
use Rattle.exact_math.specs.Ends.{BoxEnds, BoxEndsWithin, add_box}
use Rattle.complex_box.proofs.Sizes.{box_wider, add_box_within}
use Rattle.cell_name.specs.declared.cell.Quadrant.{Quadrant}
use Rattle.row_recursions.specs.Cells.{quadrant_of}
use Rattle.row_recursions.specs.Contents.{AddsMomentsUp}
use Rattle.row_recursions.specs.Rows.{RowsAdd, shifted_up}
use Rattle.row_recursions.specs.Sizes.{RowWithin}
use Rattle.row_recursions.proofs.MomentLaws.{sum_of_moments, moments_up, moments_same}
use Rattle.row_recursions.proofs.RowSizes.{shifted_up_within}
use Rattle.row_recursions.proofs.Turns.{unit_quadrant}

module _ (P : ℕ) (m : ℕ → BoxEnds) (q : Quadrant) where
  -- the shifted row
  pub part_within : (n : ℕ) → RowWithin P n m → RowWithin P n (shifted_up m (quadrant_of q))
  part_within n bounded = shifted_up_within P n (quadrant_of q) m (unit_quadrant q) bounded

  -- the sum fits
  pub sum_fits : (old part : ℕ → BoxEnds) → RowWithin P (2 ^ 80) m → RowWithin P (2 ^ 80) old → ((k : ℕ) → k < P → part k ≡ shifted_up m (quadrant_of q) k) → (k : ℕ) → k < P → BoxEndsWithin (2 ^ 126) (add_box (old k) (part k))
  sum_fits old part bounded size is k h = box_wider (2 ^ 80 + 2 ^ 80) (2 ^ 126) _ (omega arith)
      (add_box_within (2 ^ 80) (2 ^ 80) (old k) (part k) (size k h) (subst (BoxEndsWithin (2 ^ 80)) (sym (is k h)) (part_within (2 ^ 80) bounded k h)))

  -- the parent's row contains the moments of all
  pub added_moments : (old new : ℕ → BoxEnds) → RowsAdd P old (shifted_up m (quadrant_of q)) new → AddsMomentsUp P (quadrant_of q) m old new
  added_moments old new adds s c xs ys h there here = moments_same P (2 * s) c (xs ++ ys) (λ k. add_box (old k) (shifted_up m (quadrant_of q) k)) new adds
      (sum_of_moments P (2 * s) c xs ys old (shifted_up m (quadrant_of q)) (omega arith) there (moments_up P s (quadrant_of q) c ys m h here))
