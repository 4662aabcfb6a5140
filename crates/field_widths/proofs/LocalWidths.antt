-- How wide the local rows of the field are: a level adds what the sources of its entries add, and what the shift down rounds.
use Rattle.std.proofs.Common.{ℕ, ◌≡◌, ◌+◌, ◌*◌, ◌<◌, ◌≤◌, zero, suc, List, [], ◌∷◌, length, refl, sym, subst, ap, arith}
use Rattle.std.specs.Prelude.{sum_by}
use Rattle.std.proofs.Math.Nat.{mul-le-mul_left, mul-le-mul_right}
use Rattle.std.proofs.lemmas.List.Elements.{All-weaker}
use Rattle.std.proofs.lemmas.List.Sums.{sum_by-cons}
use Rattle.exact_math.specs.Ends.{BoxEndsNarrow}
use Rattle.exact_math.proofs.Widths.{narrow-box, narrow-zero_box, narrow-add_box}
use Rattle.cell_name.specs.Square.{Square, parent}
use Rattle.cell_lists.specs.Entries.{IsEntry}
use Rattle.kernel_table.specs.Kernel.{kernel_entry}
use Rattle.letters.specs.declared.Letter.{Letter}
use Rattle.letters.specs.declared.Letter.TheVariants.{V, X}
use Rattle.points.specs.declared.Point.{Point}
use Rattle.quadtree.specs.Tree.{AreInGrid, IsTreeCell}
use Rattle.quadtree.proofs.Parents.{IsTreeCell-parent}
use Rattle.row_recursions.specs.Cells.{far_coefficients_in}
use Rattle.row_recursions.specs.Rows.{converted}
use Rattle.row_recursions.specs.Widths.{RowNarrow}
use Rattle.row_recursions.proofs.RowWidths.{shifted_down_narrow}
use Rattle.soundness.specs.Squares.{quadrant, sides_between}
use Rattle.soundness.specs.Steps.{total_row, v_rows, x_rows}
use Rattle.tree_field.specs.Field.{sources_in, multipole_row, local_row}
use Rattle.tree_field.specs.Lists.{TreeLists, AreTreeLists}
use Rattle.tree_field.specs.Paths.{over_entries, over_path}
use Rattle.tree_field.proofs.LocalRows.{local_row-root, local_row-below}
use Rattle.tree_field.proofs.MultipoleSizes.{unit_square}
use Rattle.tree_field.proofs.PathSources.{over_path-below}
use Rattle.field_widths.specs.Bound.{point_weight}
use Rattle.field_widths.specs.Laws.{entry_width, PairEntriesNarrow, FarEntriesNarrow, LocalRowsNarrow}
use Rattle.field_widths.proofs.SourceSums.{some_source}
use Rattle.field_widths.proofs.NarrowTotals.{total_row-narrow, row-narrower}

-- ---- what the sources of an entry add at most
module _ (G P : ℕ) where
  -- of the sources of a cell together
  entry_widths : (xs : List Point) → sum_by (entry_width G P) xs ≡ length xs * (2 * (2 * (P * P) + 2 * G * P) + 3) + 2 * P * sum_by (point_weight P) xs
  entry_widths [] = omega arith
  entry_widths (x ∷ xs) = omega (arith, sum_by-cons (entry_width G P) x xs, entry_widths xs, ap (λ n. 2 * P * n) (sum_by-cons (point_weight P) x xs))

  pair_enough : (xs : List Point) → 1 ≤ length xs → 2 * (length xs * (2 * (P * P) + 2 * G * P)) + 2 * P * sum_by (point_weight P) xs + 3 ≤ sum_by (entry_width G P) xs
  pair_enough xs some = let e = entry_widths xs in let h = enough (length xs) (2 * (P * P) + 2 * G * P) (2 * P * sum_by (point_weight P) xs) some in omega (arith, e, h)
    where
      enough : (n w s : ℕ) → 1 ≤ n → 2 * (n * w) + s + 3 ≤ n * (2 * w + 3) + s
      enough n w s h = omega (arith, h)

  far_enough : (xs : List Point) → 1 ≤ G → length xs * (2 * (P * P) + 2 * P) ≤ sum_by (entry_width G P) xs
  far_enough xs h =
      let e = entry_widths xs in
      let m = mul-le-mul_right P h in
      let k : length xs * (2 * (P * P) + 2 * P) ≤ length xs * (2 * (2 * (P * P) + 2 * G * P) + 3) = mul-le-mul_left (length xs) (omega (arith, m)) in
      omega (arith, e, k)

-- ---- levels
module _ (pairs : PairEntriesNarrow) (far : FarEntriesNarrow) (grid : ℕ) (points : List Point) (cap P : ℕ) (lists : TreeLists)
    (positive : 0 < grid) (few : P ≤ 32) (inside : AreInGrid grid points) (are : AreTreeLists grid points cap lists) where
  abbrev over : Letter → Square → ℕ
  over letter b = over_entries points lists (entry_width grid P) letter b

  abbrev path : Square → ℕ
  path b = over_path points lists (entry_width grid P) b

  converted_rows-narrow : (b : Square) → IsTreeCell grid points cap b → RowNarrow P (over V b) (v_rows (λ c. c) (multipole_row points cap) P b (lists.entries V b))
  converted_rows-narrow b in_tree =
      total_row-narrow P (λ c. converted P (kernel_entry (sides_between b c)) (multipole_row points cap c)) (λ c. sum_by (entry_width grid P) (sources_in points c)) (lists.entries V b)
      (All-weaker (IsEntry grid points cap V b) (λ c. RowNarrow P (sum_by (entry_width grid P) (sources_in points c)) (converted P (kernel_entry (sides_between b c)) (multipole_row points cap c)))
      one (lists.entries V b) (are.entries_are V b in_tree).each)
    where
      one : (c : Square) → IsEntry grid points cap V b c → RowNarrow P (sum_by (entry_width grid P) (sources_in points c)) (converted P (kernel_entry (sides_between b c)) (multipole_row points cap c))
      one c entry = row-narrower P _ (sum_by (entry_width grid P) (sources_in points c)) (converted P (kernel_entry (sides_between b c)) (multipole_row points cap c))
          (pair_enough grid P (sources_in points c) (some_source points c entry.source)) (pairs grid points cap P b c positive few inside entry)

  far_rows-narrow : (b : Square) → IsTreeCell grid points cap b → RowNarrow P (over X b) (x_rows (λ p. p) (sources_in points) b (lists.entries X b))
  far_rows-narrow b in_tree =
      total_row-narrow P (λ c. total_row (far_coefficients_in b) (sources_in points c)) (λ c. sum_by (entry_width grid P) (sources_in points c)) (lists.entries X b)
      (All-weaker (IsEntry grid points cap X b) (λ c. RowNarrow P (sum_by (entry_width grid P) (sources_in points c)) (total_row (far_coefficients_in b) (sources_in points c)))
      one (lists.entries X b) (are.entries_are X b in_tree).each)
    where
      one : (c : Square) → IsEntry grid points cap X b c → RowNarrow P (sum_by (entry_width grid P) (sources_in points c)) (total_row (far_coefficients_in b) (sources_in points c))
      one c entry = row-narrower P _ (sum_by (entry_width grid P) (sources_in points c)) (total_row (far_coefficients_in b) (sources_in points c))
          (far_enough grid P (sources_in points c) positive) (far grid points cap P b c inside entry)

  -- a row of the level n
  level_narrow : (n : ℕ) (b : Square) → b.level ≡ n → IsTreeCell grid points cap b → RowNarrow P (path b + n * (2 * P + 2)) (local_row points cap P lists b)
  level_narrow zero b e in_tree k lt = subst (BoxEndsNarrow (path b + 0 * (2 * P + 2))) (sym (local_row-root points cap P lists b e k)) (narrow-zero_box (path b + 0 * (2 * P + 2)))
  level_narrow (suc n) b e in_tree k lt =
      let up = IsTreeCell-parent grid points cap b positive inside in_tree (omega arith) in
      subst (BoxEndsNarrow (path b + suc n * (2 * P + 2))) (sym (local_row-below points cap P lists b (omega arith) k))
      (narrow-box (one_level_more n (path (parent b)) (path b) (over V b) (over X b) P (over_path-below points lists (entry_width grid P) b (omega arith)))
      (narrow-add_box
      (shifted_down_narrow P (path (parent b) + n * (2 * P + 2)) (quadrant b) (local_row points cap P lists (parent b)) (unit_square b) (level_narrow n (parent b) (omega arith) up) k lt)
      (narrow-add_box (converted_rows-narrow b in_tree k lt) (far_rows-narrow b in_tree k lt))))
    where
      one_level_more : (n p q v x P : ℕ) → q ≡ p + (v + x) → (p + n * (2 * P + 2) + 2 * P + 2) + (v + x) ≤ q + suc n * (2 * P + 2)
      one_level_more n p q v x P e = omega (arith, e)

pub local_rows_narrow : PairEntriesNarrow → FarEntriesNarrow → LocalRowsNarrow
local_rows_narrow pairs far grid points cap P lists b positive few inside are in_tree = level_narrow pairs far grid points cap P lists positive few inside are b.level b refl in_tree
