-- Local rows, radii and boxes of the field as what is computed of an accounting.
use Rattle.std.proofs.Common.{ℕ, ◌≡◌, ◌+◌, ◌<◌, zero, suc, List, [], ◌∷◌, length, Bool, true, cond, refl, sym, ap, ap₂, ◌∙◌, arith}
use Rattle.std.specs.Prelude.{pos, Contains, sum_by}
use Rattle.exact_math.specs.Ends.{BoxEnds, zero_box, add_box, widen_box}
use Rattle.exact_math.specs.Gaussian.{Gaussian}
use Rattle.cell_name.specs.Square.{Square, side, parent}
use Rattle.cell_lists.specs.Entries.{IsPair}
use Rattle.letters.specs.declared.Letter.TheVariants.{U, V, W, X}
use Rattle.kernel_table.specs.Kernel.{kernel_entry}
use Rattle.near_field.specs.Pair.{pair_box}
use Rattle.points.specs.declared.Point.{Point}
use Rattle.quadtree.specs.Tree.{AreInGrid, has_target}
use Rattle.complex_box.proofs.ZeroBoxes.{zero_left}
use Rattle.row_recursions.specs.Rows.{converted, shifted_down, multipole_value, local_value}
use Rattle.soundness.specs.Accounts.{LeafTarget, Accounting, sources_under}
use Rattle.soundness.specs.Computed.{total_box, total_row, weight_under, weight_of_entry, computed_local_row as given_local_row, converted_rows as given_converted_rows, far_rows as given_far_rows, computed_local_radius as given_local_radius, computed_target_box as given_target_box, multipoles_at, pairs_at as given_pairs_at}
use Rattle.soundness.specs.Accounts.{entries_of}
use Rattle.soundness.specs.Squares.{offset, quadrant, sides_between}
use Rattle.soundness.specs.Steps.{v_rows, x_rows, w_values, u_pairs}
use Rattle.truncation.specs.Tails.{pair_loss, single_loss}
use Rattle.tree_field.specs.Lists.{TreeLists, AreTreeLists}
use Rattle.tree_field.specs.Field.{sources_in, multipole_row, local_at_level, local_row, weight_in, pair_loss_in, single_loss_in, radius_at_level, local_radius, box_in}
use Rattle.tree_field.proofs.Accounts.{accounting, over_sources, sum_over_sources, over_entries, sum_over_entries}
use Rattle.tree_field.proofs.Numbers.{cell_at, above, tree_cell, first_is_root, level_positive, cell_above}
use Rattle.quadtree.proofs.Occupants.{has_target-parent}
use Rattle.row_recursions.specs.Cells.{far_coefficients_in}
use Rattle.exact_math.specs.Sizes.{weight_at}
use Rattle.points.specs.Points.{pole, dipole}

-- ---- the row of the root, and that of a cell below it from its parent's
root_level : (points : List Point) (cap P : ℕ) (lists : TreeLists) (level : ℕ) (b : Square) (k : ℕ) → level ≡ 0 → local_at_level points cap P lists level b k ≡ zero_box
unfolding local_at_level
root_level points cap P lists level b k e = ap (λ l. local_at_level points cap P lists l b k) e

pub local_row-root : (points : List Point) (cap P : ℕ) (lists : TreeLists) (b : Square) → b.level ≡ 0 → (k : ℕ) → local_row points cap P lists b k ≡ zero_box
local_row-root points cap P lists b e k = root_level points cap P lists b.level b k e

below_level : (points : List Point) (cap P : ℕ) (lists : TreeLists) (level : ℕ) (b : Square) (k : ℕ) → level ≡ b.level → 0 < level
    → local_at_level points cap P lists level b k ≡ add_box (shifted_down P (local_row points cap P lists (parent b)) (quadrant b) k) (add_box (v_rows (λ c. c) (multipole_row points cap) P b (lists.entries V b) k) (x_rows (λ p. p) (sources_in points) b (lists.entries X b) k))
unfolding local_at_level
below_level points cap P lists zero b k e lo = absurd (omega arith)
below_level points cap P lists (suc level) b k e lo = ap (λ l. add_box (shifted_down P (local_at_level points cap P lists l (parent b)) (quadrant b) k) (add_box (v_rows (λ c. c) (multipole_row points cap) P b (lists.entries V b) k) (x_rows (λ p. p) (sources_in points) b (lists.entries X b) k))) (omega arith)

pub local_row-below : (points : List Point) (cap P : ℕ) (lists : TreeLists) (b : Square) → 0 < b.level → (k : ℕ)
    → local_row points cap P lists b k ≡ add_box (shifted_down P (local_row points cap P lists (parent b)) (quadrant b) k) (add_box (v_rows (λ c. c) (multipole_row points cap) P b (lists.entries V b) k) (x_rows (λ p. p) (sources_in points) b (lists.entries X b) k))
local_row-below points cap P lists b lo k = below_level points cap P lists b.level b k refl lo

root_radius : (points : List Point) (cap P : ℕ) (lists : TreeLists) (level : ℕ) (b : Square) → level ≡ 0 → radius_at_level points cap P lists level b ≡ 0
unfolding radius_at_level
root_radius points cap P lists level b e = ap (λ l. radius_at_level points cap P lists l b) e

pub local_radius-root : (points : List Point) (cap P : ℕ) (lists : TreeLists) (b : Square) → b.level ≡ 0 → local_radius points cap P lists b ≡ 0
local_radius-root points cap P lists b e = root_radius points cap P lists b.level b e

below_radius : (points : List Point) (cap P : ℕ) (lists : TreeLists) (level : ℕ) (b : Square) → level ≡ b.level → 0 < level
    → radius_at_level points cap P lists level b ≡ local_radius points cap P lists (parent b) + (sum_by (pair_loss_in points P (side b)) (lists.entries V b) + sum_by (single_loss_in points P (side b)) (lists.entries X b))
unfolding radius_at_level
below_radius points cap P lists zero b e lo = absurd (omega arith)
below_radius points cap P lists (suc level) b e lo = ap (λ l. radius_at_level points cap P lists l (parent b) + (sum_by (pair_loss_in points P (side b)) (lists.entries V b) + sum_by (single_loss_in points P (side b)) (lists.entries X b))) (omega arith)

pub local_radius-below : (points : List Point) (cap P : ℕ) (lists : TreeLists) (b : Square) → 0 < b.level
    → local_radius points cap P lists b ≡ local_radius points cap P lists (parent b) + (sum_by (pair_loss_in points P (side b)) (lists.entries V b) + sum_by (single_loss_in points P (side b)) (lists.entries X b))
local_radius-below points cap P lists b lo = below_radius points cap P lists b.level b refl lo

pub empty_from : (xs : List Square) → ((c : Square) → Contains xs c → ⊥) → xs ≡ []
empty_from [] h = refl
empty_from (x ∷ xs) h = absurd (h x (0, omega arith, refl))

module _ (grid : ℕ) (points : List Point) (cap P : ℕ) (lists : TreeLists) (positive : 0 < grid) (inside : AreInGrid grid points) (are : AreTreeLists grid points cap lists) where
  abbrev given : Accounting
  given = accounting grid points cap P lists

  abbrev cell : ℕ → Square
  cell n = cell_at lists.cells n

  -- ---- the root has no entries of V and X
  root_cell : 0 < length lists.cells → (cell 0).level ≡ 0
  root_cell lt = ap (λ (s : Square). s.level) (first_is_root grid points cap lists.cells positive inside are.cells_are lt)

  no_V : (b c : Square) → b.level ≡ 0 → IsPair grid points cap V b c → ⊥
  no_V b c e h = omega (arith, h.2.below_root)

  no_X : (b c : Square) → b.level ≡ 0 → IsPair grid points cap W c b → ⊥
  no_X b c e h = omega (arith, h.2.deeper)

  root_V : 0 < length lists.cells → lists.entries V (cell 0) ≡ []
  root_V lt = empty_from (lists.entries V (cell 0)) (λ c h.
      let es = are.entries_are V (cell 0) (tree_cell grid points cap lists.cells positive inside are.cells_are 0 lt) in
      no_V (cell 0) _ (root_cell lt) (es.each h.0 c h.1).pair)

  root_X : 0 < length lists.cells → lists.entries X (cell 0) ≡ []
  root_X lt = empty_from (lists.entries X (cell 0)) (λ c h.
      let es = are.entries_are X (cell 0) (tree_cell grid points cap lists.cells positive inside are.cells_are 0 lt) in
      no_X (cell 0) _ (root_cell lt) (es.each h.0 c h.1).pair)

  -- ---- rows
  converted_same : (n : ℕ) → n < length lists.cells → (k : ℕ) → given_converted_rows P given n k ≡ v_rows (λ c. c) (multipole_row points cap) P (cell n) (lists.entries V (cell n)) k
  converted_same n lt k = over_entries grid points cap P lists positive inside are V n lt
      (λ m. converted P (kernel_entry (sides_between (cell n) (cell m))) (multipole_row points cap (cell m)) k)
      (λ c. converted P (kernel_entry (sides_between (cell n) c)) (multipole_row points cap c) k)
      (λ m lm. refl)

  far_same : (n : ℕ) → n < length lists.cells → (k : ℕ) → given_far_rows P given n k ≡ x_rows (λ p. p) (sources_in points) (cell n) (lists.entries X (cell n)) k
  far_same n lt k = over_entries grid points cap P lists positive inside are X n lt
      (λ m. total_row (λ x. far_coefficients_in (cell n) x.point) (sources_under given m) k)
      (λ c. total_row (far_coefficients_in (cell n)) (sources_in points c) k)
      (λ m lm. over_sources grid points cap P lists positive inside are (λ p. far_coefficients_in (cell n) p k) m lm)

  -- what the accounting has of a cell with a target
  row_given : (n : ℕ) → has_target points (cell n) ≡ true → given.local n ≡ local_row points cap P lists (cell n)
  row_given n t = ap (λ (b : Bool). cond b (local_row points cap P lists (cell n)) (λ k. zero_box)) t

  radius_given : (n : ℕ) → has_target points (cell n) ≡ true → given.radius n ≡ local_radius points cap P lists (cell n)
  radius_given n t = ap (λ (b : Bool). cond b (local_radius points cap P lists (cell n)) 0) t

  -- the cell of its parent has one too
  target_above : (n : ℕ) → 0 < n → n < length lists.cells → has_target points (cell n) ≡ true → has_target points (cell (above lists.cells n)) ≡ true
  target_above n lo lt t =
      let here = tree_cell grid points cap lists.cells positive inside are.cells_are n lt in
      ap (has_target points) (cell_above grid points cap lists.cells positive inside are.cells_are n lo lt)
      ∙ has_target-parent points (cell n) (level_positive grid points cap lists.cells positive inside are.cells_are n lo lt) (omega (arith, here.level_in_grid, here.of_grid)) t

  pub local_rows_same : (n : ℕ) → n < length lists.cells → has_target points (cell n) ≡ true → (k : ℕ) → given_local_row P given n k ≡ given.local n k
  local_rows_same zero lt t k =
      ap (add_box zero_box)
      (ap₂ add_box
      (converted_same 0 lt k ∙ ap (λ l. total_row (λ c. converted P (kernel_entry (sides_between (cell 0) c)) (multipole_row points cap c)) l k) (root_V lt))
      (far_same 0 lt k ∙ ap (λ l. total_row (λ c. total_row (far_coefficients_in (cell 0)) (sources_in points c)) l k) (root_X lt))
      ∙ zero_left zero_box)
      ∙ zero_left zero_box
      ∙ sym (local_row-root points cap P lists (cell 0) (root_cell lt) k)
      ∙ sym (ap (λ (r : ℕ → BoxEnds). r k) (row_given 0 t))
  local_rows_same (suc m) lt t k =
      let from : given.local (above lists.cells (suc m)) ≡ local_row points cap P lists (parent (cell (suc m))) =
      row_given (above lists.cells (suc m)) (target_above (suc m) (omega arith) lt t)
      ∙ ap (λ c. local_row points cap P lists c) (cell_above grid points cap lists.cells positive inside are.cells_are (suc m) (omega arith) lt) in
      ap₂ add_box
      (ap (λ (r : ℕ → BoxEnds). shifted_down P r (quadrant (cell (suc m))) k) from)
      (ap₂ add_box (converted_same (suc m) lt k) (far_same (suc m) lt k))
      ∙ sym (local_row-below points cap P lists (cell (suc m)) (level_positive grid points cap lists.cells positive inside are.cells_are (suc m) (omega arith) lt) k)
      ∙ sym (ap (λ (r : ℕ → BoxEnds). r k) (row_given (suc m) t))

  -- ---- radii
  weight_same : (n : ℕ) → n < length lists.cells → weight_under P given n ≡ weight_in points P (cell n)
  weight_same n lt = sum_over_sources grid points cap P lists positive inside are (λ p. weight_at P (pole p.kind) (dipole p.kind)) n lt

  pairs_lose : (n : ℕ) → n < length lists.cells → sum_by (λ e. pair_loss P (weight_of_entry P given e) (side (cell n))) (entries_of given V n) ≡ sum_by (pair_loss_in points P (side (cell n))) (lists.entries V (cell n))
  pairs_lose n lt = sum_over_entries grid points cap P lists positive inside are V n lt
      (λ m. pair_loss P (weight_under P given m) (side (cell n)))
      (pair_loss_in points P (side (cell n)))
      (λ m lm. ap (λ w. pair_loss P w (side (cell n))) (weight_same m lm))

  singles_lose : (n : ℕ) → n < length lists.cells → sum_by (λ e. single_loss P (weight_of_entry P given e) (side (cell n))) (entries_of given X n) ≡ sum_by (single_loss_in points P (side (cell n))) (lists.entries X (cell n))
  singles_lose n lt = sum_over_entries grid points cap P lists positive inside are X n lt
      (λ m. single_loss P (weight_under P given m) (side (cell n)))
      (single_loss_in points P (side (cell n)))
      (λ m lm. ap (λ w. single_loss P w (side (cell n))) (weight_same m lm))

  pub radii_same : (n : ℕ) → n < length lists.cells → has_target points (cell n) ≡ true → given_local_radius P given n ≡ given.radius n
  radii_same zero lt t =
      ap₂ (λ a b. 0 + (a + b))
      (pairs_lose 0 lt ∙ ap (sum_by (pair_loss_in points P (side (cell 0)))) (root_V lt))
      (singles_lose 0 lt ∙ ap (sum_by (single_loss_in points P (side (cell 0)))) (root_X lt))
      ∙ sym (local_radius-root points cap P lists (cell 0) (root_cell lt))
      ∙ sym (radius_given 0 t)
  radii_same (suc m) lt t =
      ap₂ (λ a b. a + b)
      (radius_given (above lists.cells (suc m)) (target_above (suc m) (omega arith) lt t)
      ∙ ap (local_radius points cap P lists) (cell_above grid points cap lists.cells positive inside are.cells_are (suc m) (omega arith) lt))
      (ap₂ (λ a b. a + b) (pairs_lose (suc m) lt) (singles_lose (suc m) lt))
      ∙ sym (local_radius-below points cap P lists (cell (suc m)) (level_positive grid points cap lists.cells positive inside are.cells_are (suc m) (omega arith) lt))
      ∙ sym (radius_given (suc m) t)

  -- ---- boxes
  multipoles_same : (n : ℕ) → n < length lists.cells → (z : Gaussian) → multipoles_at P given n z ≡ w_values (λ c. c) (multipole_row points cap) P z (lists.entries W (cell n))
  multipoles_same n lt z = over_entries grid points cap P lists positive inside are W n lt
      (λ m. multipole_value P (multipole_row points cap (cell m)) (side (cell m)) (offset (cell m) z))
      (λ c. multipole_value P (multipole_row points cap c) (side c) (offset c z))
      (λ m lm. refl)

  pairs_same : (n : ℕ) → n < length lists.cells → (z : Gaussian) → given_pairs_at P given n z ≡ u_pairs (λ p. p) (sources_in points) z (lists.entries U (cell n))
  pairs_same n lt z = over_entries grid points cap P lists positive inside are U n lt
      (λ m. total_box (λ x. pair_box z x.point) (sources_under given m))
      (λ c. total_box (pair_box z) (sources_in points c))
      (λ m lm. over_sources grid points cap P lists positive inside are (pair_box z) m lm)

  widened_same : (n : ℕ) → n < length lists.cells → has_target points (cell n) ≡ true
      → given.radius n + sum_by (λ e. single_loss P (weight_of_entry P given e) (side (cell e.c))) (entries_of given W n) ≡ local_radius points cap P lists (cell n) + sum_by (λ c. single_loss P (weight_in points P c) (side c)) (lists.entries W (cell n))
  widened_same n lt t = ap₂ (λ a b. a + b) (radius_given n t) (sum_over_entries grid points cap P lists positive inside are W n lt
      (λ m. single_loss P (weight_under P given m) (side (cell m)))
      (λ c. single_loss P (weight_in points P c) (side c))
      (λ m lm. ap (λ w. single_loss P w (side (cell m))) (weight_same m lm)))

  pub boxes_same : (t : LeafTarget) → t.leaf < length lists.cells → has_target points (cell t.leaf) ≡ true → given_target_box P given t ≡ box_in points cap P lists (cell t.leaf) t.place
  boxes_same t lt h = ap₂ (λ b r. widen_box b (pos r))
      (ap₂ add_box
      (ap (λ (r : ℕ → BoxEnds). local_value P r (side (cell t.leaf)) (offset (cell t.leaf) t.place)) (row_given t.leaf h))
      (ap₂ add_box (multipoles_same t.leaf lt t.place) (pairs_same t.leaf lt t.place)))
      (widened_same t.leaf lt h)
