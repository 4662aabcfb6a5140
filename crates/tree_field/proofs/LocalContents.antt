-- Each local row of a tree contains the field of the entries of its cell and of the cells above it.
use Rattle.std.proofs.Common.{ℕ, zero, suc, ◌≡◌, ◌*◌, ◌<◌, ◌≤◌, List, [], refl, sym, ap, ap₂, ◌∙◌, subst, arith}
use Rattle.std.specs.Prelude.{All}
use Rattle.std.proofs.lemmas.Bool.{and_parts}
use Rattle.std.proofs.lemmas.List.Elements.{All-contains}
use Rattle.std.proofs.lemmas.List.Folds.{fold-map}
use Rattle.exact_math.specs.Ends.{BoxEnds, zero_box, add_box}
use Rattle.exact_math.specs.Gaussian.{Gaussian}
use Rattle.exact_math.specs.Ratio.{ComplexRatio, zero_complex, ◌+ᶜ◌}
use Rattle.exact_math.specs.Sums.{sum_complex, sum_terms}
use Rattle.cell_name.specs.Square.{Square, side, parent, ancestor, holds_test}
use Rattle.cell_name.proofs.Cells.{Touches-sym}
use Rattle.cell_name.proofs.Distances.{same_side}
use Rattle.cell_name.proofs.HoldsTest.{Holds-from_test}
use Rattle.cell_lists.specs.Entries.{IsEntry, IsPair}
use Rattle.letters.specs.declared.Letter.TheVariants.{V, X, W}
use Rattle.kernel_table.specs.Kernel.{kernel_entry}
use Rattle.points.specs.Points.{is_source, place, strength}
use Rattle.points.specs.declared.Point.{Point}
use Rattle.quadtree.specs.Tree.{AreInGrid, IsTreeCell, is_source_in}
use Rattle.quadtree.proofs.Distinct.{Contains-filter}
use Rattle.quadtree.proofs.Parents.{IsTreeCell-parent}
use Rattle.row_recursions.specs.Fields.{HoldsField}
use Rattle.row_recursions.specs.Geometry.{doubled_centre}
use Rattle.row_recursions.specs.Moments.{HoldsMoments}
use Rattle.row_recursions.specs.Rows.{converted, shifted_down}
use Rattle.row_recursions.specs.Sources.{source_of}
use Rattle.row_recursions.proofs.ConvertLaws.{field_converted}
use Rattle.row_recursions.proofs.DownLaws.{field_down}
use Rattle.row_recursions.proofs.FieldLaws.{no_field, sum_of_fields}
use Rattle.row_recursions.proofs.Geometry.{far_places, pairs_of_cells}
use Rattle.row_recursions.proofs.Points.{strength_field}
use Rattle.soundness.specs.Computed.{total_row}
use Rattle.soundness.specs.Squares.{offset, quadrant, IsQuarterOf, IsFarFrom}
use Rattle.soundness.proofs.Places.{side_positive, side_of-quarter, centre_of-quarter, norm_beyond}
use Rattle.truncation.specs.Entries.{local_cut}
use Rattle.tree_field.specs.Field.{sources_in, multipole_row, local_row}
use Rattle.tree_field.specs.Lists.{TreeLists, AreTreeLists}
use Rattle.tree_field.proofs.LocalRows.{empty_from, local_row-root, local_row-below}
use Rattle.exact_math.proofs.Lists.{All-from_members}
use Rattle.tree_field.specs.RowContents.{LocalRowsHold}
use Rattle.tree_field.specs.CutFields.{sources_of, pair_terms, far_terms, entry_terms}
use Rattle.tree_field.proofs.Ancestors.{ancestor-self, ancestor-parent, sum_complex-same}
use Rattle.tree_field.proofs.HeldFields.{HoldsField-same, HoldsField-list}
use Rattle.tree_field.proofs.MultipoleContents.{multipole_rows_held}
use Rattle.row_recursions.specs.Cells.{far_coefficients_in}
use Rattle.soundness.specs.Steps.{v_rows, x_rows}
use Rattle.cell_name.specs.Apart.{sides_between}

-- a row that holds a field in a cell
abbrev Held : ℕ → Square → (Gaussian → ComplexRatio) → (ℕ → BoxEnds) → Type 0
Held P b field m = HoldsField P (side b) (doubled_centre b) field m

-- ---- one far point, and one source in the field of a cell
pub far_positive : (b : Square) → 1 ≤ 3 * side b
far_positive b = let s = side_positive b in omega arith

far_point : (P : ℕ) (b : Square) (p : Point) → IsFarFrom b (place p) → Held P b (λ t. local_cut P (doubled_centre b) t (source_of p)) (far_coefficients_in b p)
far_point P b p far = strength_field P (side b) (doubled_centre b) (place p) (strength p.kind) (side_positive b) (norm_beyond (3 * side b) (offset b (place p)) (far_positive b) far)

module _ (grid : ℕ) (points : List Point) (cap P : ℕ) (positive : 0 < grid) (inside : AreInGrid grid points) where
  -- ---- one entry
  pair_held : (b c : Square) → IsPair grid points cap V b c → Held P b (λ t. pair_terms points P b c t) (converted P (kernel_entry (sides_between b c)) (multipole_row points cap c))
  pair_held b c h =
      let grids : b.grid ≡ c.grid = h.0.of_grid ∙ sym h.1.of_grid in
      let a = h.2 in
      field_converted P (side b) (sides_between b c) (doubled_centre b) (doubled_centre c) (sources_of points c) (multipole_row points cap c) (side_positive b)
      (norm_beyond 2 (sides_between b c) (omega arith) (pairs_of_cells b c grids a.same_level a.apart a.parents_touch).kernel.apart)
      (subst (λ s. HoldsMoments P s (doubled_centre c) (sources_of points c) (multipole_row points cap c)) (sym (same_side b c grids a.same_level)) (multipole_rows_held grid points cap P c positive inside h.1))

  -- the sources of the leaf c are far from a cell b that comes apart from it
  far_sources : (b c : Square) → IsPair grid points cap W c b → All (λ p. IsFarFrom b (place p)) (sources_in points c)
  far_sources b c h = All-from_members (λ p. IsFarFrom b (place p)) (sources_in points c) (λ p member.
      let kept = Contains-filter (is_source_in c) points p member in
      let held = Holds-from_test c p.x p.y (and_parts (is_source p.kind) (holds_test c p.x p.y) kept.1).1 in
      let tb = h.1 in
      let tc = h.0.in_tree in
      let a = h.2 in
      far_places c b p.x p.y (tc.of_grid ∙ sym tb.of_grid) (omega (arith, a.deeper)) (omega (arith, tb.level_in_grid, tb.of_grid)) (λ w. a.apart (Touches-sym c b w)) held)

  far_held : (b c : Square) → IsPair grid points cap W c b → Held P b (λ t. far_terms points P b c t) (total_row (far_coefficients_in b) (sources_in points c))
  far_held b c h =
      HoldsField-same P (side b) (doubled_centre b) _ _ (total_row (far_coefficients_in b) (sources_in points c)) (total_row (far_coefficients_in b) (sources_in points c))
      (λ t. sym (fold-map (λ s x. s +ᶜ local_cut P (doubled_centre b) t x) source_of zero_complex (sources_in points c))) (λ l. refl)
      (HoldsField-list P (side b) (doubled_centre b) (side_positive b) (λ p t. local_cut P (doubled_centre b) t (source_of p)) (far_coefficients_in b) (sources_in points c)
      (λ k d lt. far_point P b _ (far_sources b c h k d lt)))

  module _ (lists : TreeLists) (are : AreTreeLists grid points cap lists) where
    -- ---- the entries of one cell
    entries_held : (b : Square) → IsTreeCell grid points cap b → Held P b (λ t. entry_terms points P lists b t) (λ l. add_box (v_rows (λ c. c) (multipole_row points cap) P b (lists.entries V b) l) (x_rows (λ p. p) (sources_in points) b (lists.entries X b) l))
    entries_held b tb = sum_of_fields P (side b) (doubled_centre b) (λ t. sum_terms (λ c. pair_terms points P b c t) (lists.entries V b)) (λ t. sum_terms (λ c. far_terms points P b c t) (lists.entries X b))
        (v_rows (λ c. c) (multipole_row points cap) P b (lists.entries V b)) (x_rows (λ p. p) (sources_in points) b (lists.entries X b)) (side_positive b)
        (HoldsField-list P (side b) (doubled_centre b) (side_positive b) (λ c t. pair_terms points P b c t) (λ c. converted P (kernel_entry (sides_between b c)) (multipole_row points cap c)) (lists.entries V b)
        (λ k d lt. pair_held b _ ((are.entries_are V b tb).each k d lt).pair))
        (HoldsField-list P (side b) (doubled_centre b) (side_positive b) (λ c t. far_terms points P b c t) (λ c. total_row (far_coefficients_in b) (sources_in points c)) (lists.entries X b)
        (λ k d lt. far_held b _ ((are.entries_are X b tb).each k d lt).pair))

    -- the root has none
    root_V : (b : Square) → IsTreeCell grid points cap b → b.level ≡ 0 → lists.entries V b ≡ []
    root_V b tb e = empty_from (lists.entries V b) (λ c h. let p = (All-contains (IsEntry grid points cap V b) (lists.entries V b) c (are.entries_are V b tb).each h).pair in no c p)
      where
        no : (c : Square) → IsPair grid points cap V b c → ⊥
        no c p = omega (arith, p.2.below_root)

    root_X : (b : Square) → IsTreeCell grid points cap b → b.level ≡ 0 → lists.entries X b ≡ []
    root_X b tb e = empty_from (lists.entries X b) (λ c h. let p = (All-contains (IsEntry grid points cap X b) (lists.entries X b) c (are.entries_are X b tb).each h).pair in no c p)
      where
        no : (c : Square) → IsPair grid points cap W c b → ⊥
        no c p = omega (arith, p.2.deeper)

    -- ---- from the root down
    brought_down : (b : Square) (f : Gaussian → ComplexRatio) → IsTreeCell grid points cap b → 0 < b.level → Held P (parent b) f (local_row points cap P lists (parent b)) → Held P b f (shifted_down P (local_row points cap P lists (parent b)) (quadrant b))
    brought_down b f tb lo h = subst (λ g. HoldsField P (side b) g f (shifted_down P (local_row points cap P lists (parent b)) (quadrant b))) (sym (centre_of-quarter b (parent b) quarter))
        (field_down P (side b) (quadrant b) (doubled_centre (parent b)) f (local_row points cap P lists (parent b)) (side_positive b)
        (subst (λ s. HoldsField P s (doubled_centre (parent b)) f (local_row points cap P lists (parent b))) (side_of-quarter b (parent b) quarter) h))
      where
        quarter : IsQuarterOf b (parent b)
        quarter = record { below_root = lo; in_grid = omega (arith, tb.level_in_grid, tb.of_grid); parent_is = refl }

    abbrev field_to : ℕ → Square → Gaussian → ComplexRatio
    field_to level b t = sum_complex (suc level) (λ k. entry_terms points P lists (ancestor b k) t)

    held_at : (level : ℕ) (b : Square) → level ≡ b.level → IsTreeCell grid points cap b → Held P b (field_to level b) (local_row points cap P lists b)
    held_at zero b e tb = HoldsField-same P (side b) (doubled_centre b) (λ t. zero_complex) (field_to zero b) (λ l. zero_box) (local_row points cap P lists b) nothing (λ l. sym (local_row-root points cap P lists b (sym e) l))
        (no_field P (side b) (doubled_centre b) (side_positive b))
      where
        nothing : (t : Gaussian) → zero_complex ≡ field_to zero b t
        nothing t = sym (ap (λ c. zero_complex +ᶜ entry_terms points P lists c t) (ancestor-self b 0 e)
            ∙ ap₂ (λ vs xs. zero_complex +ᶜ (sum_terms (λ c. pair_terms points P b c t) vs +ᶜ sum_terms (λ c. far_terms points P b c t) xs)) (root_V b tb (sym e)) (root_X b tb (sym e)))
    held_at (suc level) b e tb = HoldsField-same P (side b) (doubled_centre b) _ (field_to (suc level) b) _ (local_row points cap P lists b) sums (λ l. sym (local_row-below points cap P lists b (omega arith) l))
        (sum_of_fields P (side b) (doubled_centre b) (field_to level (parent b)) (λ t. entry_terms points P lists b t) (shifted_down P (local_row points cap P lists (parent b)) (quadrant b))
        (λ l. add_box (v_rows (λ c. c) (multipole_row points cap) P b (lists.entries V b) l) (x_rows (λ p. p) (sources_in points) b (lists.entries X b) l)) (side_positive b)
        (brought_down b (field_to level (parent b)) tb (omega arith) (held_at level (parent b) (omega arith) (IsTreeCell-parent grid points cap b positive inside tb (omega arith))))
        (entries_held b tb))
      where
        sums : (t : Gaussian) → field_to level (parent b) t +ᶜ entry_terms points P lists b t ≡ field_to (suc level) b t
        sums t = ap₂ ◌+ᶜ◌
            (sum_complex-same (suc level) _ _ (λ k lt. ap (λ c. entry_terms points P lists c t) (sym (ancestor-parent b k (omega arith)))))
            (ap (λ c. entry_terms points P lists c t) (sym (ancestor-self b (suc level) e)))

pub local_rows_held : LocalRowsHold
local_rows_held grid points cap P lists b positive inside are tb = held_at grid points cap P positive inside lists are b.level b refl tb
