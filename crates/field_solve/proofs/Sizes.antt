-- How large the rows and radii of a field are.
use Rattle.std.proofs.Common.{ℕ, ◌≡◌, ◌*◌, ◌^◌, ◌<◌, ◌≤◌, ◌∙◌, true, false, sym, subst, arith}
use Rattle.std.proofs.lemmas.Bool.{cases_Bool, true≢false}
use mathlib.Core.Logic.{⊎_elim}
use Rattle.downward_rows.proofs.SameRows.{within_same}
use Rattle.field_basis.proofs.Sizes.{limited, some_lists, tree_cell_of_lists, within}
use Rattle.tree_field.proofs.Bounds.{radii_within}
use Rattle.limits.specs.Limits.{most_local, most_multipole, most_weight}
use Rattle.field_basis.specs.Place.{place_at}
use Rattle.quadtree.specs.TreeModel.{size, square_of, node_of}
use Rattle.row_recursions.specs.Rows.{row_of}
use Rattle.row_recursions.specs.Sizes.{RowWithin}
use Rattle.tree_field.specs.Field.{multipole_row, local_row, local_radius}
use Rattle.field_solve.specs.Parts.{FieldParts, FitTogether}

module _ (P : ℕ) (f : FieldParts) (is : FitTogether P f) (n : ℕ) (lt : n < size f.basis.tree) where
  pub multipole_small : RowWithin P (most_multipole f.basis.tree.grid) (row_of (place_at f.up n).row)
  multipole_small =
      let lists = some_lists P f.basis is.basis_is in
      within_same P (most_multipole f.basis.tree.grid) (row_of (place_at f.up n).row) (multipole_row f.basis.points f.basis.cap (square_of f.basis.tree n))
      ((is.up_are.each n lt).row_is f.basis.cap is.basis_is.is_tree)
      (subst (λ grid. RowWithin P (most_multipole grid) (multipole_row f.basis.points f.basis.cap (square_of f.basis.tree n))) lists.1.of_grid (within P f.basis is.basis_is n lt).multipole)

  pub local_small : (node_of f.basis.tree n).has_target ≡ true → RowWithin P (most_local f.basis.tree.grid) (row_of (place_at f.local n).row)
  local_small t =
      let lists = some_lists P f.basis is.basis_is in
      within_same P (most_local f.basis.tree.grid) (row_of (place_at f.local n).row) (local_row f.basis.points f.basis.cap P lists.0 (square_of f.basis.tree n))
      ((is.local_are.each n lt).with_target ((is.basis_is.is_tree.nodes_are n lt).target.0 t) lists.0 lists.1).row_is
      (subst (λ grid. RowWithin P (most_local grid) (local_row f.basis.points f.basis.cap P lists.0 (square_of f.basis.tree n))) lists.1.of_grid (within P f.basis is.basis_is n lt).local)

  pub radius_zero : (node_of f.basis.tree n).has_target ≡ false → (place_at f.local n).radius ≡ 0
  radius_zero none = ((is.local_are.each n lt).without (λ t. true≢false (sym ((is.basis_is.is_tree.nodes_are n lt).target.1 t) ∙ none))).radius_is

  pub radius_small : (place_at f.local n).radius ≤ 2 ^ 48 * most_weight f.basis.tree.grid
  radius_small = ⊎_elim with_target (λ none. omega (arith, radius_zero none)) (cases_Bool (node_of f.basis.tree n).has_target)
    where
      with_target : (node_of f.basis.tree n).has_target ≡ true → (place_at f.local n).radius ≤ 2 ^ 48 * most_weight f.basis.tree.grid
      with_target t =
          let lists = some_lists P f.basis is.basis_is in
          let same = ((is.local_are.each n lt).with_target ((is.basis_is.is_tree.nodes_are n lt).target.0 t) lists.0 lists.1).radius_is in
          subst (λ r. r ≤ 2 ^ 48 * most_weight f.basis.tree.grid) (sym same)
          (subst (λ grid. local_radius f.basis.points f.basis.cap P lists.0 (square_of f.basis.tree n) ≤ 2 ^ 48 * most_weight grid) lists.1.of_grid
          (radii_within f.basis.points f.basis.cap P lists.0 is.basis_is.order (limited P f.basis is.basis_is lists.0 lists.1) (square_of f.basis.tree n)
          (tree_cell_of_lists P f.basis is.basis_is lists.0 lists.1 n lt)))
