-- A basis has a field, and its rows and radii stay within what the calls take.
use Rattle.std.proofs.Common.{ℕ, ◌<◌, ◌≤◌, ◌^◌, sym, ◌∙◌, arith}
use Rattle.std.specs.Prelude.{IsTrue}
use Rattle.std.proofs.lemmas.Bool.{true≢false, cases_Bool}
use mathlib.Core.Logic.{⊎_elim}
use Rattle.exact_math.specs.Ends.{zero_box}
use Rattle.complex_box.proofs.Sizes.{zero_within}
use Rattle.tree_field.proofs.Bounds.{radii_within}
use Rattle.soundness.proofs.RowTotals.{wider}
use Rattle.limits.proofs.Grids.{within_widest}
use Rattle.limits.specs.Limits.{most_multipole, most_local, widest_grid}
use Rattle.field_basis.specs.Place.{PlaceModel}
use Rattle.quadtree.specs.TreeModel.{size, square_of, node_of}
use Rattle.row_recursions.specs.Rows.{row_of}
use Rattle.row_recursions.specs.Sizes.{RowWithin}
use Rattle.tree_field.specs.Field.{multipole_row, local_row, local_radius}
use Rattle.tree_field.specs.Lists.{TreeLists, AreTreeLists}
use Rattle.field_basis.proofs.Sizes.{some_lists, known, limited, tree_cell_of_lists, multipole_within, local_within}
use Rattle.field_basis.specs.Basis.{BasisModel, IsBasis}
use Rattle.field_basis.specs.FieldPlaces.{IsMultipolePlace, IsLocalPlace}
use Rattle.downward_rows.proofs.SameRows.{within_same}
use Rattle.quadtree.specs.Tree.{has_target}

module _ (P : ℕ) (b : BasisModel) (is : IsBasis P b) where
  module _ (n : ℕ) (lt : n < size b.tree) where
    pub multipole_small : (place : PlaceModel) → IsMultipolePlace P b.points b.tree n place → RowWithin P (2 ^ 80) (row_of place.row)
    multipole_small place here =
        within_same P (2 ^ 80) (row_of place.row) (multipole_row b.points b.cap (square_of b.tree n)) (here.row_is b.cap is.is_tree)
        (wider P (most_multipole widest_grid) (2 ^ 80) (multipole_row b.points b.cap (square_of b.tree n)) (omega arith) (multipole_within P b is n lt))

    target_or_not : {A : Type 0} → (IsTrue (has_target b.points (square_of b.tree n)) → A) → ((IsTrue (has_target b.points (square_of b.tree n)) → ⊥) → A) → A
    target_or_not there none = ⊎_elim
        (λ e. there ((is.is_tree.nodes_are n lt).target.0 e))
        (λ e. none (λ t. true≢false (sym ((is.is_tree.nodes_are n lt).target.1 t) ∙ e)))
        (cases_Bool (node_of b.tree n).has_target)

    pub local_small : (place : PlaceModel) → IsLocalPlace P b n place → RowWithin P (2 ^ 90) (row_of place.row)
    local_small place here = target_or_not
        (λ t. within_same P (2 ^ 90) (row_of place.row) (local_row b.points b.cap P (some_lists P b is).0 (square_of b.tree n)) (here.with_target t (some_lists P b is).0 (some_lists P b is).1).row_is
        (wider P (most_local widest_grid) (2 ^ 90) (local_row b.points b.cap P (some_lists P b is).0 (square_of b.tree n)) (omega arith) (local_within P b is n lt)))
        (λ no. within_same P (2 ^ 90) (row_of place.row) (λ k. zero_box) (here.without no).row_is (λ k h. zero_within (2 ^ 90)))

    pub radius_small : (lists : TreeLists) → AreTreeLists b.tree.grid b.points b.cap lists → local_radius b.points b.cap P lists (square_of b.tree n) ≤ 2 ^ 84
    radius_small lists are =
        let within = radii_within b.points b.cap P lists is.order (limited P b is lists are) (square_of b.tree n) (tree_cell_of_lists P b is lists are n lt) in
        omega (arith, within, (within_widest lists.grid (known P b is lists are)).weight)
