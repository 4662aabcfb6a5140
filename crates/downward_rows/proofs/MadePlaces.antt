-- A place that is made holds the local row of its cell.
use Rattle.std.proofs.Common.{ℕ, ◌+◌, ◌<◌, ◌≤◌, ◌^◌, ◌≡◌, inl, inr, ◌⊎◌, Bool, true, false, cond, List, ◌++◌, length, ℤ, pos, ◌+ℤ◌, SFits, to_z, of_z, refl, ap, sym, subst, ◌∙◌, arith}
use Rattle.std.specs.Prelude.{◌&&◌, nat_lt, slice_index_or, IsTrue}
use Rattle.std.proofs.lemmas.Bool.{true≢false}
use Rattle.std.proofs.lemmas.Int.{ints, to_z-of_z}
use Rattle.std.proofs.lemmas.List.{get_or_default, get_or_append_left}
use Rattle.exact_math.specs.Ends.{zero_box}
use Rattle.cell_lists.proofs.CellNumbers.{first_level, level_positive, parent_before}
use Rattle.cell_lists.specs.ListAt.{list_at}
use Rattle.complex_box.specs.Counts.{Counts}
use Rattle.complex_box.specs.declared.CBox.{CBox}
use Rattle.field_basis.specs.Place.{PlaceModel, no_place, place_at}
use Rattle.quadtree.specs.TreeModel.{IsTree, size, square_of, node_of}
use Rattle.row_recursions.specs.Rows.{row_of, AreSameRows}
use Rattle.row_recursions.specs.Sizes.{RowWithin}
use Rattle.tree_field.proofs.LocalRows.{local_row-root, local_radius-root}
use Rattle.tree_field.specs.Field.{local_row, local_radius}
use Rattle.tree_field.specs.Lists.{TreeLists, AreTreeLists}
use Rattle.field_basis.proofs.Trees.{some_tree, tree_of_basis}
use Rattle.field_basis.specs.Basis.{BasisModel, IsBasis}
use Rattle.field_basis.specs.Counts.{translated, translations_into}
use Rattle.field_basis.specs.FieldPlaces.{HasLocalPlace, HasLocalRow, IsLocalPlace}
use Rattle.downward_rows.specs.Entries.{row_below}
use Rattle.downward_rows.specs.Radii.{v_losses_of, x_losses_of}
use Rattle.downward_rows.proofs.FieldRows.{row_is, radius_is}
use Rattle.field_basis.proofs.Sizes.{some_lists}
use Rattle.downward_rows.proofs.FieldSizes.{local_small, radius_small}
use Rattle.downward_rows.proofs.Trees.{target_of_parent}
use Rattle.quadtree.specs.Tree.{has_target}
use mir.Syntax.{w128}

-- the sum of two radii, as it comes back from a call
pub radius_read : (above more : ℕ) (r z : ℤ) → r ≡ pos above → above + more ≤ 2 ^ 84 → z ≡ to_z w128 (of_z w128 r) +ℤ pos more → to_z w128 (of_z w128 z) ≡ pos (above + more)
radius_read above more r z e small h =
    let f : SFits w128 r = omega (arith, ints, e, small) in
    let g = to_z-of_z w128 r f in
    let s : z ≡ pos (above + more) = omega (arith, ints, g, h, e) in
    let i : SFits w128 z = omega (arith, ints, s, small) in
    to_z-of_z w128 z i ∙ s

and_false : (b : Bool) → (b && false) ≡ false
and_false true = refl
and_false false = refl

-- row and radius say which place it is
pub same_local : (P : ℕ) (b : BasisModel) (n : ℕ) (old new : PlaceModel) → new.row ≡ old.row → new.radius ≡ old.radius → IsLocalPlace P b n old → IsLocalPlace P b n new
same_local P b n old new row radius is = record {
  with_target = λ t lists are. let h = is.with_target t lists are in record { row_is = λ k l. ap (λ r. row_of r k) row ∙ h.row_is k l; radius_is = radius ∙ h.radius_is };
  without = λ no. let h = is.without no in record { row_is = λ k l. ap (λ r. row_of r k) row ∙ h.row_is k l; radius_is = radius ∙ h.radius_is };
}

module _ (P : ℕ) (b : BasisModel) (is : IsBasis P b) (n : ℕ) (lt : n < size b.tree) where
  pub tree : IsTree b.tree
  tree = some_tree b.points b.tree (tree_of_basis P b is)

  -- the place of the parent, as it is read
  module _ (lo : 0 < n) (above : List PlaceModel) (p : ℕ) (p_is : p ≡ (node_of b.tree n).parent) (place : PlaceModel) (read : place ≡ slice_index_or above p place) (here : HasLocalPlace P b above (node_of b.tree n).parent) where
    pub parent_read : IsLocalPlace P b (node_of b.tree n).parent place
    parent_read = subst (IsLocalPlace P b (node_of b.tree n).parent) (sym (read ∙ ap (λ q. slice_index_or above q place) p_is ∙ get_or_default above (node_of b.tree n).parent place no_place here.in_range)) here.place_is

    pub parent_small : (m : List CBox) → m ≡ place.row → RowWithin P (2 ^ 90) (row_of m)
    parent_small m e =
        let Q : List CBox → Type 0 = λ r. RowWithin P (2 ^ 90) (row_of r) in
        subst Q (sym e) (local_small P b is (node_of b.tree n).parent (parent_before b.tree tree n lo lt).in_range place parent_read)

  -- the parent's place among those before the cell
  pub parent_above : (places above rest : List PlaceModel) → places ≡ above ++ rest → length above ≡ n → 0 < n → HasLocalPlace P b places (node_of b.tree n).parent → HasLocalPlace P b above (node_of b.tree n).parent
  parent_above places above rest whole len lo here =
      let p : ℕ = (node_of b.tree n).parent in
      let inside : p < length above = omega (arith, len, (parent_before b.tree tree n lo lt).before) in
      record {
        in_range = inside;
        place_is = subst (IsLocalPlace P b p) (ap (λ l. place_at l p) whole ∙ get_or_append_left above rest no_place p inside) here.place_is;
      }

  -- below the root, where the cell has a target
  module _ (lo : 0 < n) (has : (node_of b.tree n).has_target ≡ true) (above : PlaceModel) (parent_is : IsLocalPlace P b (node_of b.tree n).parent above) where
    target : IsTrue (has_target b.points (square_of b.tree n))
    target = (is.is_tree.nodes_are n lt).target.0 has

    level : 0 < (square_of b.tree n).level
    level = level_positive b.tree tree n lo lt

    parent_row : (lists : TreeLists) → AreTreeLists b.tree.grid b.points b.cap lists → HasLocalRow P b lists (node_of b.tree n).parent above
    parent_row lists are = parent_is.with_target (target_of_parent b.tree tree b.points n lo lt target) lists are

    pub radius_made : (lists : TreeLists) → AreTreeLists b.tree.grid b.points b.cap lists → above.radius + (v_losses_of P b n + x_losses_of P b n) ≡ local_radius b.points b.cap P lists (square_of b.tree n)
    radius_made lists are =
        ap (λ r. r + (v_losses_of P b n + x_losses_of P b n)) ((parent_row lists are).radius_is ∙ ap (λ c. local_radius b.points b.cap P lists c) (parent_before b.tree tree n lo lt).is_parent)
        ∙ radius_is P b is n lt lists are level

    pub radius_light : above.radius + (v_losses_of P b n + x_losses_of P b n) ≤ 2 ^ 84
    radius_light =
        let some = some_lists P b is in
        omega (arith, radius_made some.0 some.1, radius_small P b is n lt some.0 some.1)

    pub place_made : (place : PlaceModel) → AreSameRows P (row_of place.row) (row_below P b n (row_of above.row)) → place.radius ≡ above.radius + (v_losses_of P b n + x_losses_of P b n) → IsLocalPlace P b n place
    place_made place row radius = record {
      with_target = λ t lists are. record {
        row_is = λ k h. row k h ∙ row_is P b is n lt lists are (row_of above.row) level
            (λ j l. (parent_row lists are).row_is j l ∙ ap (λ c. local_row b.points b.cap P lists c j) (parent_before b.tree tree n lo lt).is_parent) k;
        radius_is = radius ∙ radius_made lists are;
      };
      without = λ no. absurd (no target);
    }

  -- the root, and a cell without a target
  pub place_empty : (n ≡ 0) ⊎ ((node_of b.tree n).has_target ≡ false) → (place : PlaceModel) → AreSameRows P (row_of place.row) (λ k. zero_box) → place.radius ≡ 0 → IsLocalPlace P b n place
  place_empty (inl e) place row radius =
      let root : (square_of b.tree n).level ≡ 0 = ap (λ m. (square_of b.tree m).level) e ∙ first_level b.tree tree (omega arith) in
      record {
        with_target = λ t lists are. record {
          row_is = λ k h. row k h ∙ sym (local_row-root b.points b.cap P lists (square_of b.tree n) root k);
          radius_is = radius ∙ sym (local_radius-root b.points b.cap P lists (square_of b.tree n) root);
        };
        without = λ no. record { row_is = row; radius_is = radius };
      }
  place_empty (inr e) place row radius = record {
    with_target = λ t lists are. absurd (true≢false (sym ((is.is_tree.nodes_are n lt).target.1 t) ∙ e));
    without = λ no. record { row_is = row; radius_is = radius };
  }

  pub nothing_translated : (n ≡ 0) ⊎ ((node_of b.tree n).has_target ≡ false) → (work : Counts) → work ≡ translated (translations_into b n) work
  nothing_translated out work =
      ap (λ t. record work { translations = t }) (omega (arith, none out))
    where
      none : (n ≡ 0) ⊎ ((node_of b.tree n).has_target ≡ false) → translations_into b n ≡ 0
      none (inl e) = ap (λ (q : Bool). cond {A = ℕ} q (1 + length (list_at b.lists.v n)) 0) (ap (λ m. nat_lt 0 m && (node_of b.tree n).has_target) e)
      none (inr e) = ap (λ (q : Bool). cond {A = ℕ} q (1 + length (list_at b.lists.v n)) 0) (ap (λ t. nat_lt 0 n && t) e ∙ and_false (nat_lt 0 n))
