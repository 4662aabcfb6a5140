-- The places of the last cells of a tree.
use Rattle.std.proofs.Common.{ℕ, ◌≡◌, ◌+◌, ◌-◌, ◌<◌, ◌^◌, ◌≤◌, List, ◌++◌, length, get_or, sym, ap, ◌∙◌, subst, arith, get_or-set_same, get_or-set_other}
use Rattle.std.proofs.lemmas.List.{get_or_default, length-set, set-append_left}
use Rattle.std.specs.Prelude.{slice_set}
use Rattle.exact_math.specs.Ends.{BoxEndsWithin}
use Rattle.complex_box.specs.declared.CBox.{CBox}
use Rattle.field_basis.specs.FieldPlaces.{IsMultipolePlace}
use Rattle.field_basis.specs.Trees.{IsTreeOfPoints}
use Rattle.field_basis.specs.Place.{OthersStay, PlaceModel, no_place, place_at}
use Rattle.points.specs.declared.Point.{Point}
use Rattle.quadtree.specs.TreeModel.{TreeModel, size, square_of, IsTreeOf}
use Rattle.row_recursions.specs.Rows.{row_of, AreSameRows}
use Rattle.row_recursions.specs.Sizes.{RowWithin}
use Rattle.tree_field.specs.Field.{multipole_row}
use Rattle.upward_rows.specs.Behind.{IsBehind}
use Rattle.upward_rows.proofs.FieldRows.{row_small}

-- the first P boxes are the row of the cell, and so no larger than it
pub record HoldsRow (P : ℕ) (points : List Point) (tree : TreeModel) (m : ℕ) (row : List CBox) : Type 0 where
  pub row_is : (cap : ℕ) → IsTreeOf tree points cap → AreSameRows P (row_of row) (multipole_row points cap (square_of tree m))
  pub small : RowWithin P (2 ^ 76) (row_of row)

module _ (P : ℕ) (points : List Point) (tree : TreeModel) (behind : List PlaceModel) (m : ℕ) (inside : m < size tree) where
  -- what is read at the place of a cell
  pub row_behind : IsTreeOfPoints points tree → P ≤ 32 → IsBehind P points tree behind m → length behind ≤ size tree → (count : ℕ) (place : PlaceModel) (row : List CBox) → count ≡ size tree → place ≡ get_or behind (m - (count - length behind)) place → row ≡ place.row
      → HoldsRow P points tree m row
  row_behind t order h few count place row e is read =
      let at : ℕ = m - (size tree - length behind) in
      let here : place ≡ get_or behind at place = subst (λ n. place ≡ get_or behind (m - (n - length behind)) place) e is in
      let same : place ≡ place_at behind at = here ∙ get_or_default behind at place no_place (omega (arith, inside, few, h.is_behind)) in
      let whole : row ≡ (place_at behind at).row = read ∙ ap (λ (p : PlaceModel). p.row) same in
      record {
        row_is = λ cap is k lt. ap (λ l. row_of l k) whole ∙ h.row.row_is cap is k lt;
        small = λ k lt.
            subst (BoxEndsWithin (2 ^ 76)) (sym (ap (λ l. row_of l k) whole ∙ h.row.row_is t.cap t.is_tree k lt)) (row_small tree points t t.cap t.is_tree m inside P (omega (arith, order)) k lt);
      }

  -- a cell behind the cell n has its place among those behind it
  pub place_behind : (n : ℕ) (places : List PlaceModel) → length behind + (n + 1) ≡ size tree → n < m → ((j : ℕ) (d : PlaceModel) → get_or behind j d ≡ get_or places (n + 1 + j) d) → IsMultipolePlace P points tree m (place_at places m) → IsBehind P points tree behind m
  place_behind n places whole after each h =
      let at : ℕ = m - (size tree - length behind) in
      let here : place_at behind at ≡ place_at places m = each at no_place ∙ ap (place_at places) (let e : n + 1 + at ≡ m = omega (arith, whole, after, inside) in e) in
      record { is_behind = omega (arith, whole, after); row = subst (IsMultipolePlace P points tree m) (sym here) h }

-- one place is written
module _ (places front behind : List PlaceModel) (n : ℕ) (x : PlaceModel) (whole : places ≡ front ++ behind) (lt : n < length front) (inside : n < length places) where
  moved : slice_set places n x ≡ slice_set front n x ++ behind
  moved = ap (λ l. slice_set l n x) whole ∙ set-append_left front behind n x lt

  pub others_stay : OthersStay n places (slice_set front n x ++ behind)
  others_stay = subst (OthersStay n places) moved (record { as_many = length-set places n x; others = λ m other. get_or-set_other places n m x no_place other })

  pub own_place : place_at (slice_set front n x ++ behind) n ≡ x
  own_place = sym (ap (λ l. place_at l n) moved) ∙ get_or-set_same places n x no_place inside
