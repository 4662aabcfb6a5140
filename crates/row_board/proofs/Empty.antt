-- A board with no place filled.
use Rattle.std.proofs.Common.{ℕ, ◌≡◌, List, length, get_or, false, refl, sym, ◌∙◌, subst, arith}
use Rattle.std.specs.Prelude.{All}
use Rattle.std.proofs.lemmas.Bool.{cases_lt, false≢true}
use Rattle.std.proofs.lemmas.List.{get_or_past}
use mathlib.Core.Logic.{⊎_elim}
use Rattle.exact_math.specs.Ends.{zero_box}
use Rattle.complex_box.specs.Box.{box_ends}
use Rattle.complex_box.specs.Rows.{at, zero_cbox, IsZero}
use Rattle.complex_box.specs.declared.CBox.{CBox}
use Rattle.field_basis.specs.Basis.{IsBasis}
use Rattle.field_basis.specs.FieldPlaces.{HasNoRow}
use Rattle.field_basis.specs.Place.{PlaceModel, no_place, place_at}
use Rattle.row_board.specs.Board.{IsBoard, IsZeroPlace, AreEmptyPlaces, NoneIsMarked}
use Rattle.row_board.specs.Names.{is_filled}
use Rattle.row_board.specs.Parts.{BoardParts}
use Rattle.row_board.specs.declared.name.Name.{Name}
use Rattle.row_board.specs.declared.name.Name.TheVariants.{Up, Local, Value}

-- what holds of each element, and of the default, holds of what is read
read_at : {X : Type 0} (p : X → Type 0) (xs : List X) (d : X) → p d → All p xs → (i : ℕ) → p (get_or xs i d)
read_at p xs d none h i = ⊎_elim (λ lt. h i d lt) (λ ge. subst p (sym (get_or_past xs i d ge)) none) (cases_lt i (length xs))

zero_at : (xs : List CBox) → All IsZero xs → (i : ℕ) → box_ends (at xs i) ≡ zero_box
zero_at xs h i = read_at IsZero xs zero_cbox refl h i

no_row : (P : ℕ) (places : List PlaceModel) → All (λ p. All IsZero p.row) places → All (λ p. p.radius ≡ 0) places → (n : ℕ) → HasNoRow P (place_at places n)
no_row P places rows radii n = record {
  row_is = λ k lt. zero_at (place_at places n).row (read_at (λ (p : PlaceModel). All IsZero p.row) places no_place (λ i d none. absurd (omega arith)) rows n) k;
  radius_is = read_at (λ (p : PlaceModel). p.radius ≡ 0) places no_place refl radii n;
}

module _ (b : BoardParts) (marks : NoneIsMarked b.basis b.has_up b.has_local b.has_value) where
  pub none_filled : (name : Name) → is_filled b name ≡ false
  none_filled (Up n) = read_at (λ mark. mark ≡ false) b.has_up false refl marks.up_marks.unset n
  none_filled (Local n) = read_at (λ mark. mark ≡ false) b.has_local false refl marks.local_marks.unset n
  none_filled (Value k) = read_at (λ mark. mark ≡ false) b.has_value false refl marks.value_marks.unset k

  module _ (P : ℕ) (basis : IsBasis P b.basis) (places : AreEmptyPlaces b.basis b.up b.local b.values) where
    all_zero : (name : Name) → IsZeroPlace P b name
    all_zero (Up n) = no_row P b.up places.up_rows places.up_radii n
    all_zero (Local n) = no_row P b.local places.local_rows places.local_radii n
    all_zero (Value k) = zero_at b.values places.boxes k

    pub empty_board : IsBoard P b
    empty_board = record {
      basis_is = basis;
      up_each = places.up_each;
      local_each = places.local_each;
      value_each = places.value_each;
      up_marks = marks.up_marks.len;
      local_marks = marks.local_marks.len;
      value_marks = marks.value_marks.len;
      named = λ name t. absurd (false≢true (sym (none_filled name) ∙ t));
      filled = λ name t. absurd (false≢true (sym (none_filled name) ∙ t));
      empty = λ name f. all_zero name;
    }
