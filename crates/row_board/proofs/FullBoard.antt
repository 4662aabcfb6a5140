-- A full board holds the field: what has a name is filled, and the row of a cell without a source, or without a target, is zero.
use Rattle.std.proofs.Common.{ℕ, ◌≡◌, ◌<◌, false, sym, ◌∙◌, arith}
use Rattle.std.proofs.lemmas.Bool.{cases_Bool, true≢false}
use mathlib.Core.Logic.{⊎_elim}
use Rattle.field_basis.proofs.Sizes.{inside}
use Rattle.field_basis.specs.FieldPlaces.{HasNoRow, IsMultipolePlace, IsLocalPlace}
use Rattle.field_basis.specs.Place.{PlaceModel, place_at}
use Rattle.quadtree.proofs.TreeChildren.{tree_cell_at}
use Rattle.quadtree.specs.TreeModel.{size, square_of, node_of}
use Rattle.tree_field.proofs.MultipoleRows.{multipole_row-zero}
use Rattle.tree_field.proofs.Program.{nodes_of_tree}
use Rattle.row_board.specs.Board.{IsBoard, IsOfField, IsZeroPlace}
use Rattle.row_board.specs.Laws.{IsFull, HoldsWholeField}
use Rattle.row_board.specs.Names.{IsName, is_filled}
use Rattle.row_board.specs.Parts.{BoardParts}
use Rattle.row_board.specs.declared.name.Name.{Name}
use Rattle.row_board.specs.declared.name.Name.TheVariants.{Up, Local, Value}
use Rattle.row_board.proofs.Values.{values_are}

module _ (P : ℕ) (b : BoardParts) (is : IsBoard P b) (full : IsFull b) where
  field_of : (name : Name) → IsName b name → IsOfField P b name
  field_of name named = is.filled name (full name named)

  -- what has no name isn't filled
  zero_of : (name : Name) → (IsName b name → ⊥) → IsZeroPlace P b name
  zero_of name none = is.empty name (⊎_elim (λ t. absurd (none (is.named name t))) (λ f. f) (cases_Bool (is_filled b name)))

  module _ (n : ℕ) (lt : n < size b.basis.tree) where
    without_source : (node_of b.basis.tree n).has_source ≡ false → (place : PlaceModel) → HasNoRow P place → IsMultipolePlace P b.basis.points b.basis.tree n place
    without_source none place zero = record {
      row_is = λ cap is_tree k h.
          let source = (nodes_of_tree b.basis.tree b.basis.points cap (inside P b.basis is.basis_is) is_tree n lt).source in
          let cell = tree_cell_at b.basis.tree b.basis.points cap n is_tree lt in
          zero.row_is k h ∙ sym (multipole_row-zero b.basis.points cap (square_of b.basis.tree n) (omega (arith, cell.level_in_grid, cell.of_grid)) (sym source ∙ none) k);
      radius_is = zero.radius_is;
    }

    multipole_place : IsMultipolePlace P b.basis.points b.basis.tree n (place_at b.up n)
    multipole_place = ⊎_elim
        (λ t. field_of (Up n) (lt, t))
        (λ f. without_source f (place_at b.up n) (zero_of (Up n) (λ named. true≢false (sym named.1 ∙ f))))
        (cases_Bool (node_of b.basis.tree n).has_source)

    without_target : (node_of b.basis.tree n).has_target ≡ false → (place : PlaceModel) → HasNoRow P place → IsLocalPlace P b.basis n place
    without_target none place zero = record {
      with_target = λ t lists are. absurd (true≢false (sym ((is.basis_is.is_tree.nodes_are n lt).target.1 t) ∙ none));
      without = λ no. zero;
    }

    local_place : IsLocalPlace P b.basis n (place_at b.local n)
    local_place = ⊎_elim
        (λ t. field_of (Local n) (lt, t))
        (λ f. without_target f (place_at b.local n) (zero_of (Local n) (λ named. true≢false (sym named.1 ∙ f))))
        (cases_Bool (node_of b.basis.tree n).has_target)

  pub holds_field : HoldsWholeField P b
  holds_field = record {
    up_are = record { as_many = is.up_each; each = multipole_place };
    local_are = record { as_many = is.local_each; each = local_place };
    values_are = values_are P b is (λ k lt. full (Value k) lt);
  }
