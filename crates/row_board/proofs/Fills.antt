-- A board in which one place was filled.
use Rattle.std.proofs.Common.{ℕ, ◌≡◌, ◌≢◌, ◌<◌, inl, inr, ◌⊎◌, List, length, get_or, Bool, true, false, refl, sym, ap, ◌∙◌, subst, arith}
use Rattle.std.proofs.Math.ListN.{set}
use Rattle.std.proofs.lemmas.Bool.{cases_eq, false≢true}
use Rattle.std.proofs.lemmas.List.{get_or-set_same, get_or-set_other, length-set}
use mathlib.Core.Logic.{⊎_elim}
use Rattle.exact_math.specs.Ends.{zero_box}
use Rattle.complex_box.specs.Box.{box_ends}
use Rattle.complex_box.specs.Rows.{zero_cbox}
use Rattle.complex_box.specs.declared.CBox.{CBox}
use Rattle.field_basis.specs.FieldPlaces.{HasNoRow, IsLocalPlace, IsMultipolePlace, IsTargetBox}
use Rattle.field_basis.specs.Place.{PlaceModel, place_at, OthersStay}
use Rattle.row_board.specs.Board.{IsBoard, IsOfField, IsZeroPlace, IsSamePlace, OtherPlacesStay}
use Rattle.row_board.specs.Names.{IsName, is_filled}
use Rattle.row_board.specs.Parts.{BoardParts}
use Rattle.row_board.specs.declared.name.Name.{Name}
use Rattle.row_board.specs.declared.name.Name.TheVariants.{Up, Local, Value}

-- what filling a place leaves
pub record Fills (P : ℕ) (name : Name) (old new : BoardParts) : Type 0 where
  pub board : IsBoard P new
  pub filled : is_filled new name ≡ true
  pub others : OtherPlacesStay name old new

same_or_other : (a b : Name) → (a ≡ b) ⊎ (a ≢ b)
same_or_other (Up m) (Up n) = ⊎_elim (λ e. inl (ap Up e)) (λ ne. inr (λ e. ne (cc))) (cases_eq m n)
same_or_other (Local m) (Local n) = ⊎_elim (λ e. inl (ap Local e)) (λ ne. inr (λ e. ne (cc))) (cases_eq m n)
same_or_other (Value m) (Value n) = ⊎_elim (λ e. inl (ap Value e)) (λ ne. inr (λ e. ne (cc))) (cases_eq m n)
same_or_other (Up m) (Local n) = inr (λ e. cc)
same_or_other (Up m) (Value n) = inr (λ e. cc)
same_or_other (Local m) (Up n) = inr (λ e. cc)
same_or_other (Local m) (Value n) = inr (λ e. cc)
same_or_other (Value m) (Up n) = inr (λ e. cc)
same_or_other (Value m) (Local n) = inr (λ e. cc)

-- a board with one place filled
abbrev pub with_up : BoardParts → ℕ → List PlaceModel → BoardParts
with_up b n up = record b { up = up; has_up = set b.has_up n true }

abbrev pub with_local : BoardParts → ℕ → List PlaceModel → BoardParts
with_local b n local = record b { local = local; has_local = set b.has_local n true }

abbrev pub with_value : BoardParts → ℕ → CBox → BoardParts
with_value b k value = record b { values = set b.values k value; has_value = set b.has_value k true }

-- a board with other places and marks
abbrev with_places : BoardParts → List PlaceModel → List PlaceModel → List CBox → List Bool → List Bool → List Bool → BoardParts
with_places b up local values has_up has_local has_value = record b { up = up; local = local; values = values; has_up = has_up; has_local = has_local; has_value = has_value }

-- of which there are as many
record AreAsMany (old new : BoardParts) : Type 0 where
  up : length new.up ≡ length old.up
  local : length new.local ≡ length old.local
  values : length new.values ≡ length old.values
  has_up : length new.has_up ≡ length old.has_up
  has_local : length new.has_local ≡ length old.has_local
  has_value : length new.has_value ≡ length old.has_value

module _ (P : ℕ) (old : BoardParts) (up local : List PlaceModel) (values : List CBox) (has_up has_local has_value : List Bool) where
  abbrev new : BoardParts
  new = with_places old up local values has_up has_local has_value

  -- ---- what holds of a place that stays
  still_named : (name : Name) → IsName old name → IsName new name
  still_named (Up n) h = h
  still_named (Local n) h = h
  still_named (Value k) h = h

  still_of_field : (name : Name) → IsOfField P old name → IsSamePlace old new name → IsOfField P new name
  still_of_field (Up n) h s = subst (IsMultipolePlace P old.basis.points old.basis.tree n) (sym s) h
  still_of_field (Local n) h s = subst (IsLocalPlace P old.basis n) (sym s) h
  still_of_field (Value k) h s = subst (IsTargetBox P old.basis k) (sym s) h

  still_zero : (name : Name) → IsZeroPlace P old name → IsSamePlace old new name → IsZeroPlace P new name
  still_zero (Up n) h s = subst (HasNoRow P) (sym s) h
  still_zero (Local n) h s = subst (HasNoRow P) (sym s) h
  still_zero (Value k) h s = subst (λ (v : CBox). box_ends v ≡ zero_box) (sym s) h

  module _ (is : IsBoard P old) (name : Name) (named : IsName old name) (as_many : AreAsMany old new) (filled : is_filled new name ≡ true) (row : IsOfField P new name) (marks : (other : Name) → other ≢ name → is_filled new other ≡ is_filled old other)
      (rows : (other : Name) → other ≢ name → IsSamePlace old new other) where
    now_named : (other : Name) → is_filled new other ≡ true → IsName new other
    now_named other t = ⊎_elim (λ e. subst (IsName new) (sym e) (still_named name named)) (λ ne. still_named other (is.named other (sym (marks other ne) ∙ t))) (same_or_other other name)

    now_filled : (other : Name) → is_filled new other ≡ true → IsOfField P new other
    now_filled other t = ⊎_elim (λ e. subst (IsOfField P new) (sym e) row) (λ ne. still_of_field other (is.filled other (sym (marks other ne) ∙ t)) (rows other ne)) (same_or_other other name)

    now_empty : (other : Name) → is_filled new other ≡ false → IsZeroPlace P new other
    now_empty other f = ⊎_elim (λ e. absurd (false≢true (sym f ∙ ap (is_filled new) e ∙ filled))) (λ ne. still_zero other (is.empty other (sym (marks other ne) ∙ f)) (rows other ne)) (same_or_other other name)

    fills : Fills P name old new
    fills = record {
      board = record {
        basis_is = is.basis_is;
        up_each = as_many.up ∙ is.up_each;
        local_each = as_many.local ∙ is.local_each;
        value_each = as_many.values ∙ is.value_each;
        up_marks = as_many.has_up ∙ is.up_marks;
        local_marks = as_many.has_local ∙ is.local_marks;
        value_marks = as_many.has_value ∙ is.value_marks;
        named = now_named;
        filled = now_filled;
        empty = now_empty;
      };
      filled = filled;
      others = record { basis = refl; marks = marks; rows = rows };
    }

-- ---- one mark is set
marked : (marks : List Bool) (n : ℕ) → n < length marks → get_or (set marks n true) n false ≡ true
marked marks n lt = get_or-set_same marks n true false lt

unmarked : (marks : List Bool) (n m : ℕ) → m ≢ n → get_or (set marks n true) m false ≡ get_or marks m false
unmarked marks n m ne = get_or-set_other marks n m true false ne

module _ (P : ℕ) (old : BoardParts) (is : IsBoard P old) where
  -- a multipole row
  module _ (n : ℕ) (up : List PlaceModel) (stay : OthersStay n old.up up) where
    up_marks : (other : Name) → other ≢ Up n → is_filled (with_up old n up) other ≡ is_filled old other
    up_marks (Up m) ne = unmarked old.has_up n m (λ e. ne (ap Up e))
    up_marks (Local m) ne = refl
    up_marks (Value k) ne = refl

    up_rows : (other : Name) → other ≢ Up n → IsSamePlace old (with_up old n up) other
    up_rows (Up m) ne = stay.others m (λ e. ne (ap Up e))
    up_rows (Local m) ne = refl
    up_rows (Value k) ne = refl

    pub up_fills : IsName old (Up n) → IsMultipolePlace P old.basis.points old.basis.tree n (place_at up n) → Fills P (Up n) old (with_up old n up)
    up_fills named row =
        fills P old up old.local old.values (set old.has_up n true) old.has_local old.has_value is (Up n) named
        (record { up = stay.as_many; local = refl; values = refl; has_up = length-set old.has_up n true; has_local = refl; has_value = refl })
        (marked old.has_up n (omega (arith, named.0, is.up_marks))) row up_marks up_rows

  -- a local row and its radius
  module _ (n : ℕ) (local : List PlaceModel) (stay : OthersStay n old.local local) where
    local_marks : (other : Name) → other ≢ Local n → is_filled (with_local old n local) other ≡ is_filled old other
    local_marks (Up m) ne = refl
    local_marks (Local m) ne = unmarked old.has_local n m (λ e. ne (ap Local e))
    local_marks (Value k) ne = refl

    local_rows : (other : Name) → other ≢ Local n → IsSamePlace old (with_local old n local) other
    local_rows (Up m) ne = refl
    local_rows (Local m) ne = stay.others m (λ e. ne (ap Local e))
    local_rows (Value k) ne = refl

    pub local_fills : IsName old (Local n) → IsLocalPlace P old.basis n (place_at local n) → Fills P (Local n) old (with_local old n local)
    local_fills named row =
        fills P old old.up local old.values old.has_up (set old.has_local n true) old.has_value is (Local n) named
        (record { up = refl; local = stay.as_many; values = refl; has_up = refl; has_local = length-set old.has_local n true; has_value = refl })
        (marked old.has_local n (omega (arith, named.0, is.local_marks))) row local_marks local_rows

  -- the box of a target
  module _ (k : ℕ) (value : CBox) where
    value_marks : (other : Name) → other ≢ Value k → is_filled (with_value old k value) other ≡ is_filled old other
    value_marks (Up m) ne = refl
    value_marks (Local m) ne = refl
    value_marks (Value j) ne = unmarked old.has_value k j (λ e. ne (ap Value e))

    value_rows : (other : Name) → other ≢ Value k → IsSamePlace old (with_value old k value) other
    value_rows (Up m) ne = refl
    value_rows (Local m) ne = refl
    value_rows (Value j) ne = get_or-set_other old.values k j value zero_cbox (λ e. ne (ap Value e))

    pub value_fills : IsName old (Value k) → IsTargetBox P old.basis k value → Fills P (Value k) old (with_value old k value)
    value_fills named row =
        fills P old old.up old.local (set old.values k value) old.has_up old.has_local (set old.has_value k true) is (Value k) named
        (record { up = refl; local = refl; values = length-set old.values k value; has_up = refl; has_local = refl; has_value = length-set old.has_value k true })
        (marked old.has_value k (omega (arith, named, is.value_marks)))
        (subst (IsTargetBox P old.basis k) (sym (get_or-set_same old.values k value zero_cbox (omega (arith, named, is.value_each)))) row) value_marks value_rows

  -- ---- the places and marks as they are kept
  pub up_kept : (n : ℕ) (was up kept : List PlaceModel) → was ≡ old.up → (length up ≡ length was → kept ≡ up) → IsName old (Up n) → OthersStay n was up → IsMultipolePlace P old.basis.points old.basis.tree n (place_at up n) → Fills P (Up n) old (with_up old n kept)
  up_kept n was up kept here same named stay row =
      subst (λ (l : List PlaceModel). Fills P (Up n) old (with_up old n l)) (sym (same stay.as_many)) (up_fills n up (subst (λ (l : List PlaceModel). OthersStay n l up) here stay) named row)

  pub local_kept : (n : ℕ) (was local kept : List PlaceModel) → was ≡ old.local → (length local ≡ length was → kept ≡ local) → IsName old (Local n) → OthersStay n was local → IsLocalPlace P old.basis n (place_at local n) → Fills P (Local n) old (with_local old n kept)
  local_kept n was local kept here same named stay row =
      subst (λ (l : List PlaceModel). Fills P (Local n) old (with_local old n l)) (sym (same stay.as_many)) (local_fills n local (subst (λ (l : List PlaceModel). OthersStay n l local) here stay) named row)

-- what filling leaves of a board that is seen otherwise
pub others_seen : (name : Name) (old seen new : BoardParts) → old ≡ seen → OtherPlacesStay name old new → OtherPlacesStay name seen new
others_seen name old seen new e h = subst (λ (b : BoardParts). OtherPlacesStay name b new) e h
