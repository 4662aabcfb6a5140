-- What a place needs stands in a board where it is filled.
use Rattle.std.proofs.Common.{ℕ, ◌≡◌, ◌<◌, ◌∷◌, List, length, map, true, ap, ◌∙◌, sym, subst, arith}
use Rattle.std.specs.Prelude.{Contains}
use Rattle.std.proofs.lemmas.Bool.{cases_eq}
use Rattle.std.proofs.lemmas.List.Elements.{All-contains, All-tail}
use mathlib.Core.Logic.{⊎_elim}
use Rattle.cell_lists.proofs.CellNumbers.{first_level}
use Rattle.cell_lists.specs.ListAt.{list_at}
use Rattle.field_basis.proofs.Sizes.{inside}
use Rattle.field_basis.proofs.Trees.{some_tree, tree_of_basis}
use Rattle.field_basis.specs.Basis.{BasisModel, target_leaf}
use Rattle.field_basis.specs.FieldPlaces.{AreMultipolePlaces, HasLocalPlace, IsMultipolePlace}
use Rattle.letters.specs.declared.Letter.TheVariants.{V}
use Rattle.field_basis.specs.Place.{PlaceModel, place_at}
use Rattle.points.specs.declared.Point.{Point}
use Rattle.exact_math.proofs.Lists.{All-from_members, Contains-into_map}
use Rattle.quadtree.specs.TreeModel.{size, square_of, node_of}
use Rattle.tree_field.specs.Program.{source_children}
use Rattle.row_board.specs.Board.{IsBoard}
use Rattle.row_board.specs.Names.{is_filled, needs, AreFilled}
use Rattle.row_board.specs.Parts.{BoardParts}
use Rattle.row_board.specs.declared.name.Name.TheVariants.{Up, Local, Value}
use Rattle.row_board.proofs.Missing.{needs_below}

module _ (P : ℕ) (b : BoardParts) (is : IsBoard P b) where
  rows_of_filled : (cells : List ℕ) → AreFilled b (map Up cells) → AreMultipolePlaces P b.basis.points b.basis.tree b.up cells
  rows_of_filled cells h = All-from_members (λ n. (n < length b.up) × IsMultipolePlace P b.basis.points b.basis.tree n (place_at b.up n)) cells (λ n m.
      let filled = All-contains (λ name. is_filled b name ≡ true) (map Up cells) (Up n) h (Contains-into_map Up cells n m) in
      let named = is.named (Up n) filled in
      (omega (arith, named.0, is.up_each), is.filled (Up n) filled))

  row_of_filled : (n : ℕ) → is_filled b (Local n) ≡ true → HasLocalPlace P b.basis b.local n
  row_of_filled n filled = let named = is.named (Local n) filled in record { in_range = omega (arith, named.0, is.local_each); place_is = is.filled (Local n) filled }

  -- ---- for a multipole row, of a basis that is seen otherwise
  module _ (basis : BasisModel) (points : List Point) (same : basis ≡ b.basis) (read : points ≡ basis.points) where
    pub quarters_stand : (n : ℕ) (places : List PlaceModel) → places ≡ b.up → AreFilled b (needs b (Up n)) → AreMultipolePlaces P points basis.tree places (source_children basis.tree n)
    quarters_stand n places up ready =
        subst (λ (l : List Point). AreMultipolePlaces P l basis.tree places (source_children basis.tree n)) (sym read)
        (subst (λ (l : List PlaceModel). AreMultipolePlaces P basis.points basis.tree l (source_children basis.tree n)) (sym up)
        (subst (λ (s : BasisModel). AreMultipolePlaces P s.points s.tree b.up (source_children s.tree n)) (sym same) (rows_of_filled (source_children b.basis.tree n) ready)))

    pub row_stands : (n : ℕ) (place : PlaceModel) → IsMultipolePlace P points basis.tree n place → IsMultipolePlace P b.basis.points b.basis.tree n place
    row_stands n place row =
        subst (λ (s : BasisModel). IsMultipolePlace P s.points s.tree n place) same (subst (λ (l : List Point). IsMultipolePlace P l basis.tree n place) read row)

  -- ---- for a local row
  module _ (n : ℕ) (ready : AreFilled b (needs b (Local n))) where
    below : (n ≡ 0 → ⊥) → AreFilled b (Local (node_of b.basis.tree n).parent ∷ map Up (list_at b.basis.lists.v n))
    below ne = subst (AreFilled b) (needs_below b n ne) ready

    pub parent_stands : 0 < n → HasLocalPlace P b.basis b.local (node_of b.basis.tree n).parent
    parent_stands lo = row_of_filled (node_of b.basis.tree n).parent (below (λ e. omega arith) 0 (Local (node_of b.basis.tree n).parent) (omega arith))

    -- the root's V list is empty
    none_of_root : n < size b.basis.tree → n ≡ 0 → (m : ℕ) → Contains (list_at b.basis.lists.v n) m → ⊥
    none_of_root lt e m h =
        let list = is.basis_is.lists_are.each b.basis.points b.basis.cap (inside P b.basis is.basis_is) is.basis_is.is_tree V n lt in
        let entry = (list.exact m (All-contains (λ c. c < size b.basis.tree) (list_at b.basis.lists.v n) m list.numbers h)).0 h in
        let root : (square_of b.basis.tree n).level ≡ 0 = ap (λ j. (square_of b.basis.tree j).level) e ∙ first_level b.basis.tree (some_tree b.basis.points b.basis.tree (tree_of_basis P b.basis is.basis_is)) (omega arith) in
        omega (arith, entry.pair.2.below_root, root)

    pub far_stand : n < size b.basis.tree → AreMultipolePlaces P b.basis.points b.basis.tree b.up (list_at b.basis.lists.v n)
    far_stand lt = ⊎_elim
        (λ e. All-from_members (λ m. (m < length b.up) × IsMultipolePlace P b.basis.points b.basis.tree m (place_at b.up m)) (list_at b.basis.lists.v n) (λ m h. absurd (none_of_root lt e m h)))
        (λ ne. rows_of_filled (list_at b.basis.lists.v n) (All-tail (λ name. is_filled b name ≡ true) (Local (node_of b.basis.tree n).parent) (map Up (list_at b.basis.lists.v n)) (below ne)))
        (cases_eq n 0)

  -- ---- for the box of a target
  module _ (k : ℕ) (ready : AreFilled b (needs b (Value k))) where
    pub leaf_stands : HasLocalPlace P b.basis b.local (target_leaf b.basis k)
    leaf_stands = row_of_filled (target_leaf b.basis k) (ready 0 (Local (target_leaf b.basis k)) (omega arith))

    pub leaf_far_stand : AreMultipolePlaces P b.basis.points b.basis.tree b.up (list_at b.basis.lists.w (target_leaf b.basis k))
    leaf_far_stand = rows_of_filled (list_at b.basis.lists.w (target_leaf b.basis k)) (All-tail (λ name. is_filled b name ≡ true) (Local (target_leaf b.basis k)) (map Up (list_at b.basis.lists.w (target_leaf b.basis k))) ready)
