-- What of the rows that are needed is missing.
use Rattle.std.proofs.Common.{ℕ, ◌≡◌, ◌<◌, List, [], ◌∷◌, length, get_or, map, Bool, cond, true, false, refl, sym, ap, ◌∙◌, arith}
use Rattle.std.specs.Prelude.{All}
use Rattle.std.proofs.lemmas.Bool.{ne_eqb}
use Rattle.std.proofs.lemmas.List.{get_or_default, map-append}
use Rattle.std.proofs.lemmas.List.Elements.{All-cons, All-map}
use Rattle.letters.specs.declared.Letter.{Letter}
use Rattle.cell_lists.specs.EntryLists.{lists_of}
use Rattle.cell_lists.specs.ListAt.{list_at}
use Rattle.field_basis.proofs.Sizes.{inside}
use Rattle.field_basis.specs.Basis.{BasisModel, IsBasis}
use Rattle.quadtree.specs.TreeModel.{size, node_of}
use Rattle.row_board.specs.Names.{is_filled, needs, AreFilled, IsFirstMissing}
use Rattle.row_board.specs.Parts.{BoardParts}
use Rattle.row_board.specs.Search.{AreMarked, IsFirstUnmarked}
use Rattle.row_board.specs.declared.name.Name.{Name}
use Rattle.row_board.specs.declared.name.Name.TheVariants.{Up, Local}

module _ (b : BoardParts) where
  pub up_filled : (cells : List ℕ) → AreMarked b.has_up cells → AreFilled b (map Up cells)
  up_filled cells h = All-map (λ name. is_filled b name ≡ true) Up cells h

  pub up_missing : (cells : List ℕ) (n : ℕ) → IsFirstUnmarked b.has_up cells n → IsFirstMissing b (map Up cells) (Up n)
  up_missing cells n h = record { before = map Up h.before; behind = map Up h.behind; split = ap (map Up) h.split ∙ map-append Up h.before (n ∷ h.behind); filled = up_filled h.before h.marked; is_missing = h.unmarked }

  pub first_one : (x : Name) (names : List Name) → is_filled b x ≡ false → IsFirstMissing b (x ∷ names) x
  first_one x names f = record { before = []; behind = names; split = refl; filled = λ k d lt. absurd (omega arith); is_missing = f }

  pub later_one : (x : Name) (names : List Name) (missing : Name) → is_filled b x ≡ true → IsFirstMissing b names missing → IsFirstMissing b (x ∷ names) missing
  later_one x names missing t h = record { before = x ∷ h.before; behind = h.behind; split = ap (λ l. x ∷ l) h.split; filled = All-cons (λ name. is_filled b name ≡ true) x h.before t h.filled; is_missing = h.is_missing }

  pub all_filled : (x : Name) (names : List Name) → is_filled b x ≡ true → AreFilled b names → AreFilled b (x ∷ names)
  all_filled x names t h = All-cons (λ name. is_filled b name ≡ true) x names t h

  -- a mark that was read
  pub local_mark : (inside : BoardParts) (n : ℕ) (mark : Bool) → inside ≡ b → length inside.has_local ≡ size inside.basis.tree → n < size b.basis.tree → mark ≡ get_or inside.has_local n mark → is_filled b (Local n) ≡ mark
  local_mark inside n mark view len lt e =
      let trees = ap (λ (v : BoardParts). size v.basis.tree) view in
      ap (λ (v : BoardParts). get_or v.has_local n false) (sym view) ∙ get_or_default inside.has_local n false mark (omega (arith, trees, len, lt)) ∙ sym e

  -- a cell below the root
  pub needs_below : (n : ℕ) → (n ≡ 0 → ⊥) → needs b (Local n) ≡ Local (node_of b.basis.tree n).parent ∷ map Up (list_at b.basis.lists.v n)
  needs_below n ne = ap (λ t. cond t [] (Local (node_of b.basis.tree n).parent ∷ map Up (list_at b.basis.lists.v n))) (ne_eqb n 0 ne)

-- the basis of a board that is seen otherwise
pub same_basis : (basis : BasisModel) (inside now : BoardParts) → basis ≡ inside.basis → inside ≡ now → basis ≡ now.basis
same_basis basis inside now here view = here ∙ ap (λ (b : BoardParts). b.basis) view

-- lists and targets of a basis
module _ (P : ℕ) (b : BasisModel) (is : IsBasis P b) where
  pub listed : (letter : Letter) (n : ℕ) → n < size b.tree → n < length (lists_of b.lists letter)
  listed letter n lt = omega (arith, is.lists_are.as_many letter)

  pub numbers : (letter : Letter) (n : ℕ) → n < size b.tree → All (λ c. c < size b.tree) (list_at (lists_of b.lists letter) n)
  numbers letter n lt = (is.lists_are.each b.points b.cap (inside P b is) is.is_tree letter n lt).numbers

  -- a position that was read
  pub target_read : (k target : ℕ) → k < length b.targets → target ≡ get_or b.targets k target → get_or b.targets k 0 ≡ target
  target_read k target lt e = get_or_default b.targets k 0 target lt ∙ sym e
