-- The one entry of a pair of leaves, by going down both chains of ancestors.
use Rattle.std.specs.Prelude.{ℕ, ◌≡◌, ◌≤◌}
use Rattle.cell_name.specs.Square.{Square, ancestor, Touches}
use Rattle.letters.specs.declared.Entry.{Entry}
use Rattle.quadtree.specs.TreeModel.{TreeModel, square_of}
use Rattle.cell_lists.specs.Entries.{IsEntry, NoOtherFor}
use Rattle.cell_lists.specs.Numbers.{OfEachList}

-- the ancestors of two cells, at a level of each, touch. No public contract cites it.
abbrev pub AncestorsTouch : Square → Square → ℕ → ℕ → Type 0
AncestorsTouch b c k l = Touches (ancestor b k) (ancestor c l)

-- `above` is the cell itself or one of its ancestors
pub record IsAncestor (above c : Square) : Type 0 where
  pub level_at_most : above.level ≤ c.level
  pub is_ancestor : above ≡ ancestor c above.level

-- the letter and the two cells are an entry of the tree
abbrev pub IsEntryOf : TreeModel → Entry → Type 0
IsEntryOf tree entry = OfEachList tree (λ points cap. IsEntry tree.grid points cap entry.letter (square_of tree entry.b) (square_of tree entry.c))

-- no other entry accounts for a target and a source that two leaves of the tree hold
abbrev pub IsOnlyEntry : TreeModel → ℕ → ℕ → Entry → Type 0
IsOnlyEntry tree b c entry =
    OfEachList tree (λ points cap.
    NoOtherFor tree.grid points cap (square_of tree b) (square_of tree c) entry.letter (square_of tree entry.b) (square_of tree entry.c))
