-- Which cells a walk of the tree has to meet. No public contract cites these.
use Rattle.std.specs.Prelude.{ℕ, ◌≡◌, ◌<◌, ◌≤◌, ◌⊎◌, IsTrue, List, ◌++◌, length, slice_index, All, Contains}
use Rattle.cell_name.specs.Square.{parent, Touches}
use Rattle.quadtree.specs.TreeModel.{TreeModel, size, square_of, node_of}
use Rattle.cell_lists.specs.ListAt.{list_at}

-- numbers of cells of the tree
abbrev pub AreNumbers : TreeModel → List ℕ → Type 0
AreNumbers tree cells = All (λ c. c < size tree) cells

-- `c` is a quarter of `n`
pub record IsChild (tree : TreeModel) (n c : ℕ) : Type 0 where
  pub in_range : c < size tree
  pub below_root : 0 < (square_of tree c).level
  pub parent_is : parent (square_of tree c) ≡ square_of tree n

-- `c` touches `b`, and is of its level or a leaf above it
pub record IsColleague (tree : TreeModel) (b c : ℕ) : Type 0 where
  pub in_range : c < size tree
  pub touch : Touches (square_of tree b) (square_of tree c)
  pub reached : ((square_of tree c).level ≡ (square_of tree b).level)
      ⊎ (IsTrue (node_of tree c).is_leaf × ((square_of tree c).level < (square_of tree b).level))

-- `c` is of the level of `b` and their parents touch, or it is a leaf above `b` that touches the parent of `b`
pub record IsAround (tree : TreeModel) (b c : ℕ) : Type 0 where
  pub in_range : c < size tree
  pub below_root : 0 < (square_of tree b).level
  pub reached :
      (((square_of tree c).level ≡ (square_of tree b).level) × Touches (parent (square_of tree b)) (parent (square_of tree c)))
      ⊎ (IsTrue (node_of tree c).is_leaf × ((square_of tree c).level < (square_of tree b).level) × Touches (parent (square_of tree b)) (square_of tree c))

-- `c` is deeper than `b`, and its parent touches `b`
pub record IsBelow (tree : TreeModel) (b c : ℕ) : Type 0 where
  pub in_range : c < size tree
  pub deeper : (square_of tree b).level < (square_of tree c).level
  pub parent_touches : Touches (parent (square_of tree c)) (square_of tree b)

-- the walk starts at the whole grid
pub record AreRoots (tree : TreeModel) (b c : ℕ) : Type 0 where
  pub in_range : c < size tree
  pub first_root : (square_of tree b).level ≡ 0
  pub second_root : (square_of tree c).level ≡ 0

-- what the walk of `b` meets before it goes below `b`
abbrev pub IsMet : TreeModel → ℕ → ℕ → Type 0
IsMet tree b c = AreRoots tree b c ⊎ IsAround tree b c

-- the cells of the level of `b` that touch it are among those found
abbrev pub HasTouching : TreeModel → ℕ → List ℕ → Type 0
HasTouching tree b found =
    (c : ℕ) → c < size tree → (square_of tree c).level ≡ (square_of tree b).level → Touches (square_of tree c) (square_of tree b) → Contains found c

-- those of the found cells that touch `b` are kept
abbrev pub KeepsTouching : TreeModel → ℕ → List ℕ → List ℕ → Type 0
KeepsTouching tree b found kept = (c : ℕ) → Contains found c → Touches (square_of tree c) (square_of tree b) → Contains kept c

-- a list for each of the first cells, with its colleagues among it
pub record AreColleagues (tree : TreeModel) (lists : List (List ℕ)) (count : ℕ) : Type 0 where
  pub as_many : length lists ≡ count
  pub numbers : (b : ℕ) → b < count → AreNumbers tree (list_at lists b)
  pub whole : (b c : ℕ) → b < count → IsColleague tree b c → Contains (list_at lists b) c

-- a number stands among those from a place on
pub record IsFrom (start : ℕ) (cells : List ℕ) (c : ℕ) : Type 0 where
  pub at : ℕ
  pub from : start ≤ at
  pub inside : at < length cells
  pub here : slice_index cells at ≡ c

-- numbers were appended, the quarters of the cells at the places from `start` up to `end` that touch `b` among them
pub record AddsChildren (tree : TreeModel) (b start end : ℕ) (was now : List ℕ) : Type 0 where
  pub more : List ℕ
  pub grown : now ≡ was ++ more
  pub numbers : AreNumbers tree now
  pub added : (k c : ℕ) → start ≤ k → k < end → Touches (square_of tree (slice_index was k)) (square_of tree b)
      → IsChild tree (slice_index was k) c → Contains more c

-- the walk below `b` has come to a level: what it met stays, the last met cells are those of the level that touch `b`, and all above are met
pub record MeetsBelow (tree : TreeModel) (b level start : ℕ) (was now : List ℕ) : Type 0 where
  pub kept : (c : ℕ) → Contains was c → Contains now c
  pub start_inside : start ≤ length now
  pub numbers : AreNumbers tree now
  pub last : (c : ℕ) → c < size tree → (square_of tree c).level ≡ level → Touches (square_of tree c) (square_of tree b) → IsFrom start now c
  pub above : (c : ℕ) → IsBelow tree b c → (square_of tree c).level ≤ level → Contains now c
