-- What a full board holds, and what its places take together, in whatever order it was filled; and that there is an order in which each place is ready.
use Rattle.std.specs.Prelude.{ℕ, ◌≡◌, ◌+◌, ◌-◌, ◌<◌, true, length, sum_by, All}
use Rattle.std.specs.List.{range_with_len}
use Rattle.field_basis.specs.Basis.{BasisModel}
use Rattle.field_basis.specs.Counts.{shifts_into, translations_into, pairs_of_target}
use Rattle.field_basis.specs.FieldPlaces.{AreAllMultipolePlaces, AreAllLocalPlaces, AreTargetBoxes}
use Rattle.quadtree.specs.TreeModel.{size}
use Rattle.row_board.specs.Board.{IsBoard}
use Rattle.row_board.specs.Names.{IsName, is_filled, needs}
use Rattle.row_board.specs.Parts.{BoardParts}
use Rattle.row_board.specs.declared.name.Name.{Name}
use Rattle.row_board.specs.declared.name.Name.TheVariants.{Up, Local, Value}
use Rattle.tree_field.specs.Lists.{TreeLists, AreTreeLists}
use Rattle.tree_field.specs.Work.{translations, pairs}

-- every place is filled
abbrev pub IsFull : BoardParts → Type 0
IsFull b = (name : Name) → IsName b name → is_filled b name ≡ true

-- all rows and radii are those of the field, zero where a cell has no source or no target, and so are the boxes, in the order of the list
pub record HoldsWholeField (P : ℕ) (b : BoardParts) : Type 0 where
  pub up_are : AreAllMultipolePlaces P b.basis.points b.basis.tree b.up
  pub local_are : AreAllLocalPlaces P b.basis b.local
  pub values_are : AreTargetBoxes P b.basis b.values

abbrev pub FullBoard : Type 0
FullBoard = (P : ℕ) (b : BoardParts) → IsBoard P b → IsFull b → HoldsWholeField P b

-- what the multipole rows and the local rows of all cells take together, and the boxes of all targets: the translations and pairs of the field
pub record TakesWorkOfField (b : BasisModel) (lists : TreeLists) : Type 0 where
  pub translations_are : sum_by (shifts_into b.points b.tree) (range_with_len 0 (size b.tree))
      + sum_by (translations_into b) (range_with_len 0 (size b.tree)) ≡ translations b.points lists
  pub pairs_are : sum_by (pairs_of_target b) (range_with_len 0 (length b.targets)) ≡ pairs b.points lists

abbrev pub FullWork : Type 0
FullWork =
    (P : ℕ) (b : BoardParts) (lists : TreeLists) → IsBoard P b
    → AreTreeLists b.basis.tree.grid b.basis.points b.basis.cap lists → TakesWorkOfField b.basis lists

-- what a place needs is a place of the board
abbrev pub NeedsAreNames : Type 0
NeedsAreNames = (P : ℕ) (b : BoardParts) (name : Name) → IsBoard P b → IsName b name → All (IsName b) (needs b name)

-- one order of all places: the multipole rows from the last cell to the first, the local rows from the first cell to the last, and then the boxes
abbrev pub turn_of : BoardParts → Name → ℕ
turn_of b (Up n) = size b.basis.tree - n
turn_of b (Local n) = size b.basis.tree + n
turn_of b (Value k) = size b.basis.tree + size b.basis.tree

-- in this order it comes before the place
abbrev pub NeedsComeBefore : Type 0
NeedsComeBefore = (P : ℕ) (b : BoardParts) (name : Name) → IsBoard P b → IsName b name → All (λ other. turn_of b other < turn_of b name) (needs b name)
