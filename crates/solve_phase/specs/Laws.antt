-- A full board and the field of a solve.
use Rattle.std.specs.Prelude.{ℕ, ◌≡◌, ◌<◌, map}
use Rattle.complex_box.specs.Box.{box_ends}
use Rattle.field_basis.specs.Place.{place_at}
use Rattle.quadtree.specs.TreeModel.{squares, size}
use Rattle.row_board.specs.Board.{IsBoard}
use Rattle.row_board.specs.Laws.{IsFull}
use Rattle.row_board.specs.Parts.{BoardParts}
use Rattle.row_recursions.specs.Rows.{row_of, AreSameRows}
use Rattle.field_solve.specs.Field.{IsSolved}
use Rattle.field_solve.specs.Parts.{FieldParts}

-- the same cells, for each of them the same first P boxes of its multipole row and of its local row and the same radius, and the same boxes of the targets
pub record HoldsSame (P : ℕ) (b : BoardParts) (f : FieldParts) : Type 0 where
  pub cells : squares b.basis.tree ≡ squares f.basis.tree
  pub up : (n : ℕ) → n < size b.basis.tree → AreSameRows P (row_of (place_at b.up n).row) (row_of (place_at f.up n).row)
  pub local : (n : ℕ) → n < size b.basis.tree → AreSameRows P (row_of (place_at b.local n).row) (row_of (place_at f.local n).row)
  pub radii : (n : ℕ) → n < size b.basis.tree → (place_at b.local n).radius ≡ (place_at f.local n).radius
  pub values : map box_ends b.values ≡ map box_ends f.values

-- a board and a field of the same points with the same capacity, order and grid
abbrev pub FullBoardIsSolved : Type 0
FullBoardIsSolved =
    (P : ℕ) (b : BoardParts) (f : FieldParts) → IsBoard P b → IsFull b → IsSolved b.basis.points b.basis.cap P f
    → f.basis.tree.grid ≡ b.basis.tree.grid → HoldsSame P b f
