-- The quarters of a cell.
use Rattle.std.specs.Prelude.{ℕ, ◌≡◌, ◌≤◌, ℤ, List, [], ◌∷◌}
use Rattle.cell_name.specs.declared.cell.Quadrant.{Quadrant}
use Rattle.cell_name.specs.Cell.{half_number}
use Rattle.cell_name.specs.Square.{Square, Holds, child}

-- the quarter in a quadrant of a cell
abbrev pub quarter : Square → Quadrant → Square
quarter c q = child c (half_number q.right) (half_number q.top)

-- the four quarters of a cell, ascending by column and row
abbrev pub quarters : Square → List Square
quarters c = child c 0 0 ∷ child c 0 1 ∷ child c 1 0 ∷ child c 1 1 ∷ []

-- a place of a cell lies in exactly one quarter of it
pub record LiesInOneChild (c : Square) (x y : ℤ) : Type 0 where
  pub right : ℕ
  pub top : ℕ
  pub right_at_most : right ≤ 1
  pub top_at_most : top ≤ 1
  pub held : Holds (child c right top) x y
  pub no_other : (right' top' : ℕ) → Holds (child c right' top') x y → (right' ≡ right) × (top' ≡ top)
