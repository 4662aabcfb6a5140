-- The cells of the quadtree on a grid of `grid` bits, which has 2 ^ grid whole places in each direction and its origin in the middle.
use Rattle.std.specs.Prelude.{ℕ, ◌+◌, ◌-◌, ◌*◌, ◌/◌, ◌^◌, ◌≤◌, ◌<◌, Bool, ◌&&◌, ℤ, pos, ◌+ℤ◌, ◌-ℤ◌, ◌≤ℤ◌, ◌<ℤ◌, int_le, int_lt, unsigned_abs}
pub use Rattle.limits.specs.Grid.{half, IsInGrid}

-- A cell by its name, with the bits of its grid: level 0 is the whole grid, and each level halves the side.
-- Column `i` counts from the west and row `j` from the south.
pub record Square : Type 0 where
  pub grid : ℕ
  pub level : ℕ
  pub i : ℕ
  pub j : ℕ

-- the cell that is the whole grid
abbrev pub root : ℕ → Square
root grid = record { grid = grid; level = 0; i = 0; j = 0 }

-- what stands past the last of some cells
abbrev pub no_square : Square
no_square = root 0

-- the side of the cells of a level: each level halves it
abbrev pub side_at : ℕ → ℕ → ℕ
side_at grid level = 2 ^ (grid - level)

abbrev pub side : Square → ℕ
side c = side_at c.grid c.level

abbrev pub corner_x : Square → ℤ
corner_x c = pos (c.i * side c) -ℤ pos (half c.grid)

abbrev pub corner_y : Square → ℤ
corner_y c = pos (c.j * side c) -ℤ pos (half c.grid)

-- twice the centre, which is whole
abbrev pub doubled_centre_x : Square → ℤ
doubled_centre_x c = (corner_x c +ℤ corner_x c) +ℤ pos (side c)

abbrev pub doubled_centre_y : Square → ℤ
doubled_centre_y c = (corner_y c +ℤ corner_y c) +ℤ pos (side c)

-- twice a place's offset from the centre
abbrev pub offset_x : Square → ℤ → ℤ
offset_x c x = (x +ℤ x) -ℤ doubled_centre_x c

abbrev pub offset_y : Square → ℤ → ℤ
offset_y c y = (y +ℤ y) -ℤ doubled_centre_y c

-- the half-open square has the place
pub record Holds (c : Square) (x y : ℤ) : Type 0 where
  pub west : corner_x c ≤ℤ x
  pub east : x <ℤ (corner_x c +ℤ pos (side c))
  pub south : corner_y c ≤ℤ y
  pub north : y <ℤ (corner_y c +ℤ pos (side c))

-- `Holds` as a test, by which the points of a cell are counted
abbrev pub holds_test : Square → ℤ → ℤ → Bool
holds_test c x y = int_le (corner_x c) x && int_lt x (corner_x c +ℤ pos (side c)) && int_le (corner_y c) y && int_lt y (corner_y c +ℤ pos (side c))

-- the closed square has the place
pub record ClosedHolds (c : Square) (x y : ℤ) : Type 0 where
  pub west : corner_x c ≤ℤ x
  pub east : x ≤ℤ (corner_x c +ℤ pos (side c))
  pub south : corner_y c ≤ℤ y
  pub north : y ≤ℤ (corner_y c +ℤ pos (side c))

-- the closed squares of two cells meet, by their corners: neither ends before the other begins
pub record Touches (b c : Square) : Type 0 where
  pub west : corner_x b ≤ℤ (corner_x c +ℤ pos (side c))
  pub east : corner_x c ≤ℤ (corner_x b +ℤ pos (side b))
  pub south : corner_y b ≤ℤ (corner_y c +ℤ pos (side c))
  pub north : corner_y c ≤ℤ (corner_y b +ℤ pos (side b))

-- the cell of a level that holds a place of the grid, by how far the place lies from the west and the south border
abbrev pub square_at : ℕ → ℕ → ℤ → ℤ → Square
square_at grid level x y = let s = side_at grid level in
    record { grid = grid; level = level; i = unsigned_abs (x +ℤ pos (half grid)) / s; j = unsigned_abs (y +ℤ pos (half grid)) / s }

-- the cell of the level above that has the cell as a quarter
abbrev pub parent : Square → Square
parent c = record { grid = c.grid; level = c.level - 1; i = c.i / 2; j = c.j / 2 }

-- the cell's ancestor at a level that is at most its own
abbrev pub ancestor : Square → ℕ → Square
ancestor c level = record { grid = c.grid; level = level; i = c.i / 2 ^ (c.level - level); j = c.j / 2 ^ (c.level - level) }

-- the quarter of the cell: the east half where `right` is 1, the north half where `top` is 1
abbrev pub child : Square → ℕ → ℕ → Square
child c right top = record { grid = c.grid; level = c.level + 1; i = 2 * c.i + right; j = 2 * c.j + top }
