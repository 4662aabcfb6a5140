-- How the squares of nodes lie to each other and to places.
use Rattle.std.specs.Prelude.{◌≡◌, ◌%◌, ◌*◌, ◌≤◌, ◌<◌, ◌==◌}
use Rattle.exact_math.specs.Gaussian.{Gaussian, gaussian}
use Rattle.cell_name.specs.Square.{Square, side, parent}
use Rattle.exact_math.specs.Within.{GaussianWithin, GaussianBeyond}
use Rattle.row_recursions.specs.Cells.{sign}
pub use Rattle.row_recursions.specs.Geometry.{doubled_centre, offset}
pub use Rattle.cell_name.specs.Apart.{sides_between}

-- the quadrant of a cell in its parent: 1 for the right and for the top half, -1 for the other
abbrev pub quadrant : Square → Gaussian
quadrant c = gaussian (sign (c.i % 2 == 1)) (sign (c.j % 2 == 1))

-- the cell d is a quarter of the cell c
pub record IsQuarterOf (d c : Square) : Type 0 where
  pub below_root : 0 < d.level
  pub in_grid : d.level ≤ d.grid
  pub parent_is : parent d ≡ c

-- the place lies in the closed square, which its doubled offset says
abbrev pub IsIn : Square → Gaussian → Type 0
IsIn c z = GaussianWithin (side c) (offset c z)

-- the place is a side or more from the closed square: a part of its offset from the centre is at least three half sides
abbrev pub IsFarFrom : Square → Gaussian → Type 0
IsFarFrom c z = GaussianBeyond (3 * side c) (offset c z)

-- two cells of one level whose centres are two sides or more apart in one direction
pub record CellsAreApart (b c : Square) : Type 0 where
  pub grid : b.grid ≡ c.grid
  pub level : b.level ≡ c.level
  pub apart : GaussianBeyond 2 (sides_between b c)
