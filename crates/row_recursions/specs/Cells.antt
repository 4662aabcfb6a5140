-- Sides, doubled centres and quadrants of the program's cells, as the recursions take them, and the contributions of the program's points.
use Rattle.std.specs.Prelude.{ℕ, Bool, cond, ℤ, pos, negsuc}
use Rattle.exact_math.specs.Ends.{BoxEnds}
use Rattle.exact_math.specs.Gaussian.{Gaussian, gaussian}
use Rattle.cell_name.specs.Cell.{square}
use Rattle.cell_name.specs.Square.{Square, side}
use Rattle.cell_name.specs.declared.cell.Cell.{Cell}
use Rattle.cell_name.specs.declared.cell.Quadrant.{Quadrant}
use Rattle.points.specs.declared.Point.{Point}
use Rattle.points.specs.Points.{place, pole, dipole}
use Rattle.row_recursions.specs.Geometry.{doubled_centre, offset}
use Rattle.row_recursions.specs.Rows.{source_moment, far_source}

abbrev pub side_of : Cell → ℕ
side_of c = side (square c)

-- twice the centre
abbrev pub doubled_centre_of : Cell → Gaussian
doubled_centre_of c = doubled_centre (square c)

-- 1 or -1
abbrev pub sign : Bool → ℤ
sign b = cond b (pos 1) (negsuc 0)

-- 1 in the first part for the right half, in the second for the top half, and -1 for the other
abbrev pub quadrant_of : Quadrant → Gaussian
quadrant_of q = gaussian (sign q.right) (sign q.top)

-- the doubled offset of the place z from the centre
abbrev pub offset_from : Cell → Gaussian → Gaussian
offset_from c z = offset (square c) z

-- what a point in the cell adds to its multipole row
abbrev pub moments_in : Square → Point → ℕ → BoxEnds
moments_in c p k = source_moment (side c) (pole p.kind) (dipole p.kind) (offset c (place p)) k

-- what a point far from the cell adds to its local row
abbrev pub far_coefficients_in : Square → Point → ℕ → BoxEnds
far_coefficients_in c p l = far_source (side c) (pole p.kind) (dipole p.kind) (offset c (place p)) l
