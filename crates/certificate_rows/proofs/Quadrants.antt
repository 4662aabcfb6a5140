-- The quadrant of a cell in its parent.
use Rattle.std.proofs.Common.{ℕ, ◌%◌, ◌≡◌, Bool, true, false, ap, ap₂}
use Rattle.std.specs.Prelude.{◌==◌}
use Rattle.exact_math.specs.Gaussian.{gaussian}
use Rattle.cell_name.specs.Cell.{half_number}
use Rattle.cell_name.specs.Quarters.{quarter}
use Rattle.cell_name.specs.Square.{Square, parent}
use Rattle.cell_name.specs.declared.cell.Quadrant.{Quadrant}
use Rattle.cell_name.proofs.Quarters.{right_of_parent, top_of_parent}
use Rattle.row_recursions.specs.Cells.{sign, quadrant_of}
use Rattle.soundness.specs.Squares.{quadrant}

half_is : (b : Bool) (n : ℕ) → half_number b ≡ n → b ≡ (n == 1)
half_is true n e = ap (λ m. m == 1) e
half_is false n e = ap (λ m. m == 1) e

pub quadrant_is : (c : Square) (q : Quadrant) → quarter (parent c) q ≡ c → quadrant_of q ≡ quadrant c
quadrant_is c q e = ap₂ (λ x y. gaussian (sign x) (sign y)) (half_is q.right (c.i % 2) (right_of_parent c q e)) (half_is q.top (c.j % 2) (top_of_parent c q e))
