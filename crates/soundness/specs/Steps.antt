-- What the sources, the children and the entries of a cell add to its rows, to its radius and to the box of a place, at order P:
-- one sum each, for whatever names them, with their
-- rows, cells, sources and weights given. The field is the recursion of these sums over a tree, and the rules of an accounting include them.
use Rattle.std.specs.Prelude.{ℕ, ◌+◌, List, fold, sum_by}
use Rattle.exact_math.specs.Ends.{BoxEnds, zero_box, add_box}
use Rattle.exact_math.specs.Gaussian.{Gaussian}
use Rattle.exact_math.specs.Sizes.{weight_at}
use Rattle.cell_name.specs.Square.{Square, side}
use Rattle.kernel_table.specs.Kernel.{kernel_entry}
use Rattle.near_field.specs.Pair.{pair_box}
use Rattle.points.specs.Points.{place, pole, dipole}
use Rattle.points.specs.declared.Point.{Point}
use Rattle.row_recursions.specs.Rows.{source_moment, shifted_up, converted, far_source, multipole_value}
use Rattle.truncation.specs.Tails.{pair_loss, single_loss}
use Rattle.soundness.specs.Squares.{offset, quadrant, sides_between}

-- the sum of the boxes of all members, from zero on
abbrev pub total_box : {A : Type 0} → (A → BoxEnds) → List A → BoxEnds
total_box f xs = fold (λ b x. add_box b (f x)) zero_box xs

abbrev pub total_row : {A : Type 0} → (A → ℕ → BoxEnds) → List A → ℕ → BoxEnds
total_row f xs k = total_box (λ x. f x k) xs

-- ---- from sources, which are points by `point`
module _ {X : Type 0} (point : X → Point) where
  -- their moments in a cell
  abbrev pub moments_of : Square → List X → ℕ → BoxEnds
  moments_of c xs = total_row (λ x. source_moment (side c) (pole (point x).kind) (dipole (point x).kind) (offset c (place (point x)))) xs

  -- how heavy they are
  abbrev pub weight_of : ℕ → List X → ℕ
  weight_of P xs = sum_by (λ x. weight_at P (pole (point x).kind) (dipole (point x).kind)) xs

  -- ---- what entries add, from the sources `xs` of each
  module _ {E : Type 0} (xs : E → List X) where
    -- X: to the local row of the cell b, as far sources
    abbrev pub x_rows : Square → List E → ℕ → BoxEnds
    x_rows b es = total_row (λ e. total_row (λ x. far_source (side b) (pole (point x).kind) (dipole (point x).kind) (offset b (place (point x)))) (xs e)) es

    -- U: to the box of a place, as pairs with it
    abbrev pub u_pairs : Gaussian → List E → BoxEnds
    u_pairs z es = total_box (λ e. total_box (λ x. pair_box z (point x)) (xs e)) es

-- ---- from the multipole rows of cells
module _ {E : Type 0} (cell : E → Square) (row : E → ℕ → BoxEnds) where
  -- children: their rows, shifted up
  abbrev pub child_rows : List E → ℕ → BoxEnds
  child_rows es = total_row (λ e. shifted_up (row e) (quadrant (cell e))) es

  module _ (P : ℕ) where
    -- V entries: their rows, converted for the cell b
    abbrev pub v_rows : Square → List E → ℕ → BoxEnds
    v_rows b es = total_row (λ e. converted P (kernel_entry (sides_between b (cell e))) (row e)) es

    -- W entries: the values of their rows at a place
    abbrev pub w_values : Gaussian → List E → BoxEnds
    w_values z es = total_box (λ e. multipole_value P (row e) (side (cell e)) (offset (cell e) z)) es

-- ---- the radius of a local row, in units of 2^-40
-- the parent's, and what the V and the X entries of a cell of the side s can lose by the weights of their sources
abbrev pub radius_of : {E : Type 0} → ℕ → (E → ℕ) → ℕ → ℕ → List E → List E → ℕ
radius_of P weight s above vs xs = above + (sum_by (λ e. pair_loss P (weight e) s) vs + sum_by (λ e. single_loss P (weight e) s) xs)
