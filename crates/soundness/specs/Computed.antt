-- What the method computes at a node from what is given at others, at order P.
use Rattle.std.specs.Prelude.{ℕ, zero, suc, ◌+◌, pos, List, sum_by}
use Rattle.exact_math.specs.Ends.{BoxEnds, zero_box, add_box, widen_box}
use Rattle.exact_math.specs.Gaussian.{Gaussian}
use Rattle.cell_name.specs.Square.{Square, side}
use Rattle.letters.specs.declared.Entry.{Entry}
use Rattle.letters.specs.declared.Letter.TheVariants.{U, V, W, X}
use Rattle.points.specs.declared.Point.{Point}
use Rattle.row_recursions.specs.Rows.{shifted_down, local_value}
use Rattle.truncation.specs.Tails.{single_loss}
use Rattle.soundness.specs.Squares.{offset, quadrant}
use Rattle.soundness.specs.Accounts.{LeafSource, LeafTarget, Accounting, children, sources_under, entries_of}
pub use Rattle.soundness.specs.Steps.{total_box, total_row}
use Rattle.soundness.specs.Steps.{moments_of, weight_of, child_rows, v_rows, x_rows, w_values, u_pairs, radius_of}

-- the point of a source
abbrev pub point_of : LeafSource → Point
point_of x = x.point

module _ (A : Accounting) where
  -- cell, row and sources of the c of an entry
  abbrev pub cell_of : Entry → Square
  cell_of e = A.cell e.c

  abbrev pub row_of_entry : Entry → ℕ → BoxEnds
  row_of_entry e = A.multipole e.c

  abbrev pub sources_of_entry : Entry → List LeafSource
  sources_of_entry e = sources_under A e.c

  -- ---- multipole rows: of a leaf from its sources, and of another node from its children's
  abbrev pub computed_leaf_row : ℕ → ℕ → BoxEnds
  computed_leaf_row n = moments_of point_of (A.cell n) (sources_under A n)

  abbrev pub shifted_rows : ℕ → ℕ → BoxEnds
  shifted_rows n = child_rows A.cell A.multipole (children A n)

module _ (P : ℕ) (A : Accounting) where
  -- ---- local rows: the parent's brought down, the V entries converted, and the sources of the X entries
  abbrev pub brought_down : ℕ → ℕ → BoxEnds
  brought_down zero k = zero_box
  brought_down (suc n) k = shifted_down P (A.local (A.parent (suc n))) (quadrant (A.cell (suc n))) k

  abbrev pub converted_rows : ℕ → ℕ → BoxEnds
  converted_rows n = v_rows (cell_of A) (row_of_entry A) P (A.cell n) (entries_of A V n)

  abbrev pub far_rows : ℕ → ℕ → BoxEnds
  far_rows n = x_rows point_of (sources_of_entry A) (A.cell n) (entries_of A X n)

  abbrev pub computed_local_row : ℕ → ℕ → BoxEnds
  computed_local_row n k = add_box (brought_down n k) (add_box (converted_rows n k) (far_rows n k))

  -- ---- radii: what the entries can lose, in units of 2^-40
  abbrev pub weight_under : ℕ → ℕ
  weight_under n = weight_of point_of P (sources_under A n)

  abbrev pub weight_of_entry : Entry → ℕ
  weight_of_entry e = weight_under e.c

  abbrev pub radius_above : ℕ → ℕ
  radius_above zero = 0
  radius_above (suc n) = A.radius (A.parent (suc n))

  abbrev pub computed_local_radius : ℕ → ℕ
  computed_local_radius n = radius_of P weight_of_entry (side (A.cell n)) (radius_above n) (entries_of A V n) (entries_of A X n)

  -- ---- the box of a target: the value of its leaf's local row, those of the W entries, and the pairs of the U entries
  abbrev pub local_at : ℕ → Gaussian → BoxEnds
  local_at n t = local_value P (A.local n) (side (A.cell n)) (offset (A.cell n) t)

  abbrev pub multipoles_at : ℕ → Gaussian → BoxEnds
  multipoles_at n t = w_values (cell_of A) (row_of_entry A) P t (entries_of A W n)

  abbrev pub pairs_at : ℕ → Gaussian → BoxEnds
  pairs_at n t = u_pairs point_of (sources_of_entry A) t (entries_of A U n)

  abbrev pub target_radius : ℕ → ℕ
  target_radius n = A.radius n + sum_by (λ e. single_loss P (weight_of_entry e) (side (A.cell e.c))) (entries_of A W n)

  -- widened by what all its entries can lose
  abbrev pub computed_target_box : LeafTarget → BoxEnds
  computed_target_box t = widen_box (add_box (local_at t.leaf t.place) (add_box (multipoles_at t.leaf t.place) (pairs_at t.leaf t.place))) (pos (target_radius t.leaf))
