-- How wide the parts of the box of a place in a leaf are, and the same in multiples of the smallest side.
use Rattle.std.proofs.Common.{ℕ, ◌≡◌, ◌+◌, ◌-◌, ◌*◌, ◌/◌, ◌<◌, ◌≤◌, List, [], ◌∷◌, length, get_or, ◌∙◌, arith}
use Rattle.std.proofs.Math.Nat.{mul-div-le, mul-le-mul_right}
use Rattle.std.proofs.lemmas.List.Elements.{All-weaker}
use Rattle.std.proofs.lemmas.List.Sums.{sum_by-cons}
use Rattle.std.specs.Prelude.{All, sum_by}
use Rattle.exact_math.specs.Ends.{BoxEnds, BoxEndsNarrow}
use Rattle.exact_math.specs.Gaussian.{Gaussian}
use Rattle.exact_math.proofs.Widths.{narrow-box}
use Rattle.cell_lists.specs.Entries.{IsEntry}
use Rattle.cell_name.specs.Square.{Square, side, Holds}
use Rattle.letters.specs.declared.Letter.TheVariants.{U, W}
use Rattle.near_field.specs.Pair.{pair_box}
use Rattle.near_field.proofs.PairSizes.{pair_box-narrow}
use Rattle.points.specs.declared.Point.{Point}
use Rattle.quadtree.specs.Tree.{AreInGrid, IsLeaf}
use Rattle.row_recursions.specs.Rows.{multipole_value, local_value}
use Rattle.row_recursions.specs.Widths.{RowNarrow}
use Rattle.row_recursions.proofs.Geometry.{held_places}
use Rattle.row_recursions.proofs.RowSizes.{power_positive}
use Rattle.row_recursions.proofs.RowWidths.{local_value_narrow}
use Rattle.soundness.specs.Computed.{total_box}
use Rattle.soundness.specs.Squares.{offset}
use Rattle.soundness.specs.Steps.{w_values, u_pairs}
use Rattle.tree_field.specs.Field.{sources_in, multipole_row, local_row}
use Rattle.tree_field.specs.Lists.{TreeLists, AreTreeLists}
use Rattle.tree_field.specs.Paths.{over_entries}
use Rattle.field_widths.proofs.SourceSums.{some_source}
use Rattle.field_widths.specs.Bound.{IsSmallestSide}
use Rattle.field_widths.specs.Laws.{source_count, multipole_width, MultipoleValuesNarrow}
use Rattle.field_widths.proofs.Losses.{sum_by-scaled, side_least}
use Rattle.field_widths.proofs.NarrowTotals.{total_box-narrow}

-- ---- numbers
-- s times a quotient by a number of at least s, and two units more
quotient_times : (s n x : ℕ) → s ≤ n → s * (x / n + 2) ≤ x + 2 * s
quotient_times s n x h =
    let a : n * (x / n) ≤ x = mul-div-le x n in
    let b : s * (x / n) ≤ n * (x / n) = mul-le-mul_right (x / n) h in
    omega (arith, a, b)

pub sum_by-constant : {A : Type 0} (k : ℕ) (xs : List A) → sum_by (λ x. k) xs ≡ length xs * k
sum_by-constant k [] = omega arith
sum_by-constant k (x ∷ xs) = sum_by-cons (λ x. k) x xs ∙ omega (arith, sum_by-constant k xs)

-- the value of a row that is k wide for each of n sources, for n of at least 1
row_value_times : (s t P n k : ℕ) → s ≤ t → 1 ≤ n → s * (P * (n * k + 2) / t + 2) ≤ n * (P * k + 2 * P + 2 * s)
row_value_times s t P n k h some =
    let a = quotient_times s t (P * (n * k + 2)) h in
    let b : 1 * P ≤ n * P = mul-le-mul_right P some in
    let c : 1 * s ≤ n * s = mul-le-mul_right s some in
    omega (arith, a, b, c)

-- ---- the local row
pub local_value_times : (P w s : ℕ) (b : Square) → 1 ≤ s → s ≤ side b → s * (P * (w + 2) / side b + 2) ≤ P * (w + 2) + 2 * s
local_value_times P w s b low h = quotient_times s (side b) (P * (w + 2)) h

pub local_value_narrow_here : (points : List Point) (cap P : ℕ) (lists : TreeLists) (w : ℕ) (b : Square) (z : Gaussian) → Holds b z.re z.im → RowNarrow P w (local_row points cap P lists b)
    → BoxEndsNarrow (P * (w + 2) / side b + 2) (local_value P (local_row points cap P lists b) (side b) (offset b z))
local_value_narrow_here points cap P lists w b z held row =
    local_value_narrow P w (side b) (offset b z) (local_row points cap P lists b) (power_positive (b.grid - b.level)) (held_places b z.re z.im held) row

-- ---- the pairs
-- each is at most one unit wide
pub u_pairs_narrow : (points : List Point) (lists : TreeLists) (b : Square) (z : Gaussian) → BoxEndsNarrow (over_entries points lists (λ p. 2) U b) (u_pairs (λ p. p) (sources_in points) z (lists.entries U b))
u_pairs_narrow points lists b z =
    total_box-narrow (λ c. total_box (pair_box z) (sources_in points c)) (λ c. sum_by (λ p. 2) (sources_in points c)) (lists.entries U b) (λ i d lt. of_cell (sources_in points (get_or (lists.entries U b) i d)))
  where
    of_cell : (xs : List Point) → BoxEndsNarrow (sum_by (λ p. 2) xs) (total_box (pair_box z) xs)
    of_cell xs = total_box-narrow (pair_box z) (λ p. 2) xs (λ i d lt. narrow-box (omega arith) (pair_box-narrow z (get_or xs i d)))

-- ---- the W entries
abbrev pub far_width : ℕ → List Point → ℕ → TreeLists → Square → ℕ
far_width grid points P lists b = sum_by (λ c. P * (multipole_width grid P (source_count points c) + 2) / side c + 2) (lists.entries W b)

module _ (grid : ℕ) (points : List Point) (cap P : ℕ) (lists : TreeLists) (positive : 0 < grid) (inside : AreInGrid grid points) (are : AreTreeLists grid points cap lists) where
  -- of one
  abbrev wide : Square → ℕ
  wide c = P * (multipole_width grid P (source_count points c) + 2) / side c + 2

  each : (b : Square) → IsLeaf grid points cap b → (Q : Square → Type 0) → ((c : Square) → IsEntry grid points cap W b c → Q c) → All Q (lists.entries W b)
  each b leaf Q h = All-weaker (IsEntry grid points cap W b) Q h (lists.entries W b) (are.entries_are W b leaf.in_tree).each

  pub w_values_narrow : MultipoleValuesNarrow → (b : Square) (z : Gaussian) → IsLeaf grid points cap b → Holds b z.re z.im
      → BoxEndsNarrow (far_width grid points P lists b) (w_values (λ c. c) (multipole_row points cap) P z (lists.entries W b))
  w_values_narrow values b z leaf held = total_box-narrow value wide (lists.entries W b)
      (each b leaf (λ c. BoxEndsNarrow (wide c) (value c)) (λ c e. values grid points cap P b c z positive inside e held))
    where
      value : Square → BoxEnds
      value c = multipole_value P (multipole_row points cap c) (side c) (offset c z)

  -- what a source adds, where s is the smallest side
  abbrev added : ℕ → Point → ℕ
  added s p = P * (2 * (P * P) + 2 * grid * P) + 2 * P + 2 * s

  pub far_width_times : (s : ℕ) → IsSmallestSide lists.cells s → (b : Square) → IsLeaf grid points cap b → s * far_width grid points P lists b ≤ over_entries points lists (added s) W b
  far_width_times s smallest b leaf = sum_by-scaled s wide (λ c. sum_by (added s) (sources_in points c)) (lists.entries W b)
      (each b leaf (λ c. s * wide c ≤ sum_by (added s) (sources_in points c)) one)
    where
      one : (c : Square) → IsEntry grid points cap W b c → s * wide c ≤ sum_by (added s) (sources_in points c)
      one c e =
          let a = row_value_times s (side c) P (source_count points c) (2 * (P * P) + 2 * grid * P) (side_least grid points cap lists s are smallest c e.pair.1) (some_source points c e.source) in
          let k = sum_by-constant (P * (2 * (P * P) + 2 * grid * P) + 2 * P + 2 * s) (sources_in points c) in
          omega (arith, a, k)
