-- Sums over the entries of one cell and letter: what is at most a multiple of the weight of each entry's sources is, summed up, at most that multiple of the weight of all points.
use Rattle.std.proofs.Common.{ℕ, ◌*◌, ◌≤◌, List, arith}
use Rattle.std.specs.Prelude.{All, sum_by}
use Rattle.std.proofs.Math.Nat.{mul-le-mul_left}
use Rattle.std.proofs.lemmas.List.Elements.{All-weaker}
use Rattle.std.proofs.lemmas.List.Sums.{sum_by-le-sum_by}
use Rattle.exact_math.specs.Ends.{BoxEnds, BoxEndsWithin}
use Rattle.complex_box.proofs.Sizes.{box_wider}
use Rattle.cell_name.specs.Square.{Square}
use Rattle.cell_lists.specs.Entries.{IsEntry}
use Rattle.letters.specs.declared.Letter.{Letter}
use Rattle.limits.proofs.Grids.{grid_positive}
use Rattle.points.specs.declared.Point.{Point}
use Rattle.points.specs.Limits.{weight64, total_weight}
use Rattle.quadtree.specs.Tree.{IsTreeCell}
use Rattle.row_recursions.specs.Sizes.{RowWithin}
use Rattle.soundness.specs.Computed.{total_box, total_row}
use Rattle.tree_field.specs.Field.{sources_in, weight_in}
use Rattle.tree_field.specs.Lists.{TreeLists}
use Rattle.tree_field.proofs.CellWeights.{weight64_in, weighs, weighs-light}
use Rattle.soundness.proofs.RowTotals.{total_box-within, total_row-within, wider, sum_by-times}
use Rattle.tree_field.specs.Sizes.{EntriesShareNoSource, IsLimited}

module _ (apart : EntriesShareNoSource) (points : List Point) (cap : ℕ) (lists : TreeLists) (limited : IsLimited points cap lists) (letter : Letter) (b : Square) (in_tree : IsTreeCell lists.grid points cap b) where
  abbrev cells : List Square
  cells = lists.entries letter b

  each : (Q : Square → Type 0) → ((c : Square) → IsEntry lists.grid points cap letter b c → Q c) → All Q cells
  each Q h = All-weaker (IsEntry lists.grid points cap letter b) Q h cells (limited.lists_are.entries_are letter b in_tree).each

  multiple : (m whole : ℕ) (w : Point → ℕ) → sum_by w points ≤ whole → sum_by (λ c. m * sum_by w (sources_in points c)) cells ≤ m * whole
  multiple m whole w light =
      let a = apart lists.grid points cap lists (grid_positive lists.grid limited.known_grid) limited.in_grid limited.lists_are letter b in_tree w in
      let e = sum_by-times m (λ c. sum_by w (sources_in points c)) cells in
      let h : m * sum_by (λ c. sum_by w (sources_in points c)) cells ≤ m * whole = mul-le-mul_left m (omega (arith, a, light)) in
      omega (arith, e, h)

  by_weight : (m : ℕ) → sum_by (λ c. m * weight64_in points c) cells ≤ m * total_weight points
  by_weight m = multiple m (total_weight points) weight64 (omega arith)

  pub total_row-entries : (P m : ℕ) (f : Square → ℕ → BoxEnds) → ((c : Square) → IsEntry lists.grid points cap letter b c → RowWithin P (m * weight64_in points c) (f c)) → RowWithin P (m * total_weight points) (total_row f cells)
  total_row-entries P m f h = wider P (sum_by (λ c. m * weight64_in points c) cells) (m * total_weight points) (total_row f cells) (by_weight m)
      (total_row-within P f (λ c. m * weight64_in points c) cells (each (λ c. RowWithin P (m * weight64_in points c) (f c)) h))

  pub total_box-entries : (m : ℕ) (f : Square → BoxEnds) → ((c : Square) → IsEntry lists.grid points cap letter b c → BoxEndsWithin (m * weight64_in points c) (f c)) → BoxEndsWithin (m * total_weight points) (total_box f cells)
  total_box-entries m f h = box_wider (sum_by (λ c. m * weight64_in points c) cells) (m * total_weight points) (total_box f cells) (by_weight m)
      (total_box-within f (λ c. m * weight64_in points c) cells (each (λ c. BoxEndsWithin (m * weight64_in points c) (f c)) h))

  -- by the weights at an order
  pub sum_by-entries : (P m : ℕ) (f : Square → ℕ) → P ≤ 32 → ((c : Square) → f c ≤ m * weight_in points P c) → sum_by f cells ≤ m * total_weight points
  sum_by-entries P m f few h =
      let a = sum_by-le-sum_by f (λ c. m * weight_in points P c) cells h in
      let d = multiple m (total_weight points) (weighs P) (weighs-light P points few) in
      omega (arith, a, d)
