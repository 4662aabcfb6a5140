-- How large the local rows of the field are: a level adds at most a multiple of the weight of all points.
use Rattle.std.proofs.Common.{ℕ, ◌≡◌, ◌+◌, ◌-◌, ◌*◌, ◌^◌, ◌≤◌, zero, suc, List, refl, sym, subst, ◌∙◌, arith}
use Rattle.std.specs.Prelude.{All, sum_by}
use Rattle.std.proofs.Math.Nat.{mul-le-mul_right}
use Rattle.std.proofs.lemmas.List.Elements.{All-weaker}
use Rattle.exact_math.specs.Ends.{BoxEndsWithin, add_box}
use Rattle.complex_box.proofs.Sizes.{box_wider, add_box_within, zero_within}
use Rattle.kernel_table.specs.Kernel.{IsKernelDistance, kernel_entry}
use Rattle.cell_name.specs.Square.{Square, side, parent}
use Rattle.cell_name.proofs.Cells.{Touches-sym}
use Rattle.cell_lists.specs.Entries.{IsPair}
use Rattle.letters.specs.declared.Letter.TheVariants.{V, X, W}
use Rattle.limits.specs.Limits.{widest_grid, most_multipole, most_local}
use Rattle.limits.proofs.Grids.{grid_positive, within_widest}
use Rattle.points.specs.declared.Point.{Point}
use Rattle.points.specs.Limits.{weight64, total_weight}
use Rattle.exact_math.specs.Sizes.{abs_gaussian}
use Rattle.exact_math.proofs.Orders.{order_bounds}
use Rattle.points.specs.Points.{place, pole, dipole}
use Rattle.quadtree.specs.Tree.{IsTreeCell}
use Rattle.quadtree.proofs.Parents.{IsTreeCell-parent}
use Rattle.row_recursions.specs.Rows.{converted, shifted_down}
use Rattle.row_recursions.specs.Sizes.{RowWithin}
use Rattle.row_recursions.proofs.ConvertedSizes.{converted_within}
use Rattle.row_recursions.proofs.Geometry.{pairs_of_cells, far_places}
use Rattle.row_recursions.proofs.RowSizes.{far_source_within, shifted_down_within, power_positive}
use Rattle.soundness.specs.Computed.{total_row}
use Rattle.soundness.specs.Squares.{offset, quadrant, sides_between, IsFarFrom}
use Rattle.tree_field.specs.Field.{sources_in, multipole_row, local_row}
use Rattle.tree_field.specs.Lists.{TreeLists}
use Rattle.tree_field.proofs.LocalRows.{local_row-root, local_row-below}
use Rattle.tree_field.proofs.CellSources.{IsHeld, sources_held}
use Rattle.tree_field.proofs.CellWeights.{weight64_in, weight64_in-light}
use Rattle.tree_field.proofs.EntrySums.{total_row-entries}
use Rattle.tree_field.proofs.MultipoleSizes.{heavier, unit_square, multipole_row-within}
use Rattle.tree_field.proofs.GridLimits.{multipole_limit, local_limit}
use Rattle.soundness.proofs.RowTotals.{total_row-within, wider, sum_by-times}
use Rattle.tree_field.specs.Sizes.{EntriesShareNoSource, IsLimited, RowSizes}
use Rattle.row_recursions.specs.Cells.{far_coefficients_in}
use Rattle.soundness.specs.Steps.{v_rows, x_rows}

-- ---- far sources
far_within : (P : ℕ) (b : Square) (p : Point) → P ≤ 32 → IsFarFrom b (place p) → RowWithin P (2 ^ 40 * weight64 p) (far_coefficients_in b p)
far_within P b p few far l lt = box_wider _ (2 ^ 40 * weight64 p) _ (heavier (suc l) (abs_gaussian (pole p.kind)) (abs_gaussian (dipole p.kind)) (omega arith))
    (far_source_within (side b) (pole p.kind) (dipole p.kind) (offset b (place p)) l (power_positive (b.grid - b.level)) far)

far_total : (P : ℕ) (b : Square) (xs : List Point) → P ≤ 32 → All (λ p. IsFarFrom b (place p)) xs → RowWithin P (2 ^ 40 * sum_by weight64 xs) (total_row (far_coefficients_in b) xs)
far_total P b xs few far = subst (λ n. RowWithin P n (total_row (far_coefficients_in b) xs)) (sum_by-times (2 ^ 40) weight64 xs)
    (total_row-within P (far_coefficients_in b) (λ p. 2 ^ 40 * weight64 p) xs (All-weaker (λ p. IsFarFrom b (place p)) (λ p. RowWithin P (2 ^ 40 * weight64 p) (far_coefficients_in b p)) (λ p f. far_within P b p few f) xs far))

-- ---- a row converted
converted_by : (P w : ℕ) (b c : Square) (cap : ℕ) (points : List Point) → P ≤ 32 → IsKernelDistance (sides_between b c) → RowWithin P (2 ^ 40 * w) (multipole_row points cap c)
    → RowWithin P (3 * 2 ^ 39 * w) (converted P (kernel_entry (sides_between b c)) (multipole_row points cap c))
converted_by P w b c cap points few distance h = wider P (3 * (2 ^ 39 * w)) (3 * 2 ^ 39 * w) (converted P (kernel_entry (sides_between b c)) (multipole_row points cap c)) (omega arith)
    (converted_within P (2 ^ 39 * w) (sides_between b c) (multipole_row points cap c) few distance (wider P (2 ^ 40 * w) (2 * (2 ^ 39 * w)) (multipole_row points cap c) (omega arith) h))

-- ---- levels
one_level_more : (n v x : ℕ) → n * (v + x) + (v + x) ≤ suc n * (v + x)
one_level_more n v x = omega arith

all_levels : (n w : ℕ) → n ≤ widest_grid → n * (3 * 2 ^ 39 * w + 2 ^ 40 * w) ≤ 2 ^ 46 * w
all_levels n w h = let m = mul-le-mul_right (3 * 2 ^ 39 * w + 2 ^ 40 * w) h in omega (arith, m)

module _ (apart : EntriesShareNoSource) (points : List Point) (cap P : ℕ) (lists : TreeLists) (few : P ≤ 32) (limited : IsLimited points cap lists) where
  abbrev from_pairs : ℕ
  from_pairs = 3 * 2 ^ 39 * total_weight points

  abbrev from_far : ℕ
  from_far = 2 ^ 40 * total_weight points

  converted_rows-within : (b : Square) → IsTreeCell lists.grid points cap b → RowWithin P from_pairs (v_rows (λ c. c) (multipole_row points cap) P b (lists.entries V b))
  converted_rows-within b in_tree = total_row-entries apart points cap lists limited V b in_tree P (3 * 2 ^ 39) (λ c. converted P (kernel_entry (sides_between b c)) (multipole_row points cap c)) (λ c e. one c e.pair)
    where
      one : (c : Square) → IsPair lists.grid points cap V b c → RowWithin P (3 * 2 ^ 39 * weight64_in points c) (converted P (kernel_entry (sides_between b c)) (multipole_row points cap c))
      one c pair =
          let other = pair.1 in
          converted_by P (weight64_in points c) b c cap points few
          (pairs_of_cells b c (in_tree.of_grid ∙ sym other.of_grid) pair.2.same_level pair.2.apart pair.2.parents_touch).kernel
          (multipole_row-within P points cap c (omega arith) (omega (arith, other.level_in_grid, other.of_grid)))

  far_rows-within : (b : Square) → IsTreeCell lists.grid points cap b → RowWithin P from_far (x_rows (λ p. p) (sources_in points) b (lists.entries X b))
  far_rows-within b in_tree = total_row-entries apart points cap lists limited X b in_tree P (2 ^ 40) (λ c. total_row (far_coefficients_in b) (sources_in points c)) (λ c e. one c e.pair)
    where
      one : (c : Square) → IsPair lists.grid points cap W c b → RowWithin P (2 ^ 40 * weight64_in points c) (total_row (far_coefficients_in b) (sources_in points c))
      one c pair =
          let other = pair.0.in_tree in
          far_total P b (sources_in points c) few (All-weaker (IsHeld c) (λ p. IsFarFrom b (place p))
          (λ p held. far_places c b p.x p.y (other.of_grid ∙ sym in_tree.of_grid) (omega (arith, pair.2.deeper)) (omega (arith, in_tree.level_in_grid, in_tree.of_grid)) (λ t. pair.2.apart (Touches-sym c b t)) held)
          (sources_in points c) (sources_held points c))

  -- a row of the level n
  level_within : (n : ℕ) (b : Square) → b.level ≡ n → IsTreeCell lists.grid points cap b → RowWithin P (n * (from_pairs + from_far)) (local_row points cap P lists b)
  level_within zero b e in_tree k lt = subst (BoxEndsWithin (0 * (from_pairs + from_far))) (sym (local_row-root points cap P lists b e k)) (zero_within (0 * (from_pairs + from_far)))
  level_within (suc n) b e in_tree k lt =
      let up = IsTreeCell-parent lists.grid points cap b (grid_positive lists.grid limited.known_grid) limited.in_grid in_tree (omega arith) in
      subst (BoxEndsWithin (suc n * (from_pairs + from_far))) (sym (local_row-below points cap P lists b (omega arith) k))
      (box_wider (n * (from_pairs + from_far) + (from_pairs + from_far)) (suc n * (from_pairs + from_far)) _ (one_level_more n from_pairs from_far)
      (add_box_within (n * (from_pairs + from_far)) (from_pairs + from_far) (shifted_down P (local_row points cap P lists (parent b)) (quadrant b) k) (add_box (v_rows (λ c. c) (multipole_row points cap) P b (lists.entries V b) k) (x_rows (λ p. p) (sources_in points) b (lists.entries X b) k))
      (shifted_down_within P (n * (from_pairs + from_far)) (quadrant b) (local_row points cap P lists (parent b)) (unit_square b) (level_within n (parent b) (omega arith) up) k lt)
      (add_box_within from_pairs from_far (v_rows (λ c. c) (multipole_row points cap) P b (lists.entries V b) k) (x_rows (λ p. p) (sources_in points) b (lists.entries X b) k) (converted_rows-within b in_tree k lt) (far_rows-within b in_tree k lt))))

  pub local_row-within : (b : Square) → IsTreeCell lists.grid points cap b → RowWithin P (2 ^ 46 * total_weight points) (local_row points cap P lists b)
  local_row-within b in_tree =
      wider P (b.level * (from_pairs + from_far)) (2 ^ 46 * total_weight points) (local_row points cap P lists b)
      (all_levels b.level (total_weight points) (omega (arith, in_tree.level_in_grid, (within_widest lists.grid limited.known_grid).bits))) (level_within b.level b refl in_tree)

pub row_sizes : EntriesShareNoSource → RowSizes
row_sizes apart points cap P lists order limited c in_tree =
    let few = order_bounds P order in
    record {
      multipole = wider P (2 ^ 40 * weight64_in points c) (most_multipole lists.grid) (multipole_row points cap c)
          (multipole_limit lists.grid (weight64_in points c) limited.known_grid (omega (arith, weight64_in-light points c, limited.light)))
          (multipole_row-within P points cap c (omega arith) (omega (arith, in_tree.level_in_grid, in_tree.of_grid)));
      local = wider P (2 ^ 46 * total_weight points) (most_local lists.grid) (local_row points cap P lists c) (local_limit lists.grid (total_weight points) limited.known_grid limited.light)
          (local_row-within apart points cap P lists (omega arith) limited c in_tree);
    }
