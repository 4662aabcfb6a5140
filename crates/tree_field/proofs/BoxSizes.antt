-- How large the boxes of the targets are.
use Rattle.std.proofs.Common.{ℕ, ◌+◌, ◌-◌, ◌*◌, ◌^◌, ◌≤◌, List, get_or, ◌∙◌, sym, subst, arith, pos}
use Rattle.std.specs.Prelude.{sum_by}
use Rattle.std.proofs.Math.Nat.{mul-le-mul_right}
use Rattle.std.proofs.lemmas.Int.{ints}
use Rattle.exact_math.specs.Ends.{BoxEndsWithin, add_box, BoxEnds}
use Rattle.exact_math.specs.Gaussian.{Gaussian}
use Rattle.exact_math.specs.Within.{Within}
use Rattle.exact_math.proofs.Orders.{order_bounds}
use Rattle.complex_box.proofs.Sizes.{box_wider, add_box_within, widen_box_within}
use Rattle.cell_name.specs.Square.{Square, side}
use Rattle.cell_name.proofs.Cells.{Touches-sym}
use Rattle.letters.specs.declared.Letter.TheVariants.{U, W}
use Rattle.near_field.specs.Pair.{pair_box}
use Rattle.near_field.proofs.PairSizes.{pair_box-within}
use Rattle.limits.specs.Limits.{most_box}
use Rattle.limits.proofs.Grids.{grid_positive}
use Rattle.points.specs.declared.Point.{Point}
use Rattle.points.specs.Limits.{weight64, total_weight}
use Rattle.points.specs.Points.{place}
use Rattle.quadtree.specs.Tree.{IsLeaf}
use Rattle.quadtree.proofs.Distinct.{Contains-filter}
use Rattle.row_recursions.specs.Rows.{multipole_value, local_value}
use Rattle.row_recursions.proofs.Geometry.{held_places, far_places}
use Rattle.row_recursions.proofs.RowSizes.{local_value_within, multipole_value_within, power_positive}
use Rattle.soundness.specs.Computed.{total_box}
use Rattle.soundness.specs.Squares.{offset}
use Rattle.tree_field.specs.Field.{sources_in, targets, multipole_row, leaf_at, local_row, box_in, target_box, weight_in, local_radius}
use Rattle.tree_field.specs.Lists.{TreeLists}
use Rattle.tree_field.proofs.Leaves.{leaf_is, leaf_holds}
use Rattle.exact_math.proofs.Lists.{All-from_members}
use Rattle.tree_field.proofs.CellSources.{IsHeld}
use Rattle.tree_field.proofs.CellWeights.{weight64_in}
use Rattle.tree_field.proofs.EntrySums.{total_box-entries}
use Rattle.tree_field.proofs.GridLimits.{box_limit}
use Rattle.tree_field.proofs.LocalSizes.{local_row-within}
use Rattle.tree_field.proofs.MultipoleSizes.{multipole_row-within}
use Rattle.tree_field.proofs.Radii.{local_radius-within, multipoles_lose}
use Rattle.soundness.proofs.RowTotals.{total_box-within, sum_by-times}
use Rattle.tree_field.specs.Sizes.{EntriesShareNoSource, IsLimited, BoxSizes}
use Rattle.truncation.specs.Tails.{single_loss}
use Rattle.soundness.specs.Steps.{w_values, u_pairs}
use Rattle.cell_lists.specs.Entries.{IsPair}

-- the pairs of a place and some sources
pairs_within : (z : Gaussian) (xs : List Point) → BoxEndsWithin (2 ^ 40 * sum_by weight64 xs) (total_box (pair_box z) xs)
pairs_within z xs = subst (λ n. BoxEndsWithin n (total_box (pair_box z) xs)) (sum_by-times (2 ^ 40) weight64 xs) (total_box-within (pair_box z) (λ p. 2 ^ 40 * weight64 p) xs (λ i d lt. pair_box-within z (get_or xs i d)))

values_of : (P w : ℕ) → P * (2 ^ 40 * w) ≤ P * 2 ^ 40 * w
values_of P w = omega arith

-- all parts of a box together
all_parts : (P w : ℕ) → P ≤ 32 → P * (2 ^ 46 * w) + (P * 2 ^ 40 * w + 2 ^ 40 * w) + (2 ^ 46 * w + 2 ^ 40 * w) ≤ 3 * 2 ^ 50 * w
all_parts P w h =
    let a = mul-le-mul_right (2 ^ 40 * w) h in
    let b = mul-le-mul_right (2 ^ 46 * w) h in
    omega (arith, a, b)

number_within : (m n : ℕ) → m ≤ n → Within n (pos m)
number_within m n h = record { above = omega (arith, ints); below = omega (arith, ints) }

module _ (apart : EntriesShareNoSource) (points : List Point) (cap P : ℕ) (lists : TreeLists) (few : P ≤ 32) (limited : IsLimited points cap lists) where
  -- at a place in a leaf
  module _ (b : Square) (t : Point) (leaf : IsLeaf lists.grid points cap b) (held : IsHeld b t) where
    abbrev z : Gaussian
    z = place t

    -- the parts of its box
    abbrev value : BoxEnds
    value = local_value P (local_row points cap P lists b) (side b) (offset b z)

    abbrev far : BoxEnds
    far = w_values (λ c. c) (multipole_row points cap) P z (lists.entries W b)

    abbrev near : BoxEnds
    near = u_pairs (λ p. p) (sources_in points) z (lists.entries U b)

    abbrev lost : ℕ
    lost = local_radius points cap P lists b + sum_by (λ c. single_loss P (weight_in points P c) (side c)) (lists.entries W b)

    local_value-within : BoxEndsWithin (P * (2 ^ 46 * total_weight points)) value
    local_value-within = local_value_within P (2 ^ 46 * total_weight points) (side b) (offset b z) (local_row points cap P lists b) (power_positive (b.grid - b.level)) (held_places b t.x t.y held)
        (local_row-within apart points cap P lists few limited b leaf.in_tree)

    multipole_values-within : BoxEndsWithin (P * 2 ^ 40 * total_weight points) far
    multipole_values-within = total_box-entries apart points cap lists limited W b leaf.in_tree (P * 2 ^ 40) (λ c. multipole_value P (multipole_row points cap c) (side c) (offset c z)) (λ c e. one c e.pair)
      where
        one : (c : Square) → IsPair lists.grid points cap W b c → BoxEndsWithin (P * 2 ^ 40 * weight64_in points c) (multipole_value P (multipole_row points cap c) (side c) (offset c z))
        one c pair =
            let other = pair.1 in
            let low : c.level ≤ c.grid = omega (arith, other.level_in_grid, other.of_grid) in
            box_wider (P * (2 ^ 40 * weight64_in points c)) (P * 2 ^ 40 * weight64_in points c) _ (values_of P (weight64_in points c))
            (multipole_value_within P (2 ^ 40 * weight64_in points c) (side c) (offset c z) (multipole_row points cap c) (power_positive (c.grid - c.level))
            (far_places b c t.x t.y (leaf.in_tree.of_grid ∙ sym other.of_grid) (omega (arith, pair.2.deeper)) low (λ w. pair.2.apart (Touches-sym b c w)) held)
            (multipole_row-within P points cap c (omega arith) low))

    pairs-within : BoxEndsWithin (2 ^ 40 * total_weight points) near
    pairs-within = total_box-entries apart points cap lists limited U b leaf.in_tree (2 ^ 40) (λ c. total_box (pair_box z) (sources_in points c)) (λ c e. pairs_within z (sources_in points c))

    radius-within : lost ≤ 2 ^ 46 * total_weight points + 2 ^ 40 * total_weight points
    radius-within =
        let a = local_radius-within apart points cap P lists few limited b leaf.in_tree in
        let s = multipoles_lose apart points cap P lists few limited b leaf.in_tree in
        omega (arith, a, s)

    abbrev in_rows : ℕ
    in_rows = P * (2 ^ 46 * total_weight points) + (P * 2 ^ 40 * total_weight points + 2 ^ 40 * total_weight points)

    abbrev in_radius : ℕ
    in_radius = 2 ^ 46 * total_weight points + 2 ^ 40 * total_weight points

    pub box_in-within : BoxEndsWithin (3 * 2 ^ 50 * total_weight points) (box_in points cap P lists b z)
    box_in-within = box_wider (in_rows + in_radius) (3 * 2 ^ 50 * total_weight points) _ (all_parts P (total_weight points) few)
        (widen_box_within in_rows in_radius
        (add_box value (add_box far near)) (pos lost)
        (add_box_within (P * (2 ^ 46 * total_weight points)) (P * 2 ^ 40 * total_weight points + 2 ^ 40 * total_weight points) value (add_box far near) local_value-within
        (add_box_within (P * 2 ^ 40 * total_weight points) (2 ^ 40 * total_weight points) far near multipole_values-within pairs-within))
        (number_within lost in_radius radius-within))

pub box_sizes : EntriesShareNoSource → BoxSizes
box_sizes apart points cap P lists order limited =
    let few = order_bounds P order in
    let positive = grid_positive lists.grid limited.known_grid in
    All-from_members (λ t. BoxEndsWithin (most_box lists.grid) (target_box points cap P lists (place t))) (targets points) (λ t h.
    let listed = (Contains-filter _ points t h).0 in
    let are = limited.lists_are.cells_are in
    box_wider (3 * 2 ^ 50 * total_weight points) (most_box lists.grid) (target_box points cap P lists (place t)) (box_limit lists.grid (total_weight points) limited.known_grid limited.light)
    (box_in-within apart points cap P lists (omega arith) limited (leaf_at points cap lists.grid (place t)) t
    (leaf_is lists.grid points cap lists.cells positive limited.in_grid are t listed) (leaf_holds lists.grid points cap lists.cells positive limited.in_grid are t listed)))
