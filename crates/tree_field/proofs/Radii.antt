-- How large the radii of the field are: a level adds at most a multiple of the weight of all points.
use Rattle.std.specs.Int.{div_ceil}
use Rattle.std.proofs.Common.{ℕ, ◌≡◌, ◌+◌, ◌-◌, ◌*◌, ◌^◌, ◌≤◌, zero, suc, List, refl, arith}
use Rattle.std.specs.Prelude.{sum_by}
use Rattle.std.proofs.Math.Nat.{mul-le-mul_left, mul-le-mul_right}
use Rattle.cell_name.specs.Square.{Square, side, parent}
use Rattle.letters.specs.declared.Letter.TheVariants.{V, W, X}
use Rattle.limits.specs.Limits.{widest_grid, most_weight}
use Rattle.limits.proofs.Grids.{grid_positive, within_widest}
use Rattle.points.specs.declared.Point.{Point}
use Rattle.points.specs.Limits.{total_weight}
use Rattle.quadtree.specs.Tree.{IsTreeCell}
use Rattle.quadtree.proofs.Parents.{IsTreeCell-parent}
use Rattle.row_recursions.proofs.RowSizes.{power_positive}
use Rattle.truncation.specs.Tails.{pair_tail, single_tail}
use Rattle.truncation.proofs.Tails.{pair_tail_le, single_tail_le, div_ceil-le}
use Rattle.tree_field.specs.Field.{weight_in, pair_loss_in, single_loss_in, local_radius}
use Rattle.tree_field.specs.Lists.{TreeLists}
use Rattle.tree_field.proofs.LocalRows.{local_radius-root, local_radius-below}
use Rattle.tree_field.proofs.EntrySums.{sum_by-entries}
use Rattle.tree_field.specs.Sizes.{EntriesShareNoSource, IsLimited, RadiusSizes}
use Rattle.exact_math.proofs.Orders.{order_bounds}

loses : (w t m s : ℕ) → 1 ≤ s → t ≤ m → div_ceil (w * t) s ≤ m * w
loses w t m s h le =
    let a = div_ceil-le (w * t) s h in
    let b = mul-le-mul_left w le in
    omega (arith, a, b)

pub pair_loss-within : (points : List Point) (P : ℕ) (b c : Square) → pair_loss_in points P (side b) c ≤ 2 ^ 41 * weight_in points P c
pair_loss-within points P b c = loses (weight_in points P c) (pair_tail P) (2 ^ 41) (side b) (power_positive (b.grid - b.level)) (pair_tail_le P)

pub single_loss-within : (points : List Point) (P : ℕ) (b c : Square) → single_loss_in points P (side b) c ≤ 2 ^ 40 * weight_in points P c
single_loss-within points P b c = loses (weight_in points P c) (single_tail P) (2 ^ 40) (side b) (power_positive (b.grid - b.level)) (single_tail_le P)

-- ---- levels
one_level_more : (r n v x p q : ℕ) → r ≤ n * (v + x) → p ≤ v → q ≤ x → r + (p + q) ≤ suc n * (v + x)
one_level_more r n v x p q a b d = omega arith

all_levels : (r n w : ℕ) → n ≤ widest_grid → r ≤ n * (2 ^ 41 * w + 2 ^ 40 * w) → r ≤ 2 ^ 46 * w
all_levels r n w h le = let m = mul-le-mul_right (2 ^ 41 * w + 2 ^ 40 * w) h in omega (arith, m, le)

module _ (apart : EntriesShareNoSource) (points : List Point) (cap P : ℕ) (lists : TreeLists) (few : P ≤ 32) (limited : IsLimited points cap lists) where
  abbrev from_pairs : ℕ
  from_pairs = 2 ^ 41 * total_weight points

  abbrev from_far : ℕ
  from_far = 2 ^ 40 * total_weight points

  pairs_lose : (b : Square) → IsTreeCell lists.grid points cap b → sum_by (pair_loss_in points P (side b)) (lists.entries V b) ≤ from_pairs
  pairs_lose b in_tree = sum_by-entries apart points cap lists limited V b in_tree P (2 ^ 41) (pair_loss_in points P (side b)) few (pair_loss-within points P b)

  far_lose : (b : Square) → IsTreeCell lists.grid points cap b → sum_by (single_loss_in points P (side b)) (lists.entries X b) ≤ from_far
  far_lose b in_tree = sum_by-entries apart points cap lists limited X b in_tree P (2 ^ 40) (single_loss_in points P (side b)) few (single_loss-within points P b)

  level_within : (n : ℕ) (b : Square) → b.level ≡ n → IsTreeCell lists.grid points cap b → local_radius points cap P lists b ≤ n * (from_pairs + from_far)
  level_within zero b e in_tree = let r = local_radius-root points cap P lists b e in omega (arith, r)
  level_within (suc n) b e in_tree =
      let up = level_within n (parent b) (omega arith) (IsTreeCell-parent lists.grid points cap b (grid_positive lists.grid limited.known_grid) limited.in_grid in_tree (omega arith)) in
      let r = local_radius-below points cap P lists b (omega arith) in
      let m = one_level_more (local_radius points cap P lists (parent b)) n from_pairs from_far _ _ up (pairs_lose b in_tree) (far_lose b in_tree) in
      omega (arith, r, m)

  pub local_radius-within : (b : Square) → IsTreeCell lists.grid points cap b → local_radius points cap P lists b ≤ 2 ^ 46 * total_weight points
  local_radius-within b in_tree =
      all_levels (local_radius points cap P lists b) b.level (total_weight points) (omega (arith, in_tree.level_in_grid, (within_widest lists.grid limited.known_grid).bits)) (level_within b.level b refl in_tree)

  -- what the W entries of a cell can lose together
  pub multipoles_lose : (b : Square) → IsTreeCell lists.grid points cap b → sum_by (λ c. single_loss_in points P (side c) c) (lists.entries W b) ≤ 2 ^ 40 * total_weight points
  multipoles_lose b in_tree = sum_by-entries apart points cap lists limited W b in_tree P (2 ^ 40) (λ c. single_loss_in points P (side c) c) few (λ c. single_loss-within points P c c)

pub radius_sizes : EntriesShareNoSource → RadiusSizes
radius_sizes apart points cap P lists order limited c in_tree =
    let few = order_bounds P order in
    let h = local_radius-within apart points cap P lists (omega arith) limited c in_tree in
    lighter (local_radius points cap P lists c) (total_weight points) (most_weight lists.grid) h limited.light
  where
    lighter : (r w most : ℕ) → r ≤ 2 ^ 46 * w → w ≤ most → r ≤ 2 ^ 48 * most
    lighter r w most h light = omega arith
