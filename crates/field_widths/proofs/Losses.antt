-- What entries can lose, in multiples of the smallest side: what their sources weigh in tails, and one rounding for each entry, which has a source.
use Rattle.std.specs.Int.{div_ceil}
use Rattle.std.proofs.Common.{ℕ, zero, suc, ◌≡◌, ◌+◌, ◌-◌, ◌*◌, ◌<◌, ◌≤◌, List, [], ◌∷◌, true, refl, ap, arith}
use Rattle.std.proofs.Math.Nat.{mul-le-mul_left, mul-le-mul_right}
use Rattle.std.proofs.lemmas.Grind.{div_ceil_times}
use Rattle.std.proofs.lemmas.List.Elements.{All-contains, All-tail, All-weaker}
use Rattle.std.proofs.lemmas.List.Sums.{sum_by-cons}
use Rattle.std.specs.Prelude.{All, sum_by}
use Rattle.cell_lists.specs.Entries.{IsEntry}
use Rattle.cell_name.specs.Square.{Square, side, parent}
use Rattle.letters.specs.declared.Letter.{Letter}
use Rattle.letters.specs.declared.Letter.TheVariants.{V, W, X}
use Rattle.points.specs.declared.Point.{Point}
use Rattle.quadtree.specs.Tree.{AreInGrid, IsTreeCell, IsLeaf, has_source}
use Rattle.quadtree.proofs.Parents.{IsTreeCell-parent}
use Rattle.row_recursions.proofs.RowSizes.{power_positive}
use Rattle.truncation.specs.Tails.{pair_tail, single_tail, single_loss}
use Rattle.tree_field.specs.Field.{sources_in, weight_in, pair_loss_in, single_loss_in, local_radius}
use Rattle.tree_field.specs.Lists.{TreeLists, AreTreeLists}
use Rattle.tree_field.specs.Paths.{over_entries, over_path}
use Rattle.tree_field.proofs.LocalRows.{local_radius-root, local_radius-below}
use Rattle.tree_field.proofs.PathSources.{over_path-below}
use Rattle.field_widths.proofs.SourceSums.{some_source, sum_by-affine}
use Rattle.field_widths.specs.Bound.{IsSmallestSide, point_weight}
use Rattle.field_widths.specs.Laws.{source_count}

-- ---- tails
ceil_below : (a b : ℕ) → a ≤ b → div_ceil (17 * a) 36 ≤ div_ceil (17 * b) 31
ceil_below a b h = omega (arith, h)

-- the tail of a cell and a far place is at most that of two cells
pub single_below_pair : (P : ℕ) → single_tail P ≤ pair_tail P
unfolding pair_tail single_tail
single_below_pair zero = omega arith
single_below_pair (suc P) = ceil_below (single_tail P) (pair_tail P) (single_below_pair P)

-- ---- sums
-- s times a sum, from s times each member
pub sum_by-scaled : {A : Type 0} (s : ℕ) (f g : A → ℕ) (xs : List A) → All (λ x. s * f x ≤ g x) xs → s * sum_by f xs ≤ sum_by g xs
sum_by-scaled s f g [] h = omega arith
sum_by-scaled s f g (x ∷ xs) h =
    let first : s * f x ≤ g x = h 0 x (omega arith) in
    let rest = sum_by-scaled s f g xs (All-tail (λ x. s * f x ≤ g x) x xs h) in
    omega (arith, first, rest, ap (λ n. s * n) (sum_by-cons f x xs), sum_by-cons g x xs)

-- ---- one entry
-- s times a quotient by a number of at least s, rounded up
ceil_times : (s n x : ℕ) → 1 ≤ s → s ≤ n → s * div_ceil x n ≤ x + s
ceil_times s n x low h = last (div_ceil x n) (div_ceil_times x n (omega (arith, low, h))).1
  where
    last : (d : ℕ) → d * n < x + n → s * d ≤ x + s
    last zero l = omega arith
    last (suc d) l = let m : s * d ≤ n * d = mul-le-mul_right d h in omega (arith, l, m)

-- the same of the weight of n sources, for n of at least 1
loses : (s n t m w k : ℕ) → 1 ≤ s → s ≤ n → t ≤ m → 1 ≤ k → s * div_ceil (w * t) n ≤ m * w + k * s
loses s n t m w k low h le some =
    let a = ceil_times s n (w * t) low h in
    let b : w * t ≤ w * m = mul-le-mul_left w le in
    let c : 1 * s ≤ k * s = mul-le-mul_right s some in
    omega (arith, a, b, c)

-- ---- the smallest side
module _ (grid : ℕ) (points : List Point) (cap : ℕ) (lists : TreeLists) (s : ℕ) (are : AreTreeLists grid points cap lists) (smallest : IsSmallestSide lists.cells s) where
  pub side_least : (c : Square) → IsTreeCell grid points cap c → s ≤ side c
  side_least c in_tree = All-contains (λ c. s ≤ side c) lists.cells c smallest.least (are.cells_are.whole c in_tree)

  pub smallest_positive : 1 ≤ s
  smallest_positive = let c = smallest.some.0 in let p = power_positive (c.grid - c.level) in omega (arith, p, smallest.some.2)

-- ---- the entries
module _ (grid : ℕ) (points : List Point) (cap P : ℕ) (lists : TreeLists) (s : ℕ) (positive : 0 < grid) (inside : AreInGrid grid points) (are : AreTreeLists grid points cap lists) (smallest : IsSmallestSide lists.cells s) where
  -- what a source adds
  abbrev lost_by : Point → ℕ
  lost_by p = pair_tail P * point_weight P p + s

  lost_in : (n t : ℕ) (c : Square) → s ≤ n → t ≤ pair_tail P → has_source points c ≡ true → s * div_ceil (weight_in points P c * t) n ≤ sum_by lost_by (sources_in points c)
  lost_in n t c h le e =
      let a = loses s n t (pair_tail P) (weight_in points P c) (source_count points c) (smallest_positive grid points cap lists s are smallest) h le (some_source points c e) in
      let b = sum_by-affine (pair_tail P) s (point_weight P) (sources_in points c) in
      omega (arith, a, b)

  on_entries : (letter : Letter) (b : Square) (f : Square → ℕ) → IsTreeCell grid points cap b → ((c : Square) → IsEntry grid points cap letter b c → s * f c ≤ sum_by lost_by (sources_in points c))
      → s * sum_by f (lists.entries letter b) ≤ over_entries points lists lost_by letter b
  on_entries letter b f in_tree h = sum_by-scaled s f (λ c. sum_by lost_by (sources_in points c)) (lists.entries letter b)
      (All-weaker (IsEntry grid points cap letter b) (λ c. s * f c ≤ sum_by lost_by (sources_in points c)) h (lists.entries letter b) (are.entries_are letter b in_tree).each)

  least : (c : Square) → IsTreeCell grid points cap c → s ≤ side c
  least = side_least grid points cap lists s are smallest

  pairs_lost : (b : Square) → IsTreeCell grid points cap b → s * sum_by (pair_loss_in points P (side b)) (lists.entries V b) ≤ over_entries points lists lost_by V b
  pairs_lost b in_tree = on_entries V b (pair_loss_in points P (side b)) in_tree (λ c e. lost_in (side b) (pair_tail P) c (least b in_tree) (omega arith) e.source)

  far_lost : (b : Square) → IsTreeCell grid points cap b → s * sum_by (single_loss_in points P (side b)) (lists.entries X b) ≤ over_entries points lists lost_by X b
  far_lost b in_tree = on_entries X b (single_loss_in points P (side b)) in_tree (λ c e. lost_in (side b) (single_tail P) c (least b in_tree) (single_below_pair P) e.source)

  -- the W entries of a leaf
  pub w_lost_times : (b : Square) → IsLeaf grid points cap b → s * sum_by (λ c. single_loss P (weight_in points P c) (side c)) (lists.entries W b) ≤ over_entries points lists lost_by W b
  w_lost_times b leaf = on_entries W b (λ c. single_loss P (weight_in points P c) (side c)) leaf.in_tree (λ c e. lost_in (side c) (single_tail P) c (least c e.pair.1) (single_below_pair P) e.source)

  -- ---- levels
  level_lost : (n : ℕ) (b : Square) → b.level ≡ n → IsTreeCell grid points cap b → s * local_radius points cap P lists b ≤ over_path points lists lost_by b
  level_lost zero b e in_tree =
      let r = ap (λ n. s * n) (local_radius-root points cap P lists b e) in
      omega (arith, r)
  level_lost (suc n) b e in_tree =
      let up = level_lost n (parent b) (omega (arith, e)) (IsTreeCell-parent grid points cap b positive inside in_tree (omega (arith, e))) in
      let r = ap (λ n. s * n) (local_radius-below points cap P lists b (omega (arith, e))) in
      let p = over_path-below points lists lost_by b (omega (arith, e)) in
      let v = pairs_lost b in_tree in
      let x = far_lost b in_tree in
      joined s _ _ _ _ _ _ _ _ up v x r p
    where
      joined : (s u v x r pu pv px p : ℕ) → s * u ≤ pu → s * v ≤ pv → s * x ≤ px → s * r ≡ s * (u + (v + x)) → p ≡ pu + (pv + px) → s * r ≤ p
      joined s u v x r pu pv px p a b c e f = omega (arith, a, b, c, e, f)

  -- the radius of a cell
  pub radius_times : (b : Square) → IsTreeCell grid points cap b → s * local_radius points cap P lists b ≤ over_path points lists lost_by b
  radius_times b in_tree = level_lost b.level b refl in_tree
