-- How wide the box of a target is: what each source adds through the one entry that accounts for it, and what each level rounds; and so what lies between its printed counts.
use Rattle.std.proofs.Common.{ℕ, ◌≡◌, ◌+◌, ◌*◌, ◌/◌, ◌<◌, ◌≤◌, List, length, true, inl, inr, sym, subst, ap, ◌∙◌, arith, ℤ, pos}
use Rattle.std.specs.Prelude.{◌-ℤ◌, ◌*ℤ◌, ◌≤ℤ◌, not, Contains, sum_by}
use Rattle.std.proofs.lemmas.Bool.{and_from}
use Rattle.std.proofs.lemmas.Int.{ints}
use Rattle.std.proofs.lemmas.List.Elements.{All-map}
use Rattle.std.proofs.Math.Nat.{mul-le-mul_right}
use Rattle.exact_math.specs.Ends.{Ends, BoxEnds, widen_ends, widen_box, EndsNarrow, BoxEndsNarrow}
use Rattle.exact_math.specs.Gaussian.{Gaussian}
use Rattle.exact_math.specs.Orders.{IsOrder}
use Rattle.exact_math.proofs.Lists.{All-from_members}
use Rattle.exact_math.proofs.Orders.{order_bounds}
use Rattle.exact_math.proofs.Widths.{narrow-add_box}
use Rattle.cell_name.specs.Square.{Square, side, Holds, holds_test}
use Rattle.cell_name.proofs.HoldsTest.{test-from_Holds}
use Rattle.letters.specs.declared.Letter.TheVariants.{U, W}
use Rattle.limits.proofs.Grids.{grid_positive, within_widest}
use Rattle.points.specs.Points.{is_source, place}
use Rattle.points.specs.declared.Point.{Point}
use Rattle.quadtree.specs.Tree.{AreInGrid, IsLeaf, has_target, is_target_in}
use Rattle.quadtree.proofs.Distinct.{Contains-filter}
use Rattle.soundness.specs.Counts.{count_ends}
use Rattle.truncation.specs.Tails.{pair_tail, single_loss}
use Rattle.tree_field.specs.Accounting.{sources}
use Rattle.tree_field.specs.Field.{targets, weight_in, leaf_at, local_radius, box_in, target_box}
use Rattle.tree_field.specs.Lists.{TreeLists, AreTreeLists}
use Rattle.tree_field.specs.Paths.{over_entries, over_path, over_reaching}
use Rattle.tree_field.proofs.Leaves.{leaf_is, leaf_holds}
use Rattle.tree_field.proofs.Members.{list_any-member}
use Rattle.tree_field.proofs.PathSources.{each_source_once}
use Rattle.field_widths.specs.Bound.{IsSmallestSide, point_weight, source_weight, width_bound, NoWider, PrintsNoWider}
use Rattle.field_widths.specs.Laws.{entry_width, MultipoleValuesNarrow, LocalRowsNarrow, PrintedCountsNarrow}
use Rattle.field_widths.proofs.BoxParts.{local_value_times, local_value_narrow_here, u_pairs_narrow, far_width, w_values_narrow, far_width_times}
use Rattle.field_widths.proofs.Inequalities.{sum_below_bound}
use Rattle.field_widths.proofs.Losses.{side_least, smallest_positive, radius_times, w_lost_times}
use Rattle.field_widths.proofs.PathSums.{over_entries-mono, over_entries-add, over_entries-times, over_path-mono, over_path-add, over_path-times}
use Rattle.field_widths.proofs.SourceSums.{sum_by-affine}
use Rattle.field_widths.proofs.Printing.{printed_times}

-- ---- r more on both sides
narrow-widen : {w : ℕ} {i : Ends} (r : ℕ) → EndsNarrow w i → EndsNarrow (w + 2 * r) (widen_ends i (pos r))
narrow-widen r h = record { ordered = omega (arith, ints, h.ordered); width = omega (arith, ints, h.width) }

pub narrow-widen_box : {w : ℕ} {b : BoxEnds} (r : ℕ) → BoxEndsNarrow w b → BoxEndsNarrow (w + 2 * r) (widen_box b (pos r))
narrow-widen_box r h = record { re = narrow-widen r h.re; im = narrow-widen r h.im }

-- ---- numbers: at the order P, with G levels, the tail T and the smallest side s, for a source of the weight w
module _ (P G T s : ℕ) where
  -- what a source adds at most, besides what its weight does
  abbrev constant : ℕ
  constant = 4 * (P * (P * P)) + 4 * G * (P * P) + 3 * P + 4 * s

  -- and together
  abbrev most : ℕ → ℕ
  most w = (2 * (P * P) + 2 * T) * w + constant

  on_path : (w : ℕ) → P * (2 * (2 * (P * P) + 2 * G * P) + 3 + 2 * P * w) + 2 * (T * w + s) ≤ most w
  on_path w = omega arith

  by_value : (w : ℕ) → (P * (2 * (P * P) + 2 * G * P) + 2 * P + 2 * s) + 2 * (T * w + s) ≤ most w
  by_value w = omega arith

  by_pair : (w : ℕ) → s * 2 ≤ most w
  by_pair w = omega arith

  -- the parts of a box: the value of the local row, with E for its entries and L levels, the W entries, the U entries, and what is lost
  parts_together : (v f u r k E L F N R K S n : ℕ) → s * v ≤ P * (E + L * (2 * P + 2) + 2) + 2 * s → s * f ≤ F → s * u ≡ N → s * r ≤ R → s * k ≤ K → L ≤ G
      → (P * E + 2 * R) + (N + (F + 2 * K)) ≤ (2 * (P * P) + 2 * T) * S + n * constant
      → s * (v + (f + u) + 2 * (r + k)) ≤ 2 * S * T + 2 * (P * P) * S + n * (4 * (P * (P * P)) + 4 * G * (P * P) + 3 * P) + (2 * G * (P * P) + (2 * G + 2) * P) + s * (4 * n + 2)
  parts_together v f u r k E L F N R K S n hv hf hu hr hk few once =
      let l : L * ((2 * P + 2) * P) ≤ G * ((2 * P + 2) * P) = mul-le-mul_right ((2 * P + 2) * P) few in
      omega (arith, hv, hf, hu, hr, hk, l, once)

-- ---- a place in a leaf with a target
module _ (local : LocalRowsNarrow) (values : MultipoleValuesNarrow) (grid : ℕ) (points : List Point) (cap P : ℕ) (lists : TreeLists) (s : ℕ)
    (positive : 0 < grid) (few : P ≤ 32) (inside : AreInGrid grid points) (are : AreTreeLists grid points cap lists) (smallest : IsSmallestSide lists.cells s) where
  -- what a source adds at most
  abbrev at_most : Point → ℕ
  at_most p = most P grid (pair_tail P) s (point_weight P p)

  -- what it can lose
  abbrev lost_of : Point → ℕ
  lost_of p = pair_tail P * point_weight P p + s

  -- what it adds in a W entry
  abbrev added_by : Point → ℕ
  added_by p = P * (2 * (P * P) + 2 * grid * P) + 2 * P + 2 * s

  module _ (b : Square) (leaf : IsLeaf grid points cap b) where
    -- how wide the local row is
    abbrev row_width : ℕ
    row_width = over_path points lists (entry_width grid P) b + b.level * (2 * P + 2)

    abbrev value_width : ℕ
    value_width = P * (row_width + 2) / side b + 2

    abbrev near_width : ℕ
    near_width = over_entries points lists (λ p. 2) U b

    abbrev far_lost : ℕ
    far_lost = sum_by (λ c. single_loss P (weight_in points P c) (side c)) (lists.entries W b)

    -- and so the box
    abbrev box_width : ℕ
    box_width = value_width + (far_width grid points P lists b + near_width) + 2 * (local_radius points cap P lists b + far_lost)

    pub box_in-narrow : (z : Gaussian) → Holds b z.re z.im → BoxEndsNarrow box_width (box_in points cap P lists b z)
    box_in-narrow z held =
        narrow-widen_box (local_radius points cap P lists b + far_lost)
        (narrow-add_box (local_value_narrow_here points cap P lists row_width b z held (local grid points cap P lists b positive few inside are leaf.in_tree))
        (narrow-add_box (w_values_narrow grid points cap P lists positive inside are values b z leaf held) (u_pairs_narrow points lists b z)))

    -- what the entries add is at most what all sources add
    entries_together : has_target points b ≡ true
        → (P * over_path points lists (entry_width grid P) b + 2 * over_path points lists lost_of b)
        + (over_entries points lists (λ p. s * 2) U b + (over_entries points lists added_by W b + 2 * over_entries points lists lost_of W b))
        ≤ (2 * (P * P) + 2 * pair_tail P) * source_weight P points + length (sources points) * constant P grid (pair_tail P) s
    entries_together has =
        let path_sum : over_path points lists (λ p. P * entry_width grid P p + 2 * lost_of p) b ≡ P * over_path points lists (entry_width grid P) b + 2 * over_path points lists lost_of b =
        over_path-add points lists (λ p. P * entry_width grid P p) (λ p. 2 * lost_of p) b ∙ both (over_path-times points lists P (entry_width grid P) b) (over_path-times points lists 2 lost_of b) in
        let value_sum : over_entries points lists (λ p. added_by p + 2 * lost_of p) W b ≡ over_entries points lists added_by W b + 2 * over_entries points lists lost_of W b =
        over_entries-add points lists added_by (λ p. 2 * lost_of p) W b ∙ ap (λ n. over_entries points lists added_by W b + n) (over_entries-times points lists 2 lost_of W b) in
        let path = over_path-mono points lists (λ p. P * entry_width grid P p + 2 * lost_of p) at_most (λ p. on_path P grid (pair_tail P) s (point_weight P p)) b in
        let far = over_entries-mono points lists (λ p. added_by p + 2 * lost_of p) at_most (λ p. by_value P grid (pair_tail P) s (point_weight P p)) W b in
        let near = over_entries-mono points lists (λ p. s * 2) at_most (λ p. by_pair P grid (pair_tail P) s (point_weight P p)) U b in
        let once : over_reaching points lists at_most b ≡ (2 * (P * P) + 2 * pair_tail P) * source_weight P points + length (sources points) * constant P grid (pair_tail P) s =
        each_source_once grid points cap lists positive inside are b leaf has at_most
        ∙ sum_by-affine (2 * (P * P) + 2 * pair_tail P) (constant P grid (pair_tail P) s) (point_weight P) (sources points) in
        joined path_sum value_sum path far near once
      where
        both : {a c x y : ℕ} → a ≡ x → c ≡ y → a + c ≡ x + y
        both d e = omega (arith, d, e)

        joined : {p p' v v' n a c d t : ℕ} → p ≡ p' → v ≡ v' → p ≤ a → v ≤ d → n ≤ c → a + (c + d) ≡ t → p' + (n + v') ≤ t
        joined e f g h k o = omega (arith, e, f, g, h, k, o)

    pub box_times : has_target points b ≡ true
        → s * box_width ≤ 2 * source_weight P points * pair_tail P + 2 * (P * P) * source_weight P points + length (sources points) * (4 * (P * (P * P)) + 4 * grid * (P * P) + 3 * P)
        + (2 * grid * (P * P) + (2 * grid + 2) * P) + s * (4 * length (sources points) + 2)
    box_times has =
        parts_together P grid (pair_tail P) s value_width (far_width grid points P lists b) near_width (local_radius points cap P lists b) far_lost
        (over_path points lists (entry_width grid P) b) b.level (over_entries points lists added_by W b) (over_entries points lists (λ p. s * 2) U b)
        (over_path points lists lost_of b) (over_entries points lists lost_of W b) (source_weight P points) (length (sources points))
        (local_value_times P row_width s b (smallest_positive grid points cap lists s are smallest) (side_least grid points cap lists s are smallest b leaf.in_tree))
        (far_width_times grid points cap P lists positive inside are s smallest b leaf)
        (sym (over_entries-times points lists s (λ p. 2) U b))
        (radius_times grid points cap P lists s positive inside are smallest b leaf.in_tree)
        (w_lost_times grid points cap P lists s positive inside are smallest b leaf)
        leaf.in_tree.level_in_grid
        (entries_together has)

    pub prints_no_wider : 4 ≤ P → grid ≤ 20 → has_target points b ≡ true → (z : Gaussian) → Holds b z.re z.im → PrintsNoWider P s points (box_in points cap P lists b z)
    prints_no_wider least bits has z held = let n = box_in-narrow z held in record { re = part n.re; im = part n.im }
      where
        at_most_more : (x : ℤ) (m n : ℕ) → x ≤ℤ pos m → m ≤ n → x ≤ℤ pos n
        at_most_more x m n h k = omega (arith, ints, h, k)

        part : {i : Ends} → EndsNarrow box_width i → NoWider P s points (count_ends i)
        part {i} h = at_most_more (pos s *ℤ ((count_ends i).hi -ℤ (count_ends i).lo)) _ (width_bound P s points) (printed_times s _ h (box_times has))
            (sum_below_bound P grid (source_weight P points) (pair_tail P) (length (sources points)) s least bits)

-- ---- the targets
-- the least order is 4
order_least : (P : ℕ) → IsOrder P → 4 ≤ P
order_least P h = elim h [
  | inl e ↦ omega arith
  | inr h ↦ elim h [ inl e ↦ omega arith | inr h ↦ elim h [ inl e ↦ omega arith | inr h ↦ elim h [ inl e ↦ omega arith | inr e ↦ omega arith ] ] ]
]

pub printed_counts_narrow : LocalRowsNarrow → MultipoleValuesNarrow → PrintedCountsNarrow
printed_counts_narrow local values grid points cap P lists known order inside are s smallest =
    All-map (PrintsNoWider P s points) (λ t. target_box points cap P lists (place t)) (targets points)
    (All-from_members (λ t. PrintsNoWider P s points (target_box points cap P lists (place t))) (targets points) of_target)
  where
    positive : 0 < grid
    positive = grid_positive grid known

    of_target : (t : Point) → Contains (targets points) t → PrintsNoWider P s points (target_box points cap P lists (place t))
    of_target t h =
        let l = Contains-filter _ points t h in
        let leaf = leaf_is grid points cap lists.cells positive inside are.cells_are t l.0 in
        let held = leaf_holds grid points cap lists.cells positive inside are.cells_are t l.0 in
        let has : has_target points (leaf_at points cap grid (place t)) ≡ true =
        list_any-member (is_target_in (leaf_at points cap grid (place t))) points t l.0
        (and_from (not (is_source t.kind)) (holds_test (leaf_at points cap grid (place t)) t.x t.y) l.1 (test-from_Holds (leaf_at points cap grid (place t)) t.x t.y held)) in
        subst (λ g. PrintsNoWider P s points (box_in points cap P lists (leaf_at points cap g (place t)) (place t))) (sym are.of_grid)
        (prints_no_wider local values grid points cap P lists s positive (order_bounds P order).1 inside are smallest (leaf_at points cap grid (place t)) leaf (order_least P order) (within_widest grid known).bits has (place t) held)
