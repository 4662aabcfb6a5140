-- Multipole rows of the field as what is computed of an accounting.
use Rattle.std.proofs.Common.{ℕ, ◌≡◌, ◌+◌, ◌-◌, ◌<◌, ◌≤◌, zero, suc, inl, inr, ◌⊎◌, List, [], length, map, Bool, true, false, not, cond, filter, refl, sym, ap, ap₂, ◌∙◌, subst, arith, add-one}
use Rattle.std.specs.Prelude.{◌==◌, nat_lt, pos, Contains}
use Rattle.std.specs.List.{range_with_len}
use Rattle.std.proofs.lemmas.Bool.{true≢false, cases_Bool, and_parts, and_from, ltb-true, lt-ltb, le-ltb, eqb-true, eq-eqb, not-false, cases_lt}
use Rattle.std.proofs.lemmas.Int.{ints}
use Rattle.std.proofs.lemmas.List.Elements.{All-weaker, All-filter, All-contains}
use Rattle.std.proofs.lemmas.List.Kept.{AllPairs-filter}
use mathlib.Core.Logic.{⊎_elim}
use Rattle.exact_math.specs.Ends.{BoxEnds, zero_box, add_box, scale_box, gscale_box, quot_box}
use Rattle.exact_math.specs.Gaussian.{Gaussian}
use Rattle.cell_name.specs.Order.{IsBefore}
use Rattle.cell_name.specs.Square.{Square, no_square, parent, holds_test}
use Rattle.cell_name.proofs.Cells.{Holds-parent, parent-square_at}
use Rattle.cell_name.proofs.HoldsTest.{Holds-from_test, test-from_Holds}
use Rattle.points.specs.Points.{is_source}
use Rattle.points.specs.declared.Point.{Point}
use Rattle.cell_name.specs.Quarters.{quarters}
use Rattle.quadtree.specs.Tree.{count_in, AreInGrid, IsTreeCell, IsLeaf, is_over, has_source, is_source_in}
use Rattle.quadtree.proofs.Distinct.{Contains-filter, Contains-into_filter}
use Rattle.quadtree.proofs.LeafLevel.{cell_of, tree_at_next}
use Rattle.quadtree.proofs.Parents.{cell_of_point, leaf_or_split, IsTreeCell-below, IsTreeCell-from_below}
use Rattle.cell_name.proofs.Quarters.{IsQuarter, quarters_are, quarters_contain}
use Rattle.complex_box.proofs.ZeroBoxes.{zero_scaled, zero_gscaled, zero_over, zero_right}
use Rattle.row_recursions.specs.Rows.{up_round, shifted_up}
use Rattle.soundness.specs.Accounts.{Accounting, names_parent, is_leaf, children}
use Rattle.soundness.specs.Computed.{total_box, total_row, shifted_rows, computed_leaf_row as given_leaf_row}
use Rattle.soundness.specs.Squares.{quadrant}
use Rattle.tree_field.specs.Lists.{TreeLists, AreTreeLists}
use Rattle.tree_field.specs.Field.{leaf_row, multipole_above, multipole_row}
use Rattle.tree_field.proofs.Accounts.{accounting, over_sources}
use Rattle.quadtree.proofs.Ascending.{same_list, quarters_ascend}
use Rattle.exact_math.proofs.Lists.{image_of, Contains-into_map, AllPairs-map, AllPairs-range, Contains-range, range_below, filter_none}
use Rattle.tree_field.proofs.Members.{found, list_any-member, none_passes}
use Rattle.quadtree.proofs.Occupants.{occupied_from_source}
use Rattle.tree_field.proofs.Numbers.{number_among, cell_at, above, tree_cell, number_below, cell_of_number, number_of_cell, first_is_root, level_positive, cell_above, above_number}
use Rattle.soundness.proofs.Sums.{total_box-map, total_box-same, total_box-fewer}
use Rattle.row_recursions.specs.Cells.{moments_in}

-- ---- the row of a cell from its sources, or from the rows of its quarters
leaf_level : (points : List Point) (cap levels : ℕ) (c : Square) (k : ℕ) → (levels ≡ 0) ⊎ (count_in points c ≤ cap) → multipole_above points cap levels c k ≡ leaf_row points c k
unfolding multipole_above
leaf_level points cap zero c k h = refl
leaf_level points cap (suc levels) c k (inl e) = absurd (omega arith)
leaf_level points cap (suc levels) c k (inr le) = ap (λ (b : Bool). cond b (total_row (λ q. shifted_up (multipole_above points cap levels q) (quadrant q)) (filter (has_source points) (quarters c))) (leaf_row points c) k) (le-ltb cap (count_in points c) le)

pub multipole_row-leaf : (points : List Point) (cap : ℕ) (c : Square) → (count_in points c ≤ cap) ⊎ (c.grid ≤ c.level) → (k : ℕ) → multipole_row points cap c k ≡ leaf_row points c k
multipole_row-leaf points cap c (inl few) k = leaf_level points cap (c.grid - c.level) c k (inr few)
multipole_row-leaf points cap c (inr last) k = leaf_level points cap (c.grid - c.level) c k (inl (omega arith))

split_level : (points : List Point) (cap levels : ℕ) (c : Square) (k : ℕ) → levels ≡ c.grid - c.level → c.level < c.grid → cap < count_in points c
    → multipole_above points cap levels c k ≡ total_row (λ q. shifted_up (multipole_row points cap q) (quadrant q)) (filter (has_source points) (quarters c)) k
unfolding multipole_above
split_level points cap zero c k e lt over = absurd (omega arith)
split_level points cap (suc levels) c k e lt over =
    ap (λ (b : Bool). cond b (total_row (λ q. shifted_up (multipole_above points cap levels q) (quadrant q)) (filter (has_source points) (quarters c))) (leaf_row points c) k) (lt-ltb cap (count_in points c) over)
    ∙ total_box-same (λ q. shifted_up (multipole_above points cap levels q) (quadrant q) k) (λ q. shifted_up (multipole_row points cap q) (quadrant q) k) (filter (has_source points) (quarters c))
    (All-filter (has_source points) Same (quarters c) (All-weaker (IsQuarter c) Same (λ q h. ap (λ l. shifted_up (multipole_above points cap l q) (quadrant q) k) (omega (arith, h.of_grid, h.level))) (quarters c) (quarters_are c)))
  where
    Same : Square → Type 0
    Same q = shifted_up (multipole_above points cap levels q) (quadrant q) k ≡ shifted_up (multipole_row points cap q) (quadrant q) k

pub multipole_row-split : (points : List Point) (cap : ℕ) (c : Square) → c.level < c.grid → cap < count_in points c → (k : ℕ)
    → multipole_row points cap c k ≡ total_row (λ q. shifted_up (multipole_row points cap q) (quadrant q)) (filter (has_source points) (quarters c)) k
multipole_row-split points cap c lt over k = split_level points cap (c.grid - c.level) c k refl lt over

-- ---- where there is no source, the row is zero
quarter_without : (points : List Point) (c q : Square) → c.level < c.grid → IsQuarter c q → has_source points c ≡ false → has_source points q ≡ false
quarter_without points c q lt h none = ⊎_elim (λ t. absurd (true≢false (sym (some t) ∙ none))) (λ f. f) (cases_Bool (has_source points q))
  where
    some : has_source points q ≡ true → has_source points c ≡ true
    some t =
        let f = found (is_source_in q) points t in
        let p : Point = f.member in
        let parts = and_parts (is_source p.kind) (holds_test q p.x p.y) f.passes in
        let held = Holds-parent q p.x p.y (omega (arith, h.level)) (omega (arith, h.level, h.of_grid)) (Holds-from_test q p.x p.y parts.1) in
        list_any-member (is_source_in c) points p f.listed (and_from (is_source p.kind) (holds_test c p.x p.y) parts.0 (subst (λ d. holds_test d p.x p.y ≡ true) h.parent_is (test-from_Holds (parent q) p.x p.y held)))

no_leaf_row : (points : List Point) (c : Square) (k : ℕ) → has_source points c ≡ false → leaf_row points c k ≡ zero_box
no_leaf_row points c k none = ap (λ l. total_row (moments_in c) l k) (filter_none (is_source_in c) points (none_passes (is_source_in c) points none))

zero_level : (points : List Point) (cap levels : ℕ) (c : Square) (k : ℕ) → c.level + levels ≤ c.grid → has_source points c ≡ false → multipole_above points cap levels c k ≡ zero_box
unfolding multipole_above
zero_level points cap zero c k le none = no_leaf_row points c k none
zero_level points cap (suc levels) c k le none = step (is_over points cap c)
  where
    empty : filter (has_source points) (quarters c) ≡ []
    empty = filter_none (has_source points) (quarters c) (All-weaker (IsQuarter c) (λ q. has_source points q ≡ false) (λ q h. quarter_without points c q (omega arith) h none) (quarters c) (quarters_are c))

    step : (b : Bool) → cond b (total_row (λ q. shifted_up (multipole_above points cap levels q) (quadrant q)) (filter (has_source points) (quarters c))) (leaf_row points c) k ≡ zero_box
    step true = ap (λ l. total_row (λ q. shifted_up (multipole_above points cap levels q) (quadrant q)) l k) empty
    step false = no_leaf_row points c k none

pub multipole_row-zero : (points : List Point) (cap : ℕ) (c : Square) → c.level ≤ c.grid → has_source points c ≡ false → (k : ℕ) → multipole_row points cap c k ≡ zero_box
multipole_row-zero points cap c le none k = zero_level points cap (c.grid - c.level) c k (omega arith) none

-- and so is it shifted up
zero_round : (m : ℕ → BoxEnds) (q : Gaussian) → ((i : ℕ) → m i ≡ zero_box) → (r i : ℕ) → up_round m q r i ≡ zero_box
unfolding up_round
zero_round m q h zero i = h i
zero_round m q h (suc r) i =
    ap₂ (λ a b. quot_box (add_box (scale_box a (pos 2)) (gscale_box b q)) (pos 4)) (zero_round m q h r (suc i)) (zero_round m q h r i)
    ∙ ap₂ (λ a b. quot_box (add_box a b) (pos 4)) (zero_scaled (pos 2)) (zero_gscaled q)
    ∙ ap (λ b. quot_box b (pos 4)) (zero_right zero_box)
    ∙ zero_over (pos 4) (omega (arith, ints))

shifted_zero : (m : ℕ → BoxEnds) (q : Gaussian) (k : ℕ) → ((i : ℕ) → m i ≡ zero_box) → shifted_up m q k ≡ zero_box
unfolding shifted_up
shifted_zero m q k h = zero_round m q h k 0

module _ (grid : ℕ) (points : List Point) (cap P : ℕ) (lists : TreeLists) (positive : 0 < grid) (inside : AreInGrid grid points) (are : AreTreeLists grid points cap lists) where
  abbrev given : Accounting
  given = accounting grid points cap P lists

  abbrev cell : ℕ → Square
  cell n = cell_at lists.cells n

  -- ---- leaves
  -- a cell that is split has a child
  split_no_leaf : (n : ℕ) → n < length lists.cells → (cap < count_in points (cell n)) → (cell n).level < grid → is_leaf given n ≡ false
  split_no_leaf n lt split room =
      let c : Square = cell n in
      let here = tree_cell grid points cap lists.cells positive inside are.cells_are n lt in
      let o = cell_of_point grid points c here.of_grid inside here.occupied in
      let p : Point = o.point in
      let d : Square = cell_of grid p (suc c.level) in
      let below : IsTreeCell grid points cap d = tree_at_next grid points cap p o.given c.level room (subst (λ s. cap < count_in points s) o.is_cell split) in
      let up : parent d ≡ cell_of grid p c.level = rw add-one at (parent-square_at grid c.level p.x p.y room) in
      let m : ℕ = number_among lists.cells d in
      let in_range = number_below grid points cap lists.cells positive inside are.cells_are d below in
      let e : above lists.cells m ≡ n = above_number grid points cap lists.cells positive inside are.cells_are d below ∙ ap (number_among lists.cells) (up ∙ sym o.is_cell) ∙ number_of_cell grid points cap lists.cells positive inside are.cells_are n lt in
      let level : (cell m).level ≡ suc c.level = ap (λ (s : Square). s.level) (cell_of_number grid points cap lists.cells positive inside are.cells_are d below) in
      let some = list_any-member (names_parent given n) (range_with_len 0 (length lists.cells)) m (Contains-range (length lists.cells) m in_range)
      (and_from (nat_lt 0 m) (above lists.cells m == n) (lt-ltb 0 m (not_first m in_range level)) (eq-eqb (above lists.cells m) n e)) in
      ap not some
    where
      not_first : (m : ℕ) → m < length lists.cells → (cell m).level ≡ suc (cell n).level → 0 < m
      not_first m lm level =
          elim (cases_lt 0 m) [
            | inl lo ↦ lo
            | inr le ↦ absurd (let e : (cell m).level ≡ 0 = ap (λ k. (cell k).level) (zero_is m le) ∙ ap (λ (s : Square). s.level) (first_is_root grid points cap lists.cells positive inside are.cells_are (omega arith)) in omega arith)
          ]
        where
          zero_is : (m : ℕ) → m ≤ 0 → m ≡ 0
          zero_is m le = omega arith

  pub leaf_from_node : (n : ℕ) → n < length lists.cells → is_leaf given n ≡ true → IsLeaf grid points cap (cell n)
  leaf_from_node n lt e = ⊎_elim (λ leaf. leaf) (λ split. absurd (true≢false (sym e ∙ split_no_leaf n lt split.0 split.1))) (leaf_or_split grid points cap (cell n) (tree_cell grid points cap lists.cells positive inside are.cells_are n lt))

  -- what is known of a child
  record IsChildOf (n d : ℕ) : Type 0 where
    pub in_range : d < length lists.cells
    pub positive_number : 0 < d
    pub parent_is : parent (cell d) ≡ cell n

  child_is : (n d : ℕ) → Contains (range_with_len 0 (length lists.cells)) d → names_parent given n d ≡ true → IsChildOf n d
  child_is n d h e =
      let parts = and_parts (nat_lt 0 d) (above lists.cells d == n) e in
      let lo : 0 < d = ltb-true 0 d parts.0 in
      let lt = range_below (length lists.cells) d h in
      record {
        in_range = lt;
        positive_number = lo;
        parent_is = sym (cell_above grid points cap lists.cells positive inside are.cells_are d lo lt) ∙ ap cell (eqb-true (above lists.cells d) n parts.1);
      }

  -- a node with a child is split
  pub split_from_node : (n : ℕ) → n < length lists.cells → is_leaf given n ≡ false → (cap < count_in points (cell n)) × ((cell n).level < grid)
  split_from_node n lt e =
      let f = found (names_parent given n) (range_with_len 0 (length lists.cells)) (not-false _ e) in
      let d : ℕ = f.member in
      let h = child_is n d f.listed f.passes in
      let here = tree_cell grid points cap lists.cells positive inside are.cells_are d h.in_range in
      let lo = level_positive grid points cap lists.cells positive inside are.cells_are d h.positive_number h.in_range in
      let level : (cell d).level - 1 ≡ (cell n).level = ap (λ (s : Square). s.level) h.parent_is in
      (subst (λ v. cap < count_in points v) h.parent_is (IsTreeCell-below grid points cap (cell d) lo here.level_in_grid here).1, omega (arith, here.level_in_grid))

  pub leaf_rows_same : (n : ℕ) → n < length lists.cells → is_leaf given n ≡ true → (k : ℕ) → given_leaf_row given n k ≡ multipole_row points cap (cell n) k
  leaf_rows_same n lt e k =
      let leaf = leaf_from_node n lt e in
      over_sources grid points cap P lists positive inside are (λ p. moments_in (cell n) p k) n lt
      ∙ sym (multipole_row-leaf points cap (cell n) (ends leaf.in_tree.of_grid leaf.ends) k)
    where
      ends : (cell n).grid ≡ grid → (count_in points (cell n) ≤ cap) ⊎ ((cell n).level ≡ grid) → (count_in points (cell n) ≤ cap) ⊎ ((cell n).grid ≤ (cell n).level)
      ends g (inl few) = inl few
      ends g (inr last) = inr (omega arith)

  -- ---- inner nodes
  abbrev is_occupied : Square → Bool
  is_occupied q = nat_lt 0 (count_in points q)

  -- the cells of the children are the quarters that have a point
  children_are : (n : ℕ) → n < length lists.cells → (cap < count_in points (cell n)) → (cell n).level < grid → map cell (children given n) ≡ filter is_occupied (quarters (cell n))
  children_are n lt split room = same_list (map cell (children given n)) (filter is_occupied (quarters (cell n)))
      (AllPairs-map IsBefore cell (children given n) (AllPairs-filter (λ a b. IsBefore (cell a) (cell b)) (names_parent given n) (range_with_len 0 (length lists.cells))
      (λ i j d l in_range. let r = AllPairs-range (length lists.cells) i j d l in_range in are.cells_are.ascending _ _ no_square r.0 r.1)))
      (AllPairs-filter IsBefore is_occupied (quarters (cell n)) (quarters_ascend (cell n)))
      down
      up
    where
      down : (q : Square) → Contains (map cell (children given n)) q → Contains (filter is_occupied (quarters (cell n))) q
      down q h =
          let i = image_of cell (children given n) q h in
          let d : ℕ = i.source in
          let kept = Contains-filter (names_parent given n) (range_with_len 0 (length lists.cells)) d i.listed in
          let c = child_is n d kept.0 kept.1 in
          let here = tree_cell grid points cap lists.cells positive inside are.cells_are d c.in_range in
          let lo = level_positive grid points cap lists.cells positive inside are.cells_are d c.positive_number c.in_range in
          subst (Contains (filter is_occupied (quarters (cell n)))) i.gives
          (Contains-into_filter is_occupied (quarters (cell n)) (cell d) (subst (λ s. Contains (quarters s) (cell d)) c.parent_is (quarters_contain (cell d) lo)) (lt-ltb 0 (count_in points (cell d)) here.occupied))

      up : (q : Square) → Contains (filter is_occupied (quarters (cell n))) q → Contains (map cell (children given n)) q
      up q h =
          let kept = Contains-filter is_occupied (quarters (cell n)) q h in
          let quarter = All-contains (IsQuarter (cell n)) (quarters (cell n)) q (quarters_are (cell n)) kept.0 in
          let here = tree_cell grid points cap lists.cells positive inside are.cells_are n lt in
          let in_tree : IsTreeCell grid points cap q = IsTreeCell-from_below grid points cap q (quarter.of_grid ∙ here.of_grid) (omega (arith, quarter.level)) (omega (arith, quarter.level)) (ltb-true 0 (count_in points q) kept.1) (subst (λ v. cap < count_in points v) (sym quarter.parent_is) split) in
          let m : ℕ = number_among lists.cells q in
          let in_range = number_below grid points cap lists.cells positive inside are.cells_are q in_tree in
          let is = cell_of_number grid points cap lists.cells positive inside are.cells_are q in_tree in
          let e : above lists.cells m ≡ n = above_number grid points cap lists.cells positive inside are.cells_are q in_tree ∙ ap (number_among lists.cells) quarter.parent_is ∙ number_of_cell grid points cap lists.cells positive inside are.cells_are n lt in
          subst (Contains (map cell (children given n))) is
          (Contains-into_map cell (children given n) m (Contains-into_filter (names_parent given n) (range_with_len 0 (length lists.cells)) m (Contains-range (length lists.cells) m in_range)
          (and_from (nat_lt 0 m) (above lists.cells m == n) (lt-ltb 0 m (not_first m in_range (ap (λ (s : Square). s.level) is) quarter.level)) (eq-eqb (above lists.cells m) n e))))
        where
          not_first : (m : ℕ) → m < length lists.cells → (cell m).level ≡ q.level → q.level ≡ (cell n).level + 1 → 0 < m
          not_first m lm level next =
              elim (cases_lt 0 m) [
                | inl lo ↦ lo
                | inr le ↦ absurd (let e : (cell m).level ≡ 0 = ap (λ k. (cell k).level) (zero_is m le) ∙ ap (λ (s : Square). s.level) (first_is_root grid points cap lists.cells positive inside are.cells_are (omega arith)) in omega arith)
              ]
            where
              zero_is : (m : ℕ) → m ≤ 0 → m ≡ 0
              zero_is m le = omega arith

  pub inner_rows_same : (n : ℕ) → n < length lists.cells → is_leaf given n ≡ false → (k : ℕ) → shifted_rows given n k ≡ multipole_row points cap (cell n) k
  inner_rows_same n lt e k =
      let s = split_from_node n lt e in
      let here = tree_cell grid points cap lists.cells positive inside are.cells_are n lt in
      sym (total_box-map row cell (children given n))
      ∙ ap (total_box row) (children_are n lt s.0 s.1)
      ∙ total_box-fewer row is_occupied (has_source points) (quarters (cell n)) (λ q h t. occupied q t) (λ q h t f. nothing q (All-contains (IsQuarter (cell n)) (quarters (cell n)) q (quarters_are (cell n)) h) here.of_grid s.1 f)
      ∙ sym (multipole_row-split points cap (cell n) (omega (arith, here.of_grid, s.1)) s.0 k)
    where
      row : Square → BoxEnds
      row q = shifted_up (multipole_row points cap q) (quadrant q) k

      occupied : (q : Square) → has_source points q ≡ true → is_occupied q ≡ true
      occupied q t = lt-ltb 0 (count_in points q) (occupied_from_source points q t)

      nothing : (q : Square) → IsQuarter (cell n) q → (cell n).grid ≡ grid → (cell n).level < grid → has_source points q ≡ false → row q ≡ zero_box
      nothing q h g lt f = shifted_zero (multipole_row points cap q) (quadrant q) k (multipole_row-zero points cap q (omega (arith, h.of_grid, h.level)) f)
