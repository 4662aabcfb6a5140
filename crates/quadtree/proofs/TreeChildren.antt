-- The children of a tree's cells, in the words of the cells.
use Rattle.std.proofs.Common.{ℕ, ◌≡◌, ◌+◌, ◌-◌, ◌<◌, ◌≤◌, ◌⊎◌, inl, inr, List, length, map, filter, Bool, ltb, eqb, sym, ap, ◌∙◌, subst, arith}
use Rattle.std.specs.Prelude.{AllPairs, Contains, ◌&&◌}
use Rattle.std.specs.List.{range_with_len}
use Rattle.std.proofs.lemmas.Bool.{and_from, and_parts, cases_lt, eq-eqb, eqb-true, lt-ltb, ltb-true}
use Rattle.std.proofs.lemmas.List.{get_or_default, length-map}
use Rattle.std.proofs.lemmas.List.Elements.{All-get_or}
use Rattle.std.proofs.lemmas.List.Kept.{AllPairs-filter}
use Rattle.limits.proofs.Grids.{grid_positive}
use Rattle.points.specs.declared.Point.{Point}
use Rattle.cell_name.specs.Cell.{square}
use Rattle.cell_name.specs.Order.{IsBefore}
use Rattle.cell_name.specs.Quarters.{quarters}
use Rattle.cell_name.specs.Square.{Square, no_square, parent}
use Rattle.quadtree.specs.Splitting.{below}
use Rattle.quadtree.specs.Tree.{AreInGrid, count_in, IsTreeCell}
use Rattle.quadtree.specs.TreeModel.{TreeModel, size, squares, square_of, node_of, is_child, children_of, IsTreeOf}
use Rattle.quadtree.proofs.Ascending.{quarters_ascend, same_list}
use Rattle.quadtree.proofs.Distinct.{Contains-filter, Contains-into_filter}
use Rattle.quadtree.proofs.Levels.{below-split, below-whole}
use Rattle.exact_math.proofs.Lists.{AllPairs-map, AllPairs-range, Contains-into_map, Contains-range, filter-filter, image_of, range_below}
use Rattle.quadtree.proofs.Parents.{IsTreeCell-from_below}
use Rattle.quadtree.proofs.TreeCells.{below_is, below_has}
use Rattle.quadtree.proofs.TreeNumbers.{number_unique, level_of_first, level_of_others}

-- a child of a cell of the tree
pub record IsChildOf (tree : TreeModel) (n c : ℕ) : Type 0 where
  pub in_range : c < size tree
  pub positive : 0 < c
  pub number_is : (node_of tree c).parent ≡ n
  pub parent_is : parent (square_of tree c) ≡ square_of tree n
  pub level_is : (square_of tree c).level ≡ (square_of tree n).level + 1
  pub behind : n < c

-- the cell of a number is one of the tree
pub tree_cell_at : (tree : TreeModel) (points : List Point) (cap n : ℕ) → IsTreeOf tree points cap → n < size tree → IsTreeCell tree.grid points cap (square_of tree n)
tree_cell_at tree points cap n h lt = All-get_or (IsTreeCell tree.grid points cap) (squares tree) n no_square (omega (arith, length-map tree.cells square)) h.cells_are.each

module _ (tree : TreeModel) (points : List Point) (cap : ℕ) (inside : AreInGrid tree.grid points) (h : IsTreeOf tree points cap) where
  positive : 0 < tree.grid
  positive = grid_positive tree.grid h.known_grid

  as_many : length (squares tree) ≡ size tree
  as_many = length-map tree.cells _

  same : (m n : ℕ) → m < size tree → n < size tree → square_of tree m ≡ square_of tree n → m ≡ n
  same m n lm ln e = number_unique (squares tree) m n h.cells_are.ascending (omega (arith, as_many)) (omega (arith, as_many)) e

  level_of : (n : ℕ) → 0 < n → n < size tree → 0 < (square_of tree n).level
  level_of n lo lt = level_of_others tree.grid points cap (squares tree) positive inside h.cells_are n (omega (arith, as_many)) lo

  -- a deeper cell stands behind
  deeper_behind : (m n : ℕ) → m < size tree → n < size tree → (square_of tree m).level < (square_of tree n).level → m < n
  deeper_behind m n lm ln lt =
      elim (cases_lt m n) [
        | inl fine ↦ fine
        | inr ge ↦
            elim (cases_lt n m) [
              | inr le ↦ absurd (let e : n ≡ m = omega arith in omega (arith, ap (λ k. (square_of tree k).level) e))
              | inl after ↦
                  let before : IsBefore (square_of tree n) (square_of tree m) = h.cells_are.ascending n m no_square after (omega (arith, as_many)) in
                  absurd (elim before.before [ inl lower ↦ omega arith | inr level ↦ omega (arith, level.0) ])
            ]
      ]

  -- the children of a cell are the cells whose parent it is
  pub child_of : (n c : ℕ) → n < size tree → Contains (node_of tree n).children c → IsChildOf tree n c
  child_of n c lt listed =
      let L : List ℕ → Type 0 = λ l. Contains l c in
      let kept = Contains-filter (is_child tree n) (range_with_len 0 (size tree)) c (subst L (h.nodes_are n lt).children_are listed) in
      let parts = and_parts (ltb 0 c) (eqb (node_of tree c).parent n) kept.1 in
      let in_range = range_below (size tree) c kept.0 in
      let positive = ltb-true 0 c parts.0 in
      let number : (node_of tree c).parent ≡ n = eqb-true (node_of tree c).parent n parts.1 in
      let up : square_of tree n ≡ parent (square_of tree c) = ap (square_of tree) (sym number) ∙ (h.nodes_are c in_range).parent_is.of_others positive in
      let level : (square_of tree n).level ≡ (square_of tree c).level - 1 = ap (λ (s : Square). s.level) up in
      let lo = level_of c positive in_range in
      record { in_range = in_range; positive = positive; number_is = number; parent_is = sym up; level_is = omega arith; behind = deeper_behind n c lt in_range (omega arith) }

  pub child_listed : (n c : ℕ) → n < size tree → c < size tree → 0 < (square_of tree c).level → parent (square_of tree c) ≡ square_of tree n → Contains (node_of tree n).children c
  child_listed n c lt in_range lo up =
      let L : List ℕ → Type 0 = λ l. Contains l c in
      let positive : 0 < c = not_first (cases_lt 0 c) in
      let has = (h.nodes_are c in_range).parent_is in
      let number : (node_of tree c).parent ≡ n = same _ n has.in_range lt (has.of_others positive ∙ up) in
      subst L (sym (h.nodes_are n lt).children_are) (Contains-into_filter (is_child tree n) (range_with_len 0 (size tree)) c (Contains-range (size tree) c in_range) (and_from (ltb 0 c) (eqb (node_of tree c).parent n) (lt-ltb 0 c positive) (eq-eqb (node_of tree c).parent n number)))
    where
      not_first : (0 < c) ⊎ (c ≤ 0) → 0 < c
      not_first (inl fine) = fine
      not_first (inr none) =
          let first : (square_of tree 0).level ≡ 0 = level_of_first tree.grid points cap (squares tree) positive inside h.cells_are (omega (arith, as_many)) in
          let e : c ≡ 0 = omega arith in
          absurd (omega (arith, first, ap (λ k. (square_of tree k).level) e))

  -- in order they are the quarters of the cell that stand in the tree: those with a point, where the cell has more points than the capacity
  pub children_squares : (n : ℕ) → n < size tree → (square_of tree n).level < tree.grid → map (square_of tree) (node_of tree n).children ≡ below points cap (square_of tree n)
  children_squares n lt room =
      ap (map (square_of tree)) (h.nodes_are n lt).children_are ∙
      same_list (map (square_of tree) (children_of tree n)) (below points cap (square_of tree n))
      (AllPairs-map IsBefore (square_of tree) (children_of tree n) (AllPairs-filter (λ a b. IsBefore (square_of tree a) (square_of tree b)) (is_child tree n) (range_with_len 0 (size tree))
      (λ i j d l in_range. let r = AllPairs-range (size tree) i j d l in_range in h.cells_are.ascending _ _ no_square r.0 (omega (arith, r.1, as_many)))))
      ascends down up
    where
      ascends : AllPairs IsBefore (below points cap (square_of tree n))
      ascends =
          let P : List Square → Type 0 = λ l. AllPairs IsBefore l in
          elim (cases_lt cap (count_in points (square_of tree n))) [
            | inl over ↦ subst P (sym (below-split points cap (square_of tree n) over)) (AllPairs-filter IsBefore (λ q. ltb 0 (count_in points q)) (quarters (square_of tree n)) (quarters_ascend (square_of tree n)))
            | inr few ↦ subst P (sym (below-whole points cap (square_of tree n) few)) (λ i j d l in_range. absurd (omega arith))
          ]

      down : (s : Square) → Contains (map (square_of tree) (children_of tree n)) s → Contains (below points cap (square_of tree n)) s
      down s m =
          let i = image_of (square_of tree) (children_of tree n) s m in
          let L : List ℕ → Type 0 = λ l. Contains l i.source in
          let child = child_of n i.source lt (subst L (sym (h.nodes_are n lt).children_are) i.listed) in
          let cell = tree_cell_at tree points cap i.source h child.in_range in
          let lo : 0 < (square_of tree i.source).level = omega (arith, child.level_is) in
          let P : Square → Type 0 = λ v. Contains (below points cap v) (square_of tree i.source) in
          let Q : Square → Type 0 = λ v. Contains (below points cap (square_of tree n)) v in
          subst Q i.gives (subst P child.parent_is (elim cell.reached [
            | inl is_root ↦ absurd (let z : (square_of tree i.source).level ≡ 0 = ap (λ (v : Square). v.level) is_root in omega arith)
            | inr reached ↦ below_has points cap (square_of tree i.source) lo reached.1 cell.occupied
          ]))

      up : (s : Square) → Contains (below points cap (square_of tree n)) s → Contains (map (square_of tree) (children_of tree n)) s
      up s m =
          let b = below_is points cap (square_of tree n) s m in
          let here = tree_cell_at tree points cap n h lt in
          let S : Square → Type 0 = λ v. cap < count_in points v in
          let in_tree : IsTreeCell tree.grid points cap s = IsTreeCell-from_below tree.grid points cap s (b.quarter.of_grid ∙ here.of_grid) (omega (arith, b.quarter.level)) (omega (arith, b.quarter.level)) b.occupied (subst S (sym b.quarter.parent_is) b.split) in
          let k = h.cells_are.whole s in_tree in
          let in_range : k.0 < size tree = omega (arith, k.1, as_many) in
          let is : square_of tree k.0 ≡ s = get_or_default (squares tree) k.0 no_square s k.1 ∙ k.2 in
          let level : (square_of tree k.0).level ≡ s.level = ap (λ (v : Square). v.level) is in
          let L : List ℕ → Type 0 = λ l. Contains l k.0 in
          let listed = subst L (h.nodes_are n lt).children_are (child_listed n k.0 lt in_range (omega (arith, b.quarter.level)) (ap parent is ∙ b.quarter.parent_is)) in
          let Q : Square → Type 0 = λ v. Contains (map (square_of tree) (children_of tree n)) v in
          subst Q is (Contains-into_map (square_of tree) (children_of tree n) k.0 listed)
