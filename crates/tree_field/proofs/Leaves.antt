-- The leaf of a point, and which nodes it is under.
use Rattle.std.proofs.Common.{ℕ, ◌≡◌, ◌+◌, ◌-◌, ◌<◌, ◌≤◌, zero, suc, inl, inr, List, length, Bool, true, false, cond, refl, sym, ap, ◌∙◌, subst, arith}
use Rattle.std.specs.Prelude.{◌==◌, Contains}
use Rattle.std.proofs.lemmas.Bool.{cases_lt, or_cases, or_right, ltb-true, ltb-false, eqb-true}
use mathlib.Core.Logic.{⊎_elim}
use Rattle.points.specs.declared.Point.{Point}
use Rattle.points.specs.Points.{place}
use Rattle.cell_name.specs.Square.{Square, parent, Holds, holds_test}
use Rattle.cell_name.proofs.Cells.{Holds-square_at, Holds-parent, parent-square_at}
use Rattle.cell_name.proofs.HoldsTest.{Holds-from_test, test-from_Holds}
use Rattle.cell_lists.proofs.OneEntry.{cell_is, listed}
use Rattle.quadtree.specs.Tree.{count_in, AreInGrid, IsTreeCell, IsLeaf, is_over, AreExactly}
use Rattle.quadtree.proofs.LeafLevel.{cell_of, IsListed, IsLeafLevel, leaf_level_exists, tree_at_next}
use Rattle.soundness.specs.Accounts.{under}
use Rattle.soundness.proofs.Nodes.{strong, under-root, under-parent, under-self}
use Rattle.tree_field.specs.Field.{leaf_below, leaf_at}
use Rattle.tree_field.proofs.Numbers.{number_among, cell_at, above, tree_cell, number_below, cell_of_number, number_of_cell, level_positive, above_root, above_first, cell_above, above_number}

-- tests that say the same
pub same_test : (a b : Bool) → (a ≡ true → b ≡ true) → (b ≡ true → a ≡ true) → a ≡ b
same_test true b f g = sym (f refl)
same_test false true f g = g refl
same_test false false f g = refl

-- a leaf from a level on
record IsFirstLeaf (grid : ℕ) (points : List Point) (cap : ℕ) (p : Point) (c : Square) : Type 0 where
  pub level : ℕ
  pub is_cell : c ≡ cell_of grid p level
  pub leaf : IsLeaf grid points cap (cell_of grid p level)

leaf_from : (grid : ℕ) (points : List Point) (cap : ℕ) (p : Point) → IsListed grid points p → (levels : ℕ) → levels ≤ grid → IsTreeCell grid points cap (cell_of grid p (grid - levels)) → IsFirstLeaf grid points cap p (leaf_below points cap levels grid (place p))
unfolding leaf_below
leaf_from grid points cap p given zero le h = record { level = grid; is_cell = refl; leaf = record { in_tree = subst (λ k. IsTreeCell grid points cap (cell_of grid p k)) (omega arith) h; ends = inr refl } }
leaf_from grid points cap p given (suc levels) le h =
    step (is_over points cap (cell_of grid p (grid - suc levels))) refl
    (λ over. leaf_from grid points cap p given levels (omega arith) (subst (λ k. IsTreeCell grid points cap (cell_of grid p k)) (omega arith) (tree_at_next grid points cap p given (grid - suc levels) (omega arith) over)))
  where
    step : (b : Bool) → is_over points cap (cell_of grid p (grid - suc levels)) ≡ b → (cap < count_in points (cell_of grid p (grid - suc levels)) → IsFirstLeaf grid points cap p (leaf_below points cap levels grid (place p)))
        → IsFirstLeaf grid points cap p (cond b (leaf_below points cap levels grid (place p)) (cell_of grid p (grid - suc levels)))
    step true e further = further (ltb-true cap _ e)
    step false e further = record { level = grid - suc levels; is_cell = refl; leaf = record { in_tree = h; ends = inl (ltb-false cap _ e) } }

-- the leaf of a point of the list, and its level
pub record HasLeaf (grid : ℕ) (points : List Point) (cap : ℕ) (p : Point) : Type 0 where
  pub level : ℕ
  pub is_cell : leaf_at points cap grid (place p) ≡ cell_of grid p level
  pub leaf_level : IsLeafLevel grid points cap p level

pub has_leaf : (grid : ℕ) (points : List Point) (cap : ℕ) (p : Point) → 0 < grid → IsListed grid points p → HasLeaf grid points cap p
has_leaf grid points cap p positive given =
    let l = leaf_level_exists grid points cap p positive given in
    let first : IsTreeCell grid points cap (cell_of grid p (grid - grid)) = subst (λ k. IsTreeCell grid points cap (cell_of grid p k)) (omega arith) (l.1.in_tree 0 (omega arith)) in
    let f = leaf_from grid points cap p given grid (omega arith) first in
    let e : f.level ≡ l.0 = l.1.no_other f.level f.leaf in
    record { level = l.0; is_cell = f.is_cell ∙ ap (cell_of grid p) e; leaf_level = l.1 }

module _ (grid : ℕ) (points : List Point) (cap : ℕ) (cells : List Square) (positive : 0 < grid) (inside : AreInGrid grid points) (are : AreExactly (IsTreeCell grid points cap) cells) where
  abbrev pub leaf_number : Point → ℕ
  leaf_number p = number_among cells (leaf_at points cap grid (place p))

  pub leaf_is : (p : Point) → Contains points p → IsLeaf grid points cap (leaf_at points cap grid (place p))
  leaf_is p h =
      let l = has_leaf grid points cap p positive (listed grid points p inside h) in
      subst (IsLeaf grid points cap) (sym l.is_cell) l.leaf_level.leaf

  pub leaf_holds : (p : Point) → Contains points p → Holds (leaf_at points cap grid (place p)) p.x p.y
  leaf_holds p h =
      let given = listed grid points p inside h in
      let l = has_leaf grid points cap p positive given in
      subst (λ c. Holds c p.x p.y) (sym l.is_cell) (Holds-square_at grid l.level p.x p.y given.in_grid)

  -- the only leaf that holds the point
  pub only_leaf : (p : Point) → Contains points p → (c : Square) → IsLeaf grid points cap c → Holds c p.x p.y → c ≡ leaf_at points cap grid (place p)
  only_leaf p h c leaf held =
      let given = listed grid points p inside h in
      let l = has_leaf grid points cap p positive given in
      let e : c ≡ cell_of grid p c.level = cell_is grid c p leaf.in_tree.of_grid given.in_grid held in
      e ∙ ap (cell_of grid p) (l.leaf_level.no_other c.level (subst (IsLeaf grid points cap) e leaf)) ∙ sym l.is_cell

  pub leaf_number_below : (p : Point) → Contains points p → leaf_number p < length cells
  leaf_number_below p h = number_below grid points cap cells positive inside are _ (leaf_is p h).in_tree

  pub cell_of_leaf : (p : Point) → Contains points p → cell_at cells (leaf_number p) ≡ leaf_at points cap grid (place p)
  cell_of_leaf p h = cell_of_number grid points cap cells positive inside are _ (leaf_is p h).in_tree

  -- what is above a cell that holds a place holds it
  holds_above : (p : Point) (m n : ℕ) → m < length cells → under (above cells) m n ≡ true → Holds (cell_at cells m) p.x p.y → Holds (cell_at cells n) p.x p.y
  holds_above p m n = strong (λ m. m < length cells → under (above cells) m n ≡ true → Holds (cell_at cells m) p.x p.y → Holds (cell_at cells n) p.x p.y) step m
    where
      root_is : above cells 0 ≡ 0
      root_is = above_root grid points cap cells positive inside are

      first : (k : ℕ) → 0 < k → above cells k < k
      first = above_first grid points cap cells positive inside are

      step : (m : ℕ) → ((k : ℕ) → k < m → k < length cells → under (above cells) k n ≡ true → Holds (cell_at cells k) p.x p.y → Holds (cell_at cells n) p.x p.y)
          → m < length cells → under (above cells) m n ≡ true → Holds (cell_at cells m) p.x p.y → Holds (cell_at cells n) p.x p.y
      step zero ih lt e held = subst (λ k. Holds (cell_at cells k) p.x p.y) (eqb-true 0 n (sym (under-root (above cells) root_is first n) ∙ e)) held
      step (suc m) ih lt e held = ⊎_elim
          (λ t. subst (λ k. Holds (cell_at cells k) p.x p.y) (eqb-true (suc m) n t) held)
          (λ t.
          let c : Square = cell_at cells (suc m) in
          let in_tree = tree_cell grid points cap cells positive inside are (suc m) lt in
          let before = first (suc m) (omega arith) in
          ih (above cells (suc m)) before (omega arith) t
          (subst (λ d. Holds d p.x p.y) (sym (cell_above grid points cap cells positive inside are (suc m) (omega arith) lt))
          (Holds-parent c p.x p.y (level_positive grid points cap cells positive inside are (suc m) (omega arith) lt) (omega (arith, in_tree.level_in_grid, in_tree.of_grid)) held)))
          (or_cases (suc m == n) (under (above cells) (above cells (suc m)) n) (sym (under-parent (above cells) root_is first (suc m) n (omega arith)) ∙ e))

  -- a point's cell of a level is above its leaf
  above_leaf : (p : Point) → Contains points p → (j m k : ℕ) → m ≡ j + k → ((l : ℕ) → l ≤ m → IsTreeCell grid points cap (cell_of grid p l))
      → under (above cells) (number_among cells (cell_of grid p m)) (number_among cells (cell_of grid p k)) ≡ true
  above_leaf p h zero m k e all =
      ap (λ l. under (above cells) (number_among cells (cell_of grid p l)) (number_among cells (cell_of grid p k))) (omega arith)
      ∙ under-self (above cells) (above_root grid points cap cells positive inside are) (above_first grid points cap cells positive inside are) (number_among cells (cell_of grid p k))
  above_leaf p h (suc j) m k e all =
      let root_is = above_root grid points cap cells positive inside are in
      let first = above_first grid points cap cells positive inside are in
      let here = all m (omega arith) in
      let c : Square = cell_of grid p m in
      let n : ℕ = number_among cells c in
      let next : m - 1 + 1 ≡ m = omega arith in
      let whole : parent (cell_of grid p (m - 1 + 1)) ≡ cell_of grid p (m - 1) = parent-square_at grid (m - 1) p.x p.y (omega (arith, here.level_in_grid)) in
      let up : parent c ≡ cell_of grid p (m - 1) = rw next at whole in
      let above_is : above cells n ≡ number_among cells (cell_of grid p (m - 1)) = above_number grid points cap cells positive inside are c here ∙ ap (number_among cells) up in
      let ih = above_leaf p h j (m - 1) k (omega arith) (λ l le. all l (omega arith)) in
      elim (cases_lt 0 n) [
        | inl lo ↦ under-parent (above cells) root_is first n (number_among cells (cell_of grid p k)) lo ∙ or_right _ _ (ap (λ m. under (above cells) m (number_among cells (cell_of grid p k))) above_is ∙ ih)
        | inr le ↦ ap (λ m. under (above cells) m (number_among cells (cell_of grid p k))) (zero_is n le ∙ sym (ap (above cells) (zero_is n le) ∙ root_is) ∙ above_is) ∙ ih
      ]
    where
      zero_is : (n : ℕ) → n ≤ 0 → n ≡ 0
      zero_is n le = omega arith

  -- a node is above a point's leaf exactly where its cell holds the point
  pub under_is_holding : (p : Point) → Contains points p → (n : ℕ) → n < length cells → under (above cells) (leaf_number p) n ≡ holds_test (cell_at cells n) p.x p.y
  under_is_holding p h n lt = same_test _ _
      (λ e. test-from_Holds (cell_at cells n) p.x p.y (holds_above p (leaf_number p) n (leaf_number_below p h) e (subst (λ c. Holds c p.x p.y) (sym (cell_of_leaf p h)) (leaf_holds p h))))
      (λ e.
      let given = listed grid points p inside h in
      let l = has_leaf grid points cap p positive given in
      let c : Square = cell_at cells n in
      let here = tree_cell grid points cap cells positive inside are n lt in
      let is : c ≡ cell_of grid p c.level = cell_is grid c p here.of_grid given.in_grid (Holds-from_test c p.x p.y e) in
      let le : c.level ≤ l.level = l.leaf_level.no_deeper c.level (subst (IsTreeCell grid points cap) is here) in
      let u = above_leaf p h (l.level - c.level) l.level c.level (omega arith) l.leaf_level.in_tree in
      ap (λ m. under (above cells) m n) (ap (number_among cells) l.is_cell)
      ∙ ap (under (above cells) (number_among cells (cell_of grid p l.level))) (sym (number_of_cell grid points cap cells positive inside are n lt) ∙ ap (number_among cells) is)
      ∙ u)
