-- Numbers, levels and parents of a tree's cells.
use Rattle.std.proofs.Common.{ℕ, ◌≡◌, ◌-◌, ◌<◌, ◌≤◌, inl, inr, List, sym, ap, ◌∙◌, subst, arith}
use Rattle.std.specs.Prelude.{AllPairs, Contains, IsTrue, Bool, ◌↔◌}
use Rattle.std.proofs.lemmas.Bool.{cases_lt}
use Rattle.std.proofs.lemmas.List.{get_or_default, length-map}
use Rattle.limits.proofs.Grids.{grid_positive}
use Rattle.points.specs.declared.Point.{Point}
use Rattle.cell_name.specs.Cell.{square}
use Rattle.cell_name.specs.Order.{IsBefore}
use Rattle.cell_name.specs.Square.{Square, no_square, root, parent, Touches}
use Rattle.cell_name.proofs.Order.{IsBefore-irrefl}
use Rattle.quadtree.specs.Tree.{IsTreeCell}
use Rattle.quadtree.specs.TreeModel.{TreeModel, size, squares, square_of, node_of, HasParent, IsTree}
use Rattle.quadtree.proofs.Parents.{IsTreeCell-parent}
use Rattle.quadtree.proofs.TreeChildren.{tree_cell_at}

-- a listed cell has a number
pub number_listed : (tree : TreeModel) (s : Square) → Contains (squares tree) s → (n : ℕ) × (n < size tree) × (square_of tree n ≡ s)
number_listed tree s h = (h.0, omega (arith, h.1, length-map tree.cells square), get_or_default (squares tree) h.0 no_square s h.1 ∙ h.2)

-- of two numbers the smaller is that of the earlier cell
pub number_before : (tree : TreeModel) → AllPairs IsBefore (squares tree) → (m n : ℕ) → m < n → n < size tree → IsBefore (square_of tree m) (square_of tree n)
number_before tree up m n lt hi = up m n no_square lt (omega (arith, length-map tree.cells square))

-- a cell has one number
pub same_number : (tree : TreeModel) → AllPairs IsBefore (squares tree) → (m n : ℕ) → m < size tree → n < size tree → square_of tree m ≡ square_of tree n → m ≡ n
same_number tree up m n lm ln e =
    elim (cases_lt m n) [
      | inl lt ↦ absurd (IsBefore-irrefl (square_of tree m) (square_of tree n) e (number_before tree up m n lt ln))
      | inr ge ↦
          elim (cases_lt n m) [
            | inl gt ↦ absurd (IsBefore-irrefl (square_of tree n) (square_of tree m) (sym e) (number_before tree up n m gt lm))
            | inr le ↦ omega arith
          ]
    ]

pub level_in_grid : (tree : TreeModel) → IsTree tree → (n : ℕ) → n < size tree → (square_of tree n).level ≤ (square_of tree n).grid
level_in_grid tree h n lt =
    let c = tree_cell_at tree h.points h.cap n h.is_tree lt in
    omega (arith, c.of_grid, c.level_in_grid)

pub level_at_most : (tree : TreeModel) → IsTree tree → (n : ℕ) → n < size tree → (square_of tree n).level ≤ tree.grid
level_at_most tree h n lt = (tree_cell_at tree h.points h.cap n h.is_tree lt).level_in_grid

-- a cell of level 0 is the whole grid
level_zero_root : (grid : ℕ) (points : List Point) (cap : ℕ) (c : Square) → IsTreeCell grid points cap c → c.level ≤ 0 → c ≡ root grid
level_zero_root grid points cap c h le = elim h.reached [ inl e ↦ e | inr below ↦ absurd (omega (arith, below.0)) ]

-- each cell but the first is below the whole grid
pub level_positive : (tree : TreeModel) → IsTree tree → (n : ℕ) → 0 < n → n < size tree → 0 < (square_of tree n).level
level_positive tree h n lo hi =
    elim (cases_lt 0 (square_of tree n).level) [
      | inl lt ↦ lt
      | inr zero ↦
          let e = level_zero_root tree.grid h.points h.cap (square_of tree n) (tree_cell_at tree h.points h.cap n h.is_tree hi) zero in
          let i : (square_of tree n).i ≡ 0 = ap (λ (s : Square). s.i) e in
          let j : (square_of tree n).j ≡ 0 = ap (λ (s : Square). s.j) e in
          let before = number_before tree h.is_tree.cells_are.ascending 0 n lo hi in
          absurd (elim before.before [
            | inl lt ↦ omega arith
            | inr rest ↦ elim rest.1 [ inl lt ↦ omega arith | inr last ↦ absurd (omega (arith, last.1)) ]
          ])
    ]

pub first_is_root : (tree : TreeModel) → IsTree tree → (n : ℕ) → n < size tree → (square_of tree n).level ≡ 0 → n ≡ 0
first_is_root tree h n lt e = elim (cases_lt 0 n) [ inl lo ↦ absurd (omega (arith, level_positive tree h n lo lt)) | inr le ↦ omega arith ]

-- the first cell is the whole grid
pub first_level : (tree : TreeModel) → IsTree tree → 0 < size tree → (square_of tree 0).level ≡ 0
first_level tree h lt =
    elim (cases_lt 0 (square_of tree 0).level) [
      | inr zero ↦ omega arith
      | inl lo ↦
          let cell = tree_cell_at tree h.points h.cap 0 h.is_tree lt in
          let up = number_listed tree (parent (square_of tree 0)) (h.is_tree.cells_are.whole (parent (square_of tree 0)) (IsTreeCell-parent tree.grid h.points h.cap (square_of tree 0) (grid_positive tree.grid h.is_tree.known_grid) h.in_grid cell lo)) in
          let level : (square_of tree up.0).level ≡ (square_of tree 0).level - 1 = ap (λ (s : Square). s.level) up.2 in
          elim (cases_lt 0 up.0) [
            | inl after ↦ elim (number_before tree h.is_tree.cells_are.ascending 0 up.0 after up.1).before [ inl less ↦ absurd (omega (arith, less, level, lo)) | inr rest ↦ absurd (omega (arith, rest.0, level, lo)) ]
            | inr first ↦ let same : (square_of tree up.0).level ≡ (square_of tree 0).level = ap (λ n. (square_of tree n).level) (omega arith) in absurd (omega (arith, same, level, lo))
          ]
    ]

-- the parent of a cell below the whole grid has a number
pub parent_number : (tree : TreeModel) → IsTree tree → (c : ℕ) → c < size tree → 0 < (square_of tree c).level → (p : ℕ) × (p < size tree) × (square_of tree p ≡ parent (square_of tree c))
parent_number tree h c lt lo =
    let cell = tree_cell_at tree h.points h.cap c h.is_tree lt in
    number_listed tree (parent (square_of tree c)) (h.is_tree.cells_are.whole (parent (square_of tree c)) (IsTreeCell-parent tree.grid h.points h.cap (square_of tree c) (grid_positive tree.grid h.is_tree.known_grid) h.in_grid cell lo))

-- what the tree names as the parent is the parent, and comes before
pub record IsParentOf (tree : TreeModel) (b p : ℕ) : Type 0 where
  pub before : p < b
  pub in_range : p < size tree
  pub is_parent : square_of tree p ≡ parent (square_of tree b)

pub parent_before : (tree : TreeModel) → IsTree tree → (b : ℕ) → 0 < b → b < size tree → IsParentOf tree b (node_of tree b).parent
parent_before tree h b lo hi = record { before = before; in_range = has.in_range; is_parent = is }
  where
    has : HasParent tree b
    has = (h.is_tree.nodes_are b hi).parent_is

    is : square_of tree (node_of tree b).parent ≡ parent (square_of tree b)
    is = has.of_others lo

    before : (node_of tree b).parent < b
    before =
        let p : ℕ = (node_of tree b).parent in
        let level : (square_of tree p).level ≡ (square_of tree b).level - 1 = ap (λ (s : Square). s.level) is in
        let positive : 0 < (square_of tree b).level = level_positive tree h b lo hi in
        elim (cases_lt p b) [
          | inl lt ↦ lt
          | inr ge ↦
              elim (cases_lt b p) [
                | inr le ↦
                    let same : (square_of tree p).level ≡ (square_of tree b).level = ap (λ n. (square_of tree n).level) (omega arith) in
                    absurd (omega (arith, same, level, positive))
                | inl gt ↦ elim (number_before tree h.is_tree.cells_are.ascending b p gt has.in_range).before [ inl lt ↦ absurd (omega (arith, lt, level, positive)) | inr rest ↦ absurd (omega (arith, rest.0, level, positive)) ]
              ]
        ]

-- what the program tests of two cells is what holds of their numbers
pub touch_from_test : (tree : TreeModel) (x y : Square) (a b : ℕ) (r : Bool) → x ≡ square_of tree a → y ≡ square_of tree b → IsTrue r ↔ Touches x y → Touches (square_of tree a) (square_of tree b) → IsTrue r
touch_from_test tree x y a b r ex ey h t = let P : Square → Type 0 = λ v. Touches v y in let Q : Square → Type 0 = λ v. Touches (square_of tree a) v in h.1 (subst P (sym ex) (subst Q (sym ey) t))
