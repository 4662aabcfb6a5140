-- What a tree says of a cell by its number, in the words of the field.
use Rattle.std.proofs.Common.{ℕ, ◌≡◌, ◌+◌, ◌*◌, ◌%◌, ◌<◌, ◌≤◌, inl, inr, ◌⊎◌, List, [], ◌∷◌, ◌++◌, length, get_or, take, filter, Bool, true, false, cond, sym, ap, ap₂, ◌∙◌, subst, arith, append-nil}
use Rattle.std.specs.Prelude.{Contains, ◌==◌}
use Rattle.std.proofs.lemmas.Bool.{false≢true}
use Rattle.std.proofs.lemmas.List.{take_more}
use Rattle.std.proofs.lemmas.List.Elements.{filter-append}
use Rattle.cell_name.specs.Cell.{half_number}
use Rattle.cell_name.specs.Square.{Square, parent}
use Rattle.cell_name.specs.declared.cell.Quadrant.{Quadrant}
use Rattle.points.specs.declared.Point.{Point}
use Rattle.cell_name.specs.Quarters.{quarter}
use Rattle.quadtree.specs.Tree.{count_in, has_source}
use Rattle.quadtree.specs.TreeModel.{TreeModel, size, squares, square_of, node_of, IsTreeOf}
use Rattle.quadtree.proofs.TreeChildren.{tree_cell_at}
use Rattle.quadtree.proofs.Parents.{leaf_or_split, IsTreeCell-from_below}
use Rattle.cell_name.proofs.Quarters.{IsQuarter}
use Rattle.row_recursions.specs.Cells.{sign, quadrant_of}
use Rattle.exact_math.specs.Gaussian.{gaussian}
use Rattle.soundness.specs.Squares.{quadrant}
use Rattle.tree_field.specs.Field.{leaf_row, multipole_row}
use Rattle.quadtree.proofs.Occupants.{occupied_from_source}
use Rattle.tree_field.proofs.MultipoleRows.{multipole_row-leaf}

module _ (tree : TreeModel) (points : List Point) (capacity : ℕ) (is : IsTreeOf tree points capacity) where
  -- ---- leaves
  pub row_of_leaf : (n : ℕ) → n < size tree → (node_of tree n).is_leaf ≡ true → (k : ℕ) → multipole_row points capacity (square_of tree n) k ≡ leaf_row points (square_of tree n) k
  row_of_leaf n lt e k =
      let leaf = (is.nodes_are n lt).leaf.0 e in
      multipole_row-leaf points capacity (square_of tree n) (ends leaf.in_tree.of_grid leaf.ends) k
    where
      ends : (square_of tree n).grid ≡ tree.grid → (count_in points (square_of tree n) ≤ capacity) ⊎ ((square_of tree n).level ≡ tree.grid) → (count_in points (square_of tree n) ≤ capacity) ⊎ ((square_of tree n).grid ≤ (square_of tree n).level)
      ends g (inl few) = inl few
      ends g (inr last) = inr (omega arith)

  -- ---- other cells
  pub record IsInner (n : ℕ) : Type 0 where
    pub of_grid : (square_of tree n).grid ≡ tree.grid
    pub room : (square_of tree n).level < tree.grid
    pub over : capacity < count_in points (square_of tree n)

  pub inner_is : (n : ℕ) → n < size tree → (node_of tree n).is_leaf ≡ false → IsInner n
  inner_is n lt e =
      let here = tree_cell_at tree points capacity n is lt in
      elim (leaf_or_split tree.grid points capacity (square_of tree n) here) [
        | inl leaf ↦ absurd (false≢true (sym e ∙ (is.nodes_are n lt).leaf.1 leaf))
        | inr split ↦ record { of_grid = here.of_grid; room = split.1; over = split.0 }
      ]

  -- a quarter with a source is in the tree
  pub quarter_listed : (n : ℕ) (q : Square) → IsInner n → IsQuarter (square_of tree n) q → has_source points q ≡ true → Contains (squares tree) q
  quarter_listed n q inner is_quarter e =
      is.cells_are.whole q (IsTreeCell-from_below tree.grid points capacity q (is_quarter.of_grid ∙ inner.of_grid) (omega (arith, is_quarter.level)) (omega (arith, is_quarter.level, inner.room)) (occupied_from_source points q e)
      (subst (λ v. capacity < count_in points v) (sym is_quarter.parent_is) inner.over))

-- ---- the quadrant of a quarter
half_is : (i : ℕ) (b : Bool) → ((2 * i + half_number b) % 2 == 1) ≡ b
half_is i true = ap (λ n. n == 1) (let e : (2 * i + 1) % 2 ≡ 1 = omega arith in e)
half_is i false = ap (λ n. n == 1) (let e : (2 * i + 0) % 2 ≡ 0 = omega arith in e)

pub quadrant_is : (c : Square) (q : Quadrant) → quarter (parent c) q ≡ c → quadrant c ≡ quadrant_of q
quadrant_is c q e = ap quadrant (sym e) ∙ ap₂ (λ a b. gaussian (sign a) (sign b)) (half_is (parent c).i q.right) (half_is (parent c).j q.top)

-- ---- one more number
pub kept_more : (p : ℕ → Bool) (xs : List ℕ) (k : ℕ) → k < length xs → p (get_or xs k 0) ≡ true → filter p (take (k + 1) xs) ≡ filter p (take k xs) ++ get_or xs k 0 ∷ []
kept_more p xs k lt t = ap (filter p) (take_more xs k 0 lt) ∙ filter-append p (take k xs) (get_or xs k 0 ∷ []) ∙ ap (λ b. filter p (take k xs) ++ cond b (get_or xs k 0 ∷ []) []) t

pub kept_same : (p : ℕ → Bool) (xs : List ℕ) (k : ℕ) → k < length xs → p (get_or xs k 0) ≡ false → filter p (take (k + 1) xs) ≡ filter p (take k xs)
kept_same p xs k lt f =
    ap (filter p) (take_more xs k 0 lt) ∙ filter-append p (take k xs) (get_or xs k 0 ∷ []) ∙ ap (λ b. filter p (take k xs) ++ cond b (get_or xs k 0 ∷ []) []) f ∙ append-nil (filter p (take k xs))
