-- The children of a cell, and those that have a source.
use Rattle.std.proofs.Common.{ℕ, ◌≡◌, ◌<◌, ◌≤◌, List, get_or, length, take, Bool, true, false, cond, sym, ap, ◌∙◌, subst, arith}
use Rattle.std.specs.Prelude.{nat_lt, Contains, count_by}
use Rattle.std.proofs.lemmas.List.{length-map, length-take, take_all}
use Rattle.std.proofs.lemmas.List.Elements.{All-contains, Contains-get_or}
use Rattle.std.proofs.lemmas.List.Sums.{length-filter, count_by-le-length}
use Rattle.cell_name.specs.Quarters.{quarters}
use Rattle.field_basis.specs.Counts.{shifts_into}
use Rattle.field_basis.specs.Trees.{IsTreeOfPoints}
use Rattle.field_basis.specs.Place.{PlaceModel}
use Rattle.points.specs.declared.Point.{Point}
use Rattle.quadtree.specs.Tree.{count_in, has_source}
use Rattle.quadtree.specs.TreeModel.{TreeModel, size, square_of, node_of, children_of}
use Rattle.quadtree.proofs.Distinct.{Contains-filter, Contains-into_filter}
use Rattle.quadtree.proofs.Levels.{below-split}
use Rattle.quadtree.proofs.Limits.{in_grid}
use Rattle.quadtree.proofs.TreeChildren.{IsChildOf, child_of, children_squares}
use Rattle.tree_field.specs.Program.{with_source, source_children}
use Rattle.tree_field.proofs.Program.{nodes_of_tree}
use Rattle.tree_field.proofs.SourceChildren.{source_children_are}
use Rattle.upward_rows.specs.Behind.{IsBehind, AreBehind}
use Rattle.upward_rows.proofs.Trees.{inner_is}

module _ (points : List Point) (tree : TreeModel) (h : IsTreeOfPoints points tree) (n : ℕ) (lt : n < size tree) where
  -- ---- one of the children
  module _ (children : List ℕ) (k : ℕ) (are : children ≡ (node_of tree n).children) (lk : k < length children) where
    listed : Contains (node_of tree n).children (get_or children k 0)
    listed = subst (λ l. Contains l (get_or children k 0)) are (Contains-get_or children k 0 lk)

    pub child_at : IsChildOf tree n (get_or children k 0)
    child_at = child_of tree points h.cap (in_grid tree.grid points h.within.range) h.is_tree n (get_or children k 0) lt listed

    child_with_source : (node_of tree (get_or children k 0)).has_source ≡ true → Contains (source_children tree n) (get_or children k 0)
    child_with_source source =
        subst (λ l. Contains l (get_or children k 0)) (source_children_are tree points h.cap h.is_tree n lt)
        (Contains-into_filter (λ m. (node_of tree m).has_source) (node_of tree n).children (get_or children k 0) listed source)

    -- one that has a source has its place behind
    pub child_behind : (P : ℕ) (behind : List PlaceModel) → AreBehind P points tree behind (source_children tree n) → (node_of tree (get_or children k 0)).has_source ≡ true → IsBehind P points tree behind (get_or children k 0)
    child_behind P behind h source = All-contains (IsBehind P points tree behind) (source_children tree n) (get_or children k 0) h.each (child_with_source source)

  -- ---- those that have a source
  pub kept_whole : (children : List ℕ) (k : ℕ) → children ≡ (node_of tree n).children → length children ≤ k → with_source tree (take k children) ≡ source_children tree n
  kept_whole children k are le = ap (with_source tree) (take_all k children le ∙ are) ∙ source_children_are tree points h.cap h.is_tree n lt

  pub source_child_is : (m : ℕ) → Contains (source_children tree n) m → IsChildOf tree n m
  source_child_is m kept =
      child_of tree points h.cap (in_grid tree.grid points h.within.range) h.is_tree n m lt
      (subst (λ l. Contains l m) (sym (h.is_tree.nodes_are n lt).children_are) (Contains-filter (λ c. (node_of tree c).has_source) (children_of tree n) m kept).0)

  -- ---- how many they are
  pub children_few : (node_of tree n).is_leaf ≡ false → length (node_of tree n).children ≤ 4
  children_few e =
      let inner = inner_is tree points h.cap h.is_tree n lt e in
      let are = ap length (children_squares tree points h.cap (in_grid tree.grid points h.within.range) h.is_tree n lt inner.room ∙ below-split points h.cap (square_of tree n) inner.over) in
      let as_many = length-map (node_of tree n).children (square_of tree) in
      let kept = length-filter (λ q. nat_lt 0 (count_in points q)) (quarters (square_of tree n)) in
      let few = count_by-le-length (λ q. nat_lt 0 (count_in points q)) (quarters (square_of tree n)) in
      omega (arith, are, as_many, kept, few)

  pub shifts_of_cell : (node_of tree n).is_leaf ≡ false → length (source_children tree n) ≡ shifts_into points tree n
  shifts_of_cell e =
      sym (length-map (source_children tree n) (square_of tree))
      ∙ ap length ((nodes_of_tree tree points h.cap (in_grid tree.grid points h.within.range) h.is_tree n lt).children e)
      ∙ length-filter (has_source points) (quarters (square_of tree n))
      ∙ ap (λ b. cond {A = ℕ} b 0 (count_by (has_source points) (quarters (square_of tree n)))) (sym e)

-- of some numbers no more than they are
pub kept_few : (tree : TreeModel) (cells : List ℕ) (k : ℕ) → length (with_source tree (take k cells)) ≤ k
kept_few tree cells k =
    let p : ℕ → Bool = λ m. (node_of tree m).has_source in
    omega (arith, length-filter p (take k cells), count_by-le-length p (take k cells), length-take k cells)
