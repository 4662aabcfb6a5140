-- A tree of the program and its lists, in the words of the field.
use Rattle.std.proofs.Common.{ℕ, ◌≡◌, ◌+◌, ◌<◌, List, [], ◌∷◌, ◌++◌, length, map, get_or, Bool, true, false, cond, ◌&&◌, filter, Some, refl, sym, ap, ap₂, ◌∙◌, subst, arith, append_assoc, length-append}
use Rattle.std.specs.Prelude.{nat_lt, All, Contains}
use Rattle.std.specs.List.{range_with_len}
use Rattle.std.proofs.lemmas.Bool.{false≢true, and_from, lt-ltb}
use Rattle.std.proofs.lemmas.List.{length-map}
use Rattle.std.proofs.lemmas.List.Elements.{All-contains, filter_agree}
use Rattle.std.proofs.lemmas.List.Kept.{AllPairs-from_increasing}
use Rattle.std.proofs.lemmas.Option.{slice_get-get_or}
use mathlib.Core.Logic.{⊎_elim}
use Rattle.cell_name.specs.Cell.{square}
use Rattle.cell_name.specs.Order.{IsBefore}
use Rattle.cell_name.specs.Square.{Square, holds_test}
use Rattle.cell_lists.specs.Entries.{IsEntry}
use Rattle.cell_lists.specs.EntryLists.{lists_of}
use Rattle.cell_lists.specs.ListAt.{list_at}
use Rattle.cell_lists.proofs.CellNumbers.{number_listed, number_before}
use Rattle.cell_lists.proofs.OneEntry.{in_tree_of}
use Rattle.limits.proofs.Grids.{grid_positive}
use Rattle.points.specs.Points.{is_source}
use Rattle.points.specs.declared.Point.{Point}
use Rattle.quadtree.specs.Members.{holds_point, holds_position, members_of}
use Rattle.cell_name.specs.Quarters.{quarters}
use Rattle.quadtree.specs.Tree.{AreInGrid, count_in, IsTreeCell, has_target, has_source, is_source_in}
use Rattle.quadtree.specs.TreeModel.{TreeModel, squares, size, square_of, node_of, leaf_of, is_child, children_of, IsTreeOf}
use Rattle.quadtree.proofs.Distinct.{Contains-filter}
use Rattle.quadtree.proofs.Levels.{below-split}
use Rattle.quadtree.proofs.Parents.{leaf_or_split}
use Rattle.quadtree.proofs.PointKinds.{point_at}
use Rattle.quadtree.proofs.TreeChildren.{children_squares, tree_cell_at}
use Rattle.tree_field.specs.Field.{sources_in}
use Rattle.tree_field.specs.Program.{ListsOfTree, source_children, IsNodeOfField, NodesOfTree, LeavesOfTree}
use Rattle.quadtree.proofs.Ascending.{same_list}
use Rattle.tree_field.proofs.Leaves.{same_test, only_leaf}
use Rattle.exact_math.proofs.Lists.{image_of, Contains-into_map, AllPairs-map, AllPairs-both, All-from_members, range_below, filter-filter, filter-map, filter_same}
use Rattle.quadtree.proofs.Occupants.{occupied_from_source}

-- ---- cells and entries
pub lists_of_tree : ListsOfTree
lists_of_tree tree lists points cap these inside h are a = record {
  cells = same_list these.cells (squares tree) a.cells_are.ascending h.cells_are.ascending
      (λ c m. h.cells_are.whole c (All-contains (IsTreeCell tree.grid points cap) these.cells c a.cells_are.each m))
      (λ c m. a.cells_are.whole c (All-contains (IsTreeCell tree.grid points cap) (squares tree) c h.cells_are.each m));
  entries = λ letter n lt.
      let b : Square = square_of tree n in
      let rows : List ℕ = list_at (lists_of lists letter) n in
      let es = a.entries_are letter b (tree_cell_at tree points cap n h lt) in
      let is = are.each points cap inside h letter n lt in
      same_list (these.entries letter b) (map (square_of tree) rows) es.ascending
      (AllPairs-map IsBefore (square_of tree) rows (AllPairs-both (λ c. c < size tree) (λ x y. x < y) (λ c d. IsBefore (square_of tree c) (square_of tree d)) rows is.numbers (AllPairs-from_increasing rows is.ascending)
      (λ c d lc ld before. number_before tree h.cells_are.ascending c d before ld)))
      (λ c m.
      let e = All-contains (IsEntry tree.grid points cap letter b) (these.entries letter b) c es.each m in
      let k = number_listed tree c (h.cells_are.whole c (in_tree_of tree.grid points cap letter b c e.pair).1) in
      subst (Contains (map (square_of tree) rows)) k.2 (Contains-into_map (square_of tree) rows k.0 ((is.exact k.0 k.1).1 (subst (IsEntry tree.grid points cap letter b) (sym k.2) e))))
      (λ c m.
      let i = image_of (square_of tree) rows c m in
      es.whole c (subst (IsEntry tree.grid points cap letter b) i.gives ((is.exact i.source (All-contains (λ c. c < size tree) rows i.source is.numbers i.listed)).0 i.listed)));
}

-- ---- the points of a cell
at_front : {A : Type 0} (front : List A) (x : A) (xs : List A) (d : A) → get_or (front ++ x ∷ xs) (length front) d ≡ x
at_front [] x xs d = refl
at_front (y ∷ front) x xs d = at_front front x xs d

abbrev points_from : Square → Point → List Point → ℕ → ℕ → List Point
points_from c d all start n = map (λ k. get_or all k d) (filter (λ k. holds_position c all k) (range_with_len start n))

held_from : (c : Square) (d : Point) (front points : List Point) → points_from c d (front ++ points) (length front) (length points) ≡ filter (λ p. holds_test c p.x p.y) points
held_from c d front [] = refl
held_from c d front (p ∷ ps) =
    let all : List Point = front ++ p ∷ ps in
    let shift : (front ++ p ∷ []) ++ ps ≡ all = append_assoc front (p ∷ []) ps in
    let long : length (front ++ p ∷ []) ≡ length front + 1 = omega (arith, length-append front (p ∷ [])) in
    let rest : points_from c d all (length front + 1) (length ps) ≡ filter (λ p. holds_test c p.x p.y) ps =
    subst (λ n. points_from c d all n (length ps) ≡ filter (λ p. holds_test c p.x p.y) ps) long (subst (λ xs. points_from c d xs (length (front ++ p ∷ [])) (length ps) ≡ filter (λ p. holds_test c p.x p.y) ps) shift (held_from c d (front ++ p ∷ []) ps)) in
    let here : holds_position c all (length front) ≡ holds_test c p.x p.y = ap (holds_point c) (slice_get-get_or all (length front) p (omega (arith, length-append front (p ∷ ps))) ∙ ap Some (at_front front p ps p)) in
    push (λ k. get_or all k d) (holds_position c all (length front)) (length front) (filter (λ k. holds_position c all k) (range_with_len (length front + 1) (length ps))) p (filter (λ p. holds_test c p.x p.y) ps) (at_front front p ps d) rest
    ∙ ap (λ b. cond b (p ∷ filter (λ p. holds_test c p.x p.y) ps) (filter (λ p. holds_test c p.x p.y) ps)) here
  where
    push : (g : ℕ → Point) (b : Bool) (k : ℕ) (ks : List ℕ) (q : Point) (qs : List Point) → g k ≡ q → map g ks ≡ qs → map g (cond b (k ∷ ks) ks) ≡ cond b (q ∷ qs) qs
    push g true k ks q qs e f = ap₂ (λ x xs. x ∷ xs) e f
    push g false k ks q qs e f = f

and_turned : (a b : Bool) → (a && b) ≡ (b && a)
and_turned true true = refl
and_turned true false = refl
and_turned false true = refl
and_turned false false = refl

members_are : (points : List Point) (c : Square) (d : Point) → filter (λ p. is_source p.kind) (map (λ k. get_or points k d) (members_of points c)) ≡ sources_in points c
members_are points c d =
    ap (filter (λ p. is_source p.kind)) (held_from c d [] points)
    ∙ filter-filter (λ p. is_source p.kind) (λ p. holds_test c p.x p.y) points
    ∙ filter_agree (λ p. holds_test c p.x p.y && is_source p.kind) (is_source_in c) (λ p. and_turned (holds_test c p.x p.y) (is_source p.kind)) points

-- ---- nodes
module _ (tree : TreeModel) (points : List Point) (cap : ℕ) (inside : AreInGrid tree.grid points) (h : IsTreeOf tree points cap) where
  as_many : length (squares tree) ≡ size tree
  as_many = length-map tree.cells square

  source_is : (n : ℕ) → n < size tree → (node_of tree n).has_source ≡ has_source points (square_of tree n)
  source_is n lt = let node = h.nodes_are n lt in same_test _ _ node.source.0 node.source.1

  target_is : (n : ℕ) → n < size tree → (node_of tree n).has_target ≡ has_target points (square_of tree n)
  target_is n lt = let node = h.nodes_are n lt in same_test _ _ node.target.0 node.target.1

  -- a node that is no leaf is split
  split_is : (n : ℕ) → n < size tree → (node_of tree n).is_leaf ≡ false → (cap < count_in points (square_of tree n))
  split_is n lt e = ⊎_elim (λ leaf. absurd (false≢true (sym e ∙ (h.nodes_are n lt).leaf.1 leaf))) (λ split. split.0) (leaf_or_split tree.grid points cap (square_of tree n) (tree_cell_at tree points cap n h lt))

  room_is : (n : ℕ) → n < size tree → (node_of tree n).is_leaf ≡ false → (square_of tree n).level < tree.grid
  room_is n lt e = ⊎_elim (λ leaf. absurd (false≢true (sym e ∙ (h.nodes_are n lt).leaf.1 leaf))) (λ split. split.1) (leaf_or_split tree.grid points cap (square_of tree n) (tree_cell_at tree points cap n h lt))

  -- a quarter with a source has a point
  with_point : (q : Square) → (nat_lt 0 (count_in points q) && has_source points q) ≡ has_source points q
  with_point q = step (has_source points q) refl
    where
      step : (b : Bool) → has_source points q ≡ b → (nat_lt 0 (count_in points q) && b) ≡ b
      step true e = let some = occupied_from_source points q e in and_from (nat_lt 0 (count_in points q)) true (lt-ltb 0 (count_in points q) (omega (arith, some))) refl
      step false e = and_turned (nat_lt 0 (count_in points q)) false

  children_are : (n : ℕ) → n < size tree → (node_of tree n).is_leaf ≡ false → map (square_of tree) (source_children tree n) ≡ filter (has_source points) (quarters (square_of tree n))
  children_are n lt leaf =
      ap (map (square_of tree)) (filter_same (λ m. (node_of tree m).has_source) (λ m. has_source points (square_of tree m)) (children_of tree n) sources)
      ∙ sym (filter-map (has_source points) (square_of tree) (children_of tree n))
      ∙ ap (λ l. filter (has_source points) (map (square_of tree) l)) (sym (h.nodes_are n lt).children_are)
      ∙ ap (filter (has_source points)) (children_squares tree points cap inside h n lt (room_is n lt leaf) ∙ below-split points cap (square_of tree n) (split_is n lt leaf))
      ∙ filter-filter (has_source points) (λ q. nat_lt 0 (count_in points q)) (quarters (square_of tree n))
      ∙ filter_agree (λ q. nat_lt 0 (count_in points q) && has_source points q) (has_source points) with_point (quarters (square_of tree n))
    where
      sources : All (λ m. (node_of tree m).has_source ≡ has_source points (square_of tree m)) (children_of tree n)
      sources = All-from_members (λ m. (node_of tree m).has_source ≡ has_source points (square_of tree m)) (children_of tree n) (λ m listed.
          source_is m (range_below (size tree) m (Contains-filter (is_child tree n) (range_with_len 0 (size tree)) m listed).0))

  node_is : (n : ℕ) → n < size tree → IsNodeOfField tree points n
  node_is n lt = record {
    source = source_is n lt;
    target = target_is n lt;
    members = λ d. ap (λ l. filter (λ p. is_source p.kind) (map (λ k. get_or points k d) l)) (h.nodes_are n lt).members_are ∙ members_are points (square_of tree n) d;
    children = λ e. children_are n lt e;
  }

pub nodes_of_tree : NodesOfTree
nodes_of_tree tree points cap inside h n lt = node_is tree points cap inside h n lt

pub leaves_of_tree : LeavesOfTree
leaves_of_tree tree points cap inside h k p e =
    let leaf = h.leaves_are k p e in
    let at = point_at points k p e in
    sym (only_leaf tree.grid points cap (squares tree) (grid_positive tree.grid h.known_grid) inside h.cells_are p (k, at.inside, at.here) (square_of tree (leaf_of tree k)) leaf.leaf leaf.held)
