-- Cells, nodes, positions and leaves together are the tree.
use Rattle.std.proofs.Common.{ℕ, ◌≡◌, ◌<◌, ◌≤◌, List, [], ◌∷◌, length, get_or, map, ltb, eqb, Option, Some, refl, sym, ap, ◌∙◌, subst, arith}
use Rattle.std.specs.Prelude.{All, Contains, IsTrue, ◌↔◌, ◌&&◌, slice_get, slice_index}
use Rattle.std.specs.List.{range_with_len}
use Rattle.std.proofs.lemmas.List.{get_or-map, get_or_default, length-map}
use Rattle.std.proofs.lemmas.List.Edits.{length-between}
use Rattle.std.proofs.lemmas.List.Elements.{All-contains, All-from_get_or}
use Rattle.exact_math.specs.Orders.{IsCapacity}
use Rattle.limits.specs.Limits.{IsGrid, most_points, most_cells}
use Rattle.limits.proofs.Grids.{grid_positive}
use Rattle.points.specs.declared.Point.{Point}
use Rattle.cell_name.specs.declared.cell.Cell.{Cell}
use Rattle.cell_name.specs.Cell.{square}
use Rattle.cell_name.specs.Square.{Square, no_square, square_at, IsInGrid, Holds}
use Rattle.cell_name.proofs.Cells.{Holds-square_at, square_at-unique}
use Rattle.quadtree.specs.declared.children.Children.{Children}
use Rattle.quadtree.specs.declared.split.Run.{Run}
use Rattle.quadtree.specs.declared.tree.Node.{Node}
use Rattle.quadtree.specs.Families.{children_among, AreFamiliesTo}
use Rattle.quadtree.specs.Faults.{HasMoreCells}
use Rattle.quadtree.specs.Fields.{node_model, child_numbers, tree_of, HasRange, AreFieldsOfTree}
use Rattle.quadtree.specs.Members.{members_of}
use Rattle.quadtree.specs.Nodes.{AreNodesTo, IsInLeaf, LeavesAreApart, LeavesAreTo, blank_node}
use Rattle.quadtree.specs.Splitting.{squares_of, IsParentNumber}
use Rattle.quadtree.specs.Tree.{AreInGrid, IsTreeCell, IsLeaf, has_target, has_source, AreExactly}
use Rattle.quadtree.specs.TreeModel.{NodeModel, TreeModel, squares, node_of, no_node, is_child, children_of, HasParent, IsNode, IsLeafOf, IsTreeOf}
use Rattle.quadtree.proofs.Families.{at_most_four}
use Rattle.quadtree.proofs.Distinct.{length-le_from_different}
use Rattle.quadtree.proofs.LeafLevel.{cell_of, IsListed, IsLeafLevel, leaf_level_exists}
use Rattle.exact_math.proofs.Lists.{All-from_members, filter_same, range_below}
use Rattle.quadtree.proofs.PointKinds.{point_at, IsMember, member_point, Contains-members_of}
use Rattle.quadtree.proofs.Positions.{length-members}
use Rattle.quadtree.proofs.TreeNumbers.{number_unique, level_of_first, level_of_others}

-- a point that stands at a position is listed in the grid
listed : (grid : ℕ) (points : List Point) (k : ℕ) (p : Point) → AreInGrid grid points → slice_get points k ≡ Some p → IsListed grid points p
listed grid points k p inside e =
    let at = point_at points k p e in
    let here : Contains points p = (k, at.inside, at.here) in
    record { listed = here; in_grid = All-contains (λ q. IsInGrid grid q.x q.y) points p inside here }

-- a leaf that holds a listed point is the point's leaf
leaf_cell : (grid : ℕ) (points : List Point) (cap : ℕ) (p : Point) (last : ℕ) (c : Square) → IsListed grid points p → IsLeafLevel grid points cap p last → IsLeaf grid points cap c → Holds c p.x p.y → c ≡ cell_of grid p last
leaf_cell grid points cap p last c given level leaf held =
    let same : c.grid ≡ grid = leaf.in_tree.of_grid in
    let G : ℕ → Type 0 = λ g. IsInGrid g p.x p.y in
    let here : c ≡ cell_of grid p c.level = square_at-unique c p.x p.y (subst G (sym same) given.in_grid) held ∙ ap (λ g. square_at g c.level p.x p.y) same in
    let P : Square → Type 0 = λ s. IsLeaf grid points cap s in
    here ∙ ap (cell_of grid p) (level.no_other c.level (subst P here leaf))

-- what a position of a leaf says
record InLeafOf (grid : ℕ) (points : List Point) (cap : ℕ) (c : Square) (k : ℕ) : Type 0 where
  leaf : IsLeaf grid points cap c
  point : Point
  member : IsMember points c k point

same_point : (o : Option Point) (p q : Point) → o ≡ Some p → o ≡ Some q → p ≡ q
same_point o p q e f = cc

-- ---- cells with what is kept of each
module _ (grid : ℕ) (points : List Point) (cap : ℕ) (positions : List ℕ) (cells : List Square) (parents : List ℕ) (families : List Children) (nodes : List Node) (positive : 0 < grid) (inside : AreInGrid grid points) (t : AreExactly (IsTreeCell grid points cap) cells) (a : AreNodesTo points cap positions cells parents families nodes (length cells)) where
  -- a leaf by its own grid is one of the tree's
  own : (n : ℕ) → n < length cells → IsLeaf (get_or cells n no_square).grid points cap (get_or cells n no_square) ↔ IsLeaf grid points cap (get_or cells n no_square)
  own n lt =
      let same : (get_or cells n no_square).grid ≡ grid = (t.each n no_square lt).of_grid in
      let P : ℕ → Type 0 = λ g. IsLeaf g points cap (get_or cells n no_square) in
      (subst P same, subst P (sym same))

  in_leaf : (n k : ℕ) → IsInLeaf positions nodes n k → InLeafOf grid points cap (get_or cells n no_square) k
  in_leaf n k i =
      let node = a.each n (omega (arith, i.in_range, a.as_many)) in
      let P : List ℕ → Type 0 = λ l. Contains l k in
      let m = member_point points (get_or cells n no_square) k (subst P node.members_are i.member) in
      record { leaf = (own n (omega (arith, i.in_range, a.as_many))).0 (node.leaf.0 i.leaf); point = m.0; member = m.1 }

  pub leaves_apart : LeavesAreApart positions nodes
  leaves_apart = record { apart = apart }
    where
      apart : (m n k : ℕ) → IsInLeaf positions nodes m k → IsInLeaf positions nodes n k → m ≡ n
      apart m n k i j =
          let first = in_leaf m k i in
          let second = in_leaf n k j in
          let p : Point = first.point in
          let same : second.point ≡ p = same_point (slice_get points k) second.point p second.member.point_is first.member.point_is in
          let given = listed grid points k p inside first.member.point_is in
          let level = leaf_level_exists grid points cap p positive given in
          let Q : Point → Type 0 = λ q. Holds (get_or cells n no_square) q.x q.y in
          let here = leaf_cell grid points cap p level.0 (get_or cells m no_square) given level.1 first.leaf first.member.held in
          let there = leaf_cell grid points cap p level.0 (get_or cells n no_square) given level.1 second.leaf (subst Q same second.member.held) in
          number_unique cells m n t.ascending (omega (arith, i.in_range, a.as_many)) (omega (arith, j.in_range, a.as_many)) (here ∙ sym there)

  pub ranges : All (HasRange positions) nodes
  ranges = All-from_get_or (HasRange positions) nodes blank_node (λ n lt. (a.each n (omega (arith, lt, a.as_many))).range)

  -- the number of a leaf of a point
  pub leaf_number : (leaves : List ℕ) (k : ℕ) (p : Point) → LeavesAreTo positions nodes leaves (length nodes) → slice_get points k ≡ Some p → (n : ℕ) × (n < length cells) × IsLeaf grid points cap (get_or cells n no_square) × Holds (get_or cells n no_square) p.x p.y × (slice_index leaves k ≡ n)
  leaf_number leaves k p l e =
      let given = listed grid points k p inside e in
      let level = leaf_level_exists grid points cap p positive given in
      let c : Square = cell_of grid p level.0 in
      let at = t.whole c level.1.leaf.in_tree in
      let n : ℕ = at.0 in
      let here : c ≡ get_or cells n no_square = sym at.2 ∙ get_or_default cells n c no_square at.1 in
      let held : Holds c p.x p.y = Holds-square_at grid level.0 p.x p.y given.in_grid in
      let L : Square → Type 0 = λ s. IsLeaf grid points cap s in
      let H : Square → Type 0 = λ s. Holds s p.x p.y in
      let leaf : IsLeaf grid points cap (get_or cells n no_square) = subst L here level.1.leaf in
      let held_there : Holds (get_or cells n no_square) p.x p.y = subst H here held in
      let node = a.each n at.1 in
      let member : Contains (members_of points (get_or cells n no_square)) k = Contains-members_of points (get_or cells n no_square) k p (record { point_is = e; held = held_there }) in
      let P : List ℕ → Type 0 = λ m. Contains m k in
      let i : IsInLeaf positions nodes n k = record { in_range = omega (arith, at.1, a.as_many); leaf = node.leaf.1 ((own n at.1).1 leaf); member = subst P (sym node.members_are) member } in
      (n, at.1, leaf, held_there, l.leaf_is n k (omega (arith, at.1, a.as_many)) i)

-- what is given of the cells, their parents and children, nodes, positions and leaves
pub record AreParts (grid : ℕ) (points : List Point) (cap : ℕ) (cells : List Cell) (parents : List ℕ) (families : List Children) (nodes : List Node) (positions leaves : List ℕ) : Type 0 where
  pub known_grid : IsGrid grid
  pub in_grid : AreInGrid grid points
  pub few_points : length points ≤ most_points grid
  pub few_cells : length cells ≤ most_cells grid
  pub capacity : IsCapacity cap
  pub cells_are : AreExactly (IsTreeCell grid points cap) (map square cells)
  pub as_many_parents : length parents ≡ length cells
  pub parents_are : (n : ℕ) → n < length cells → IsParentNumber (map square cells) (get_or (map square cells) n no_square) (get_or parents n 0)
  pub families_are : AreFamiliesTo parents families (length cells)
  pub nodes_are : AreNodesTo points cap positions (map square cells) parents families nodes (length cells)
  pub as_many_leaves : length leaves ≡ length points
  pub leaves_are : LeavesAreTo positions nodes leaves (length nodes)

module _ (grid : ℕ) (points : List Point) (cap : ℕ) (cells : List Cell) (parents : List ℕ) (families : List Children) (nodes : List Node) (positions leaves : List ℕ) (h : AreParts grid points cap cells parents families nodes positions leaves) where
  abbrev tree : TreeModel
  tree = tree_of grid cells nodes positions leaves

  positive : 0 < grid
  positive = grid_positive grid h.known_grid

  as_many_squares : length (map square cells) ≡ length cells
  as_many_squares = length-map cells square

  nodes_whole : AreNodesTo points cap positions (map square cells) parents families nodes (length (map square cells))
  nodes_whole = let P : ℕ → Type 0 = λ n. AreNodesTo points cap positions (map square cells) parents families nodes n in subst P (sym as_many_squares) h.nodes_are

  -- what the tree shows of a node
  shows : (n : ℕ) → n < length cells → node_model positions (get_or nodes n blank_node) ≡ node_of tree n
  shows n lt = sym (get_or-map (node_model positions) nodes n blank_node no_node (omega (arith, h.nodes_are.as_many)))

  parent_shown : (n : ℕ) → n < length cells → get_or parents n 0 ≡ (node_of tree n).parent
  parent_shown n lt = sym (h.nodes_are.each n lt).parent_is ∙ ap (λ (v : NodeModel). v.parent) (shows n lt)

  has_parent : (n : ℕ) → n < length cells → HasParent tree n
  has_parent n lt =
      let p = h.parents_are n lt in
      let e = parent_shown n lt in
      record {
        in_range = omega (arith, p.in_range, e, as_many_squares);
        of_first = λ first. sym e ∙ p.of_root (let Q : ℕ → Type 0 = λ m. (get_or (map square cells) m no_square).level ≡ 0 in subst Q (sym first) (level_of_first grid points cap (map square cells) positive h.in_grid h.cells_are (omega (arith, as_many_squares))));
        of_others = λ lo. ap (λ m. get_or (map square cells) m no_square) (sym e) ∙ p.of_others (level_of_others grid points cap (map square cells) positive h.in_grid h.cells_are n (omega (arith, as_many_squares)) lo);
      }

  children_shown : (n : ℕ) → n < length cells → (node_of tree n).children ≡ children_of tree n
  children_shown n lt =
      sym (ap (λ (v : NodeModel). v.children) (shows n lt)) ∙ ap child_numbers (h.nodes_are.each n lt).children_are ∙ (h.families_are.each n (omega (arith, h.as_many_parents))).numbers_are ∙
      filter_same (λ k. ltb 0 k && eqb (get_or parents k 0) n) (is_child tree n) (range_with_len 0 (length cells))
      (All-from_members (λ k. (ltb 0 k && eqb (get_or parents k 0) n) ≡ is_child tree n k) (range_with_len 0 (length cells)) (λ k listed. ap (λ m. ltb 0 k && eqb m n) (parent_shown k (range_below (length cells) k listed))))

  node_is : (n : ℕ) → n < length cells → IsNode tree points cap n
  node_is n lt =
      let node : Node = get_or nodes n blank_node in
      let right = h.nodes_are.each n lt in
      let c : Square = get_or (map square cells) n no_square in
      let same : c.grid ≡ grid = (h.cells_are.each n no_square (omega (arith, as_many_squares))).of_grid in
      let G : ℕ → Type 0 = λ g. IsTrue node.is_leaf ↔ IsLeaf g points cap c in
      let L : NodeModel → Type 0 = λ v. IsTrue v.is_leaf ↔ IsLeaf grid points cap c in
      let S : NodeModel → Type 0 = λ v. IsTrue v.has_source ↔ IsTrue (has_source points c) in
      let T : NodeModel → Type 0 = λ v. IsTrue v.has_target ↔ IsTrue (has_target points c) in
      record {
        parent_is = has_parent n lt;
        count_is = ap (λ (v : NodeModel). v.count) (sym (shows n lt)) ∙ sym (length-between positions node.from node.to right.range.in_range) ∙ ap length right.members_are ∙ length-members points c;
        leaf = subst L (shows n lt) (subst G same right.leaf);
        source = subst S (shows n lt) right.source;
        target = subst T (shows n lt) right.target;
        members_are = ap (λ (v : NodeModel). v.members) (sym (shows n lt)) ∙ right.members_are;
        children_are = children_shown n lt;
      }

  leaf_is : (k : ℕ) (p : Point) → slice_get points k ≡ Some p → IsLeafOf tree points cap (slice_index leaves k) p
  leaf_is k p e =
      let f = leaf_number grid points cap positions (map square cells) parents families nodes positive h.in_grid h.cells_are nodes_whole leaves k p h.leaves_are e in
      let P : ℕ → Type 0 = λ n. IsLeafOf tree points cap n p in
      subst P (sym f.4) (record { in_range = omega (arith, f.1, as_many_squares); leaf = f.2; held = f.3 })

  pub tree_is : IsTreeOf tree points cap
  tree_is =
      record {
        known_grid = h.known_grid;
        cells_are = h.cells_are;
        few = h.few_cells;
        as_many_nodes = omega (arith, length-map nodes (node_model positions), h.nodes_are.as_many);
        nodes_are = node_is;
        as_many_leaves = h.as_many_leaves;
        leaves_are = leaf_is;
      }

  named : (n : ℕ) → n < length (map square cells) → IsParentNumber (map square cells) (get_or (map square cells) n no_square) (get_or parents n 0)
  named n lt = h.parents_are n (omega (arith, as_many_squares))

  few_children : All (λ (node : Node). node.children.count ≤ 4) nodes
  few_children = All-from_get_or (λ (node : Node). node.children.count ≤ 4) nodes blank_node (λ n lt.
      let right = h.nodes_are.each n (omega (arith, lt, h.nodes_are.as_many)) in
      let family = h.families_are.each n (omega (arith, lt, h.nodes_are.as_many, h.as_many_parents)) in
      let few : length (children_among parents n (length cells)) ≤ 4 = subst (λ m. length (children_among parents n m) ≤ 4) as_many_squares (at_most_four grid points cap (map square cells) parents positive h.in_grid h.cells_are named n) in
      omega (arith, few, family.count_is, ap (λ (v : Children). v.count) right.children_are))

  pub fields_are : AreFieldsOfTree grid cells nodes positions leaves
  fields_are =
      record {
        ranges = ranges grid points cap positions (map square cells) parents families nodes positive h.in_grid h.cells_are nodes_whole;
        few_children = few_children;
        is_tree = record { points = points; cap = cap; in_grid = h.in_grid; few_points = h.few_points; capacity = h.capacity; is_tree = tree_is };
      }

-- the cells of runs as squares
pub squares_of-cells : (cells : List Cell) (runs : List Run) → cells ≡ map (λ r. r.cell) runs → map square cells ≡ squares_of runs
squares_of-cells cells runs e = ap (map square) e ∙ twice runs
  where
    twice : (runs : List Run) → map square (map (λ (r : Run). r.cell) runs) ≡ squares_of runs
    twice [] = refl
    twice (r ∷ rs) = ap (λ l. square r.cell ∷ l) (twice rs)

-- a tree has all cells of the tree, so there are no more
pub no_more_cells : (tree : TreeModel) (points : List Point) (cap : ℕ) → IsTreeOf tree points cap → HasMoreCells tree.grid points cap (most_cells tree.grid) → ⊥
no_more_cells tree points cap t h =
    let fewer : length h.cells ≤ length (squares tree) = length-le_from_different h.cells (squares tree) h.different (λ c d. t.cells_are.whole c (All-contains (IsTreeCell tree.grid points cap) h.cells c h.in_tree d)) in
    omega (arith, fewer, h.more, t.few, length-map tree.cells square)
