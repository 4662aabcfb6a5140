-- A tree as callers see it, and what it is for a list of points and a capacity.
use Rattle.std.specs.Prelude.{ℕ, ◌≡◌, ◌<◌, ◌≤◌, ◌↔◌, ◌==◌, ◌&&◌, nat_lt, Bool, false, IsTrue, List, [], length, map, filter, Some, slice_get, slice_index, slice_index_or}
use Rattle.std.specs.List.{range_with_len}
use Rattle.exact_math.specs.Orders.{IsCapacity}
use Rattle.limits.specs.Limits.{IsGrid, most_points, most_cells}
use Rattle.points.specs.declared.Point.{Point}
use Rattle.cell_name.specs.declared.cell.Cell.{Cell}
use Rattle.cell_name.specs.Cell.{square}
use Rattle.cell_name.specs.Square.{Square, no_square, parent, Holds}
use Rattle.quadtree.specs.Members.{members_of}
use Rattle.quadtree.specs.Tree.{AreInGrid, count_in, IsLeaf, has_target, has_source, AreExactly, IsTreeCell}

-- What is kept of a cell: its parent's number, how many points it has, what kind of cell it is, the positions of its points, and the numbers of its children.
pub record NodeModel : Type 0 where
  pub parent : ℕ
  pub count : ℕ
  pub is_leaf : Bool
  pub has_source : Bool
  pub has_target : Bool
  pub members : List ℕ
  pub children : List ℕ

-- The bits of the grid, the cells in their order, what is kept of each, and the number of the leaf of each point.
pub record TreeModel : Type 0 where
  pub grid : ℕ
  pub cells : List Cell
  pub nodes : List NodeModel
  pub leaves : List ℕ

-- the cells as the definitions see them
abbrev pub squares : TreeModel → List Square
squares tree = map square tree.cells

-- how many cells there are
abbrev pub size : TreeModel → ℕ
size tree = length tree.cells

-- the cell of a number
abbrev pub square_of : TreeModel → ℕ → Square
square_of tree n = slice_index_or (squares tree) n no_square

-- what stands past the last cell
abbrev pub no_node : NodeModel
no_node = record { parent = 0; count = 0; is_leaf = false; has_source = false; has_target = false; members = []; children = [] }

-- what is kept of the cell of a number
abbrev pub node_of : TreeModel → ℕ → NodeModel
node_of tree n = slice_index_or tree.nodes n no_node

-- the number of the leaf of the point at a position
abbrev pub leaf_of : TreeModel → ℕ → ℕ
leaf_of tree k = slice_index tree.leaves k

-- cell 0 is named as its own parent, and each other cell's parent by its number
pub record HasParent (tree : TreeModel) (n : ℕ) : Type 0 where
  pub in_range : (node_of tree n).parent < size tree
  pub of_first : n ≡ 0 → (node_of tree n).parent ≡ 0
  pub of_others : 0 < n → square_of tree (node_of tree n).parent ≡ parent (square_of tree n)

-- whether a cell has another as its parent; cell 0 has none
abbrev pub is_child : TreeModel → ℕ → ℕ → Bool
is_child tree n c = nat_lt 0 c && ((node_of tree c).parent == n)

-- the numbers of the cells whose parent a cell is, ascending
abbrev pub children_of : TreeModel → ℕ → List ℕ
children_of tree n = filter (is_child tree n) (range_with_len 0 (size tree))

-- what is kept of a cell is right
pub record IsNode (tree : TreeModel) (points : List Point) (cap n : ℕ) : Type 0 where
  pub parent_is : HasParent tree n
  pub count_is : (node_of tree n).count ≡ count_in points (square_of tree n)
  pub leaf : IsTrue (node_of tree n).is_leaf ↔ IsLeaf tree.grid points cap (square_of tree n)
  pub source : IsTrue (node_of tree n).has_source ↔ IsTrue (has_source points (square_of tree n))
  pub target : IsTrue (node_of tree n).has_target ↔ IsTrue (has_target points (square_of tree n))
  pub members_are : (node_of tree n).members ≡ members_of points (square_of tree n)
  pub children_are : (node_of tree n).children ≡ children_of tree n

-- the leaf of a point
pub record IsLeafOf (tree : TreeModel) (points : List Point) (cap n : ℕ) (p : Point) : Type 0 where
  pub in_range : n < size tree
  pub leaf : IsLeaf tree.grid points cap (square_of tree n)
  pub held : Holds (square_of tree n) p.x p.y

-- the tree of a list of points and a capacity: its cells, what is kept of each, and the leaf of each point
pub record IsTreeOf (tree : TreeModel) (points : List Point) (cap : ℕ) : Type 0 where
  pub known_grid : IsGrid tree.grid
  pub cells_are : AreExactly (IsTreeCell tree.grid points cap) (squares tree)
  pub few : size tree ≤ most_cells tree.grid
  pub as_many_nodes : length tree.nodes ≡ size tree
  pub nodes_are : (n : ℕ) → n < size tree → IsNode tree points cap n
  pub as_many_leaves : length tree.leaves ≡ length points
  pub leaves_are : (k : ℕ) (p : Point) → slice_get points k ≡ Some p → IsLeafOf tree points cap (leaf_of tree k) p

-- the tree of some list within the grid: what each value of the type is
pub record IsTree (tree : TreeModel) : Type 0 where
  pub points : List Point
  pub cap : ℕ
  pub in_grid : AreInGrid tree.grid points
  pub few_points : length points ≤ most_points tree.grid
  pub capacity : IsCapacity cap
  pub is_tree : IsTreeOf tree points cap

-- the numbers of the cells of a level: from `first` on, before `end`
pub record IsLevel (tree : TreeModel) (level first end : ℕ) : Type 0 where
  pub ordered : first ≤ end
  pub in_range : end ≤ size tree
  pub exact : (n : ℕ) → n < size tree → ((first ≤ n) × (n < end)) ↔ ((square_of tree n).level ≡ level)
