-- What a tree's fields show.
use Rattle.std.specs.Prelude.{ℕ, ◌-◌, ◌≤◌, List, [], length, map, take, slice_range, All}
use Rattle.cell_name.specs.declared.cell.Cell.{Cell}
use Rattle.quadtree.specs.declared.children.Children.{Children}
use Rattle.quadtree.specs.declared.tree.Node.{Node}
use Rattle.quadtree.specs.TreeModel.{NodeModel, TreeModel, IsTree}

-- the numbers of the cells below a cell
abbrev pub child_numbers : Children → List ℕ
child_numbers children = take children.count children.numbers

-- what stands past the last cell
abbrev pub no_children : Children
no_children = record { numbers = []; count = 0 }

-- what a node shows, whose points are a range of positions
abbrev pub node_model : List ℕ → Node → NodeModel
node_model positions node =
    record {
      parent = node.parent;
      count = node.to - node.from;
      is_leaf = node.is_leaf;
      has_source = node.has_source;
      has_target = node.has_target;
      members = slice_range positions node.from node.to;
      children = child_numbers node.children;
    }

-- the tree on a grid that cells, nodes, positions and leaves make
abbrev pub tree_of : ℕ → List Cell → List Node → List ℕ → List ℕ → TreeModel
tree_of grid cells nodes positions leaves = record { grid = grid; cells = cells; nodes = map (node_model positions) nodes; leaves = leaves }

-- the node's range lies among the positions
pub record HasRange (positions : List ℕ) (node : Node) : Type 0 where
  pub ordered : node.from ≤ node.to
  pub in_range : node.to ≤ length positions

-- each node has a range of the positions and at most four children, and together they are a tree
pub record AreFieldsOfTree (grid : ℕ) (cells : List Cell) (nodes : List Node) (positions leaves : List ℕ) : Type 0 where
  pub ranges : All (HasRange positions) nodes
  pub few_children : All (λ (node : Node). node.children.count ≤ 4) nodes
  pub is_tree : IsTree (tree_of grid cells nodes positions leaves)
