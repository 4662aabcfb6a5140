-- What the build keeps of each cell, and of each point. No public contract cites it.
use Rattle.std.specs.Prelude.{ℕ, ◌≡◌, ◌<◌, ◌↔◌, Bool, false, not, IsTrue, List, length, Option, Some, None, slice_index, slice_index_or, slice_range, Contains}
use Rattle.points.specs.declared.Point.{Point}
use Rattle.points.specs.Points.{is_source}
use Rattle.cell_name.specs.Square.{Square, no_square}
use Rattle.quadtree.specs.declared.children.Children.{Children}
use Rattle.quadtree.specs.declared.tree.Node.{Node}
use Rattle.quadtree.specs.Fields.{HasRange, no_children}
use Rattle.quadtree.specs.Members.{members_of}
use Rattle.quadtree.specs.Tree.{IsLeaf, has_target, has_source}

-- whether a point is there and is a target, or a source
abbrev pub is_target_at : Option Point → Bool
is_target_at (Some p) = not (is_source p.kind)
is_target_at None = false

abbrev pub is_source_at : Option Point → Bool
is_source_at (Some p) = is_source p.kind
is_source_at None = false

-- what is kept of a cell is right, but for the numbers of other cells, which are given
pub record IsNodeOf (points : List Point) (cap : ℕ) (positions : List ℕ) (c : Square) (parent : ℕ) (children : Children) (node : Node) : Type 0 where
  pub range : HasRange positions node
  pub members_are : slice_range positions node.from node.to ≡ members_of points c
  pub leaf : IsTrue node.is_leaf ↔ IsLeaf c.grid points cap c
  pub source : IsTrue node.has_source ↔ IsTrue (has_source points c)
  pub target : IsTrue node.has_target ↔ IsTrue (has_target points c)
  pub parent_is : node.parent ≡ parent
  pub children_are : node.children ≡ children

-- what stands past the last node
abbrev pub blank_node : Node
blank_node = record { parent = 0; from = 0; to = 0; is_leaf = false; has_source = false; has_target = false; children = no_children }

module _ (points : List Point) (cap : ℕ) (positions : List ℕ) (cells : List Square) (parents : List ℕ) (families : List Children) where
  -- a right node for each of the first `n` cells
  pub record AreNodesTo (nodes : List Node) (n : ℕ) : Type 0 where
    pub as_many : length nodes ≡ n
    pub each :
        (k : ℕ) → k < n
        → IsNodeOf points cap positions (slice_index_or cells k no_square) (slice_index parents k) (slice_index_or families k no_children) (slice_index_or nodes k blank_node)

-- a position of a leaf among the nodes
pub record IsInLeaf (positions : List ℕ) (nodes : List Node) (n k : ℕ) : Type 0 where
  pub in_range : n < length nodes
  pub leaf : IsTrue (slice_index_or nodes n blank_node).is_leaf
  pub member : Contains (slice_range positions (slice_index_or nodes n blank_node).from (slice_index_or nodes n blank_node).to) k

-- no position is in two leaves
pub record LeavesAreApart (positions : List ℕ) (nodes : List Node) : Type 0 where
  pub apart : (m n k : ℕ) → IsInLeaf positions nodes m k → IsInLeaf positions nodes n k → m ≡ n

-- the positions of the first `n` leaves have their leaves' numbers
pub record LeavesAreTo (positions : List ℕ) (nodes : List Node) (leaves : List ℕ) (n : ℕ) : Type 0 where
  pub leaf_is : (m k : ℕ) → m < n → IsInLeaf positions nodes m k → slice_index leaves k ≡ m
