-- The node that is kept of a cell shows what callers see of the cell.
use Rattle.std.proofs.Common.{ℕ, ◌≡◌, ◌<◌, ◌≤◌, ◌∙◌, List, length, get_or, sym, ap, subst, arith}
use Rattle.std.proofs.lemmas.List.{get_or-map, length-map}
use Rattle.cell_name.specs.declared.cell.Cell.{Cell}
use Rattle.quadtree.specs.declared.tree.Node.{Node}
use Rattle.quadtree.specs.Fields.{node_model, tree_of, AreFieldsOfTree}
use Rattle.quadtree.specs.TreeModel.{TreeModel, size, no_node, node_of}

module _ (grid : ℕ) (cells : List Cell) (nodes : List Node) (positions leaves : List ℕ) (is : AreFieldsOfTree grid cells nodes positions leaves) (tree : TreeModel) (shown : tree_of grid cells nodes positions leaves ≡ tree) (n : ℕ) (lt : n < size tree) where
  pub node_in_range : n < length nodes
  node_in_range = omega (arith, ap size shown, is.is_tree.is_tree.as_many_nodes, length-map nodes (node_model positions), lt)

  module _ (node : Node) (at : node ≡ get_or nodes n node) where
    pub node_seen : node_model positions node ≡ node_of tree n
    node_seen = ap (node_model positions) at ∙ sym (get_or-map (node_model positions) nodes n node no_node node_in_range) ∙ ap (λ (t : TreeModel). node_of t n) shown

    pub node_range : node.from ≤ node.to
    node_range = subst (λ (v : Node). v.from ≤ v.to) (sym at) (is.ranges n node node_in_range).ordered

    pub node_few : node.children.count ≤ 4
    node_few = subst (λ (v : Node). v.children.count ≤ 4) (sym at) (is.few_children n node node_in_range)
