-- The node is that of the cell.
use Rattle.std.proofs.Common.{◌≡◌, ap, arith}
use Rattle.quadtree.specs.Fields.{node_model}
use Rattle.quadtree.specs.TreeModel.{NodeModel, node_of}
use Rattle.quadtree.proofs.NodeSeen.{node_in_range, node_seen, node_range, node_few}
use Rattle.quadtree.proofs.tree.Tree.node.Goals as goal

pub index-requires : goal.index-requires
index-requires c =
    let lt = node_in_range c.self.inside.grid c.self.inside.cells.items c.self.inside.nodes.items c.self.inside.positions.items c.self.inside.leaves.items c.self.invariant c.args.self.now c.self.view_is c.args.n c.requires in
    omega (arith, lt, c.self.inside.nodes.ok.0)

seen : (c : goal.After-index) → node_model c.self.inside.positions.items c.index.result.now ≡ node_of c.args.self.now c.args.n
seen c = node_seen c.self.inside.grid c.self.inside.cells.items c.self.inside.nodes.items c.self.inside.positions.items c.self.inside.leaves.items c.self.invariant c.args.self.now c.self.view_is c.args.n c.requires c.index.result.now c.index.ensures

pub returns-clause-parent : goal.returns-clause-parent
returns-clause-parent c = ap (λ (m : NodeModel). m.parent) (seen c)

pub returns-clause-ordered : goal.returns-clause-ordered
returns-clause-ordered c = node_range c.self.inside.grid c.self.inside.cells.items c.self.inside.nodes.items c.self.inside.positions.items c.self.inside.leaves.items c.self.invariant c.args.self.now c.self.view_is c.args.n c.requires c.index.result.now c.index.ensures

pub returns-clause-count : goal.returns-clause-count
returns-clause-count c = ap (λ (m : NodeModel). m.count) (seen c)

pub returns-clause-leaf : goal.returns-clause-leaf
returns-clause-leaf c = ap (λ (m : NodeModel). m.is_leaf) (seen c)

pub returns-clause-source : goal.returns-clause-source
returns-clause-source c = ap (λ (m : NodeModel). m.has_source) (seen c)

pub returns-clause-target : goal.returns-clause-target
returns-clause-target c = ap (λ (m : NodeModel). m.has_target) (seen c)

pub returns-clause-few : goal.returns-clause-few
returns-clause-few c = node_few c.self.inside.grid c.self.inside.cells.items c.self.inside.nodes.items c.self.inside.positions.items c.self.inside.leaves.items c.self.invariant c.args.self.now c.self.view_is c.args.n c.requires c.index.result.now c.index.ensures

pub returns-clause-children : goal.returns-clause-children
returns-clause-children c = ap (λ (m : NodeModel). m.children) (seen c)
