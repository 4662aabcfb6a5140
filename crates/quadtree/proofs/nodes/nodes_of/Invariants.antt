-- The nodes so far are right.
use Rattle.quadtree.specs.Nodes.{AreNodesTo}
use Rattle.quadtree.specs.Splitting.{squares_of, parents_of}
use Rattle.quadtree.proofs.nodes.nodes_of.Given as goal

abbrev pub invariant-loop-n : goal.invariant-loop-n
invariant-loop-n l = AreNodesTo l.points l.cap l.positions (squares_of l.runs) (parents_of l.runs) l.families l.nodes.items l.n
