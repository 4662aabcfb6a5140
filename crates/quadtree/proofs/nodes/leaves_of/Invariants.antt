-- The leaves so far have marked their points.
use Rattle.std.proofs.Common.{◌≡◌, length}
use Rattle.quadtree.specs.Nodes.{LeavesAreTo}
use Rattle.quadtree.proofs.nodes.leaves_of.Given as goal

abbrev pub invariant-loop-n : goal.invariant-loop-n
invariant-loop-n l = record { as_many : length l.leaves.items ≡ l.count; leaves_are : LeavesAreTo l.positions l.nodes l.leaves.items l.n }
