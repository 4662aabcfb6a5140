-- The cells so far stand with their parents.
use Rattle.quadtree.specs.Families.{AreFamiliesTo}
use Rattle.quadtree.specs.Splitting.{parents_of}
use Rattle.quadtree.proofs.children.children_of.Given as goal

abbrev pub invariant-loop-n : goal.invariant-loop-n
invariant-loop-n l = AreFamiliesTo (parents_of l.runs) l.families.items l.n
