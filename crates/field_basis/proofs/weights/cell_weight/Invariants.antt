-- The weights of the members so far.
use Rattle.std.proofs.Common.{◌≡◌, pos, take}
use Rattle.std.specs.Prelude.{sum_by}
use Rattle.quadtree.specs.TreeModel.{node_of}
use Rattle.field_basis.proofs.CellWeights.{weighs_at}
use Rattle.field_basis.proofs.weights.cell_weight.Given as goal

abbrev pub invariant-loop-k : goal.invariant-loop-k
invariant-loop-k l = l.total ≡ pos (sum_by (weighs_at l.order l.points) (take l.k-index (node_of l.tree l.n).members))
