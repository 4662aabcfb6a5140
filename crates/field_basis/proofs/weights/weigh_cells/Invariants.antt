-- The weights of the cells so far.
use Rattle.std.proofs.Common.{◌≡◌, ℕ, ◌<◌, pos, get_or}
use Rattle.quadtree.specs.TreeModel.{square_of}
use Rattle.tree_field.specs.Field.{weight_in}
use Rattle.field_basis.specs.Weights.{IsWeight}
use Rattle.field_basis.proofs.weights.weigh_cells.Given as goal

abbrev pub invariant-loop-n : goal.invariant-loop-n
invariant-loop-n l =
    record {
      weights : (m : ℕ) → m < l.n → get_or l.weights m (pos 0) ≡ pos (weight_in l.points l.order (square_of l.tree m));
      size : (m : ℕ) → m < l.n → IsWeight (get_or l.weights m (pos 0));
    }
