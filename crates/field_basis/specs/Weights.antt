-- The weights of the cells of a tree.
use Rattle.std.specs.Prelude.{ℕ, ◌<◌, ◌≡◌, ℤ, pos, ◌≤ℤ◌, List, length, All, slice_index_or, unsigned_abs}
use Rattle.limits.specs.Limits.{most_weight, widest_grid}
use Rattle.points.specs.declared.Point.{Point}
use Rattle.quadtree.specs.TreeModel.{TreeModel, size, square_of}
use Rattle.tree_field.specs.Field.{weight_in}
use Rattle.field_basis.specs.Targets.{target_positions}

-- what a weight may be: 0 to the greatest total of a list
pub record IsWeight (w : ℤ) : Type 0 where
  pub least : pos 0 ≤ℤ w
  pub most : w ≤ℤ pos (most_weight widest_grid)

-- the weights of all cells
pub record AreWeights (points : List Point) (P : ℕ) (tree : TreeModel) (weights : List ℤ) : Type 0 where
  pub each : (n : ℕ) → n < size tree → slice_index_or weights n (pos 0) ≡ pos (weight_in points P (square_of tree n))

-- what is counted of points over their tree: a copy of the points, the weights of the cells, and the positions of the targets. No public contract cites it.
pub record AreCounted (points : List Point) (P : ℕ) (tree : TreeModel) (copied : List Point) (weights : List ℤ) (targets : List ℕ) : Type 0 where
  pub points_are : copied ≡ points
  pub weight_each : length weights ≡ size tree
  pub weights_are : AreWeights points P tree weights
  pub weights_small : All IsWeight weights
  pub targets_are : targets ≡ target_positions points
