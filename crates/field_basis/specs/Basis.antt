-- What the rows of a field are made from, and how it fits together.
use Rattle.std.specs.Prelude.{ℕ, ℤ, ◌≡◌, List, length, All, slice_index_or}
use Rattle.exact_math.specs.Gaussian.{Gaussian}
use Rattle.exact_math.specs.Orders.{IsCapacity, IsOrder}
use Rattle.cell_lists.specs.EntryLists.{EntryListsModel}
use Rattle.cell_lists.specs.Lists.{AreLists, VListsAreShort}
use Rattle.points.specs.Limits.{AreWithin}
use Rattle.points.specs.Points.{place}
use Rattle.points.specs.declared.Point.{Point}
use Rattle.quadtree.specs.TreeModel.{TreeModel, size, leaf_of, IsTreeOf}
use Rattle.field_basis.specs.Targets.{point_at, target_positions}
use Rattle.field_basis.specs.Weights.{AreWeights, IsWeight}

-- points, a leaf capacity, the tree, its lists, the weights of its cells, and the positions of the targets
pub record BasisModel : Type 0 where
  pub points : List Point
  pub cap : ℕ
  pub tree : TreeModel
  pub lists : EntryListsModel
  pub weights : List ℤ
  pub targets : List ℕ

-- the k-th target, counted from 0, its place, and the number of its leaf
abbrev pub target_of : BasisModel → ℕ → Point
target_of b k = point_at b.points (slice_index_or b.targets k 0)

abbrev pub target_place : BasisModel → ℕ → Gaussian
target_place b k = place (target_of b k)

abbrev pub target_leaf : BasisModel → ℕ → ℕ
target_leaf b k = leaf_of b.tree (slice_index_or b.targets k 0)

-- the points are within the limits of the grid, the tree is theirs at the capacity, lists and weights are those of its cells, positions those of the targets
pub record IsBasis (P : ℕ) (b : BasisModel) : Type 0 where
  pub order : IsOrder P
  pub within : AreWithin b.tree.grid b.points
  pub capacity : IsCapacity b.cap
  pub is_tree : IsTreeOf b.tree b.points b.cap
  pub lists_are : AreLists b.tree b.lists
  pub short : VListsAreShort b.lists
  pub weight_each : length b.weights ≡ size b.tree
  pub weights_are : AreWeights b.points P b.tree b.weights
  pub weights_small : All IsWeight b.weights
  pub targets_are : b.targets ≡ target_positions b.points
