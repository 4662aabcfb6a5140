-- A tree of points that are within the limits of its grid.
use Rattle.std.specs.Prelude.{ℕ, List}
use Rattle.exact_math.specs.Orders.{IsCapacity}
use Rattle.points.specs.Limits.{AreWithin}
use Rattle.points.specs.declared.Point.{Point}
use Rattle.quadtree.specs.TreeModel.{TreeModel, IsTreeOf}

-- the tree is that of these points with some capacity that the program offers
pub record IsTreeOfPoints (points : List Point) (tree : TreeModel) : Type 0 where
  pub within : AreWithin tree.grid points
  pub cap : ℕ
  pub capacity : IsCapacity cap
  pub is_tree : IsTreeOf tree points cap
