-- The tree of the points as a tree of some points.
use Rattle.std.proofs.Common.{ℕ, List}
use Rattle.points.specs.declared.Point.{Point}
use Rattle.quadtree.proofs.Limits.{in_grid}
use Rattle.quadtree.specs.TreeModel.{TreeModel, IsTree}
use Rattle.field_basis.specs.Basis.{BasisModel, IsBasis}
use Rattle.field_basis.specs.Trees.{IsTreeOfPoints}

pub some_tree : (points : List Point) (tree : TreeModel) → IsTreeOfPoints points tree → IsTree tree
some_tree points tree h = record { points = points; cap = h.cap; in_grid = in_grid tree.grid points h.within.range; few_points = h.within.count; capacity = h.capacity; is_tree = h.is_tree }

pub tree_of_basis : (P : ℕ) (b : BasisModel) → IsBasis P b → IsTreeOfPoints b.points b.tree
tree_of_basis P b is = record { within = is.within; cap = b.cap; capacity = is.capacity; is_tree = is.is_tree }
