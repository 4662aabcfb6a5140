-- What holds of the lists that a tree was built of.
use Rattle.std.specs.Prelude.{ℕ, List}
use Rattle.points.specs.declared.Point.{Point}
use Rattle.quadtree.specs.Tree.{AreInGrid}
use Rattle.quadtree.specs.TreeModel.{TreeModel, IsTreeOf}

-- a fact of every list and capacity whose tree this is: each tree is the tree of some
abbrev pub OfEachList : TreeModel → (List Point → ℕ → Type 0) → Type 0
OfEachList tree P = (points : List Point) (cap : ℕ) → AreInGrid tree.grid points → IsTreeOf tree points cap → P points cap
