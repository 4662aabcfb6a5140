-- Runs of cells whose multipole rows can be made.
use Rattle.std.specs.Prelude.{ℕ, ◌+◌, ◌<◌, ◌≤◌, List}
use Rattle.field_basis.specs.Basis.{BasisModel}
use Rattle.field_basis.specs.Place.{PlaceModel}
use Rattle.quadtree.specs.TreeModel.{size}
use Rattle.tree_field.specs.Program.{source_children}
use Rattle.upward_rows.specs.Behind.{AreBehind}

-- so many cells from `first` on, whose quarters that have a source have their multipole rows in the places of the last cells
pub record IsRunAbove (P : ℕ) (b : BasisModel) (behind : List PlaceModel) (first count : ℕ) : Type 0 where
  pub in_range : first + count ≤ size b.tree
  pub quarters : (n : ℕ) → first ≤ n → n < first + count → AreBehind P b.points b.tree behind (source_children b.tree n)
