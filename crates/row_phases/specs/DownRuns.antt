-- Runs of cells whose local rows can be made.
use Rattle.std.specs.Prelude.{ℕ, ◌+◌, ◌<◌, ◌≤◌, List}
use Rattle.field_basis.specs.Basis.{BasisModel, IsBasis}
use Rattle.field_basis.specs.FieldPlaces.{AreAllMultipolePlaces, HasLocalPlace}
use Rattle.field_basis.specs.Place.{PlaceModel}
use Rattle.quadtree.specs.TreeModel.{size, node_of}

-- all multipole rows are made, and so are the local rows of the parents of so many cells from `first` on, which stand above
pub record IsRunBelow (P : ℕ) (b : BasisModel) (up above : List PlaceModel) (first count : ℕ) : Type 0 where
  pub basis : IsBasis P b
  pub rows : AreAllMultipolePlaces P b.points b.tree up
  pub in_range : first + count ≤ size b.tree
  pub parents : (n : ℕ) → first ≤ n → n < first + count → 0 < n → HasLocalPlace P b above (node_of b.tree n).parent
