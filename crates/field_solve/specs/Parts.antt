-- The parts of a field, and how they fit together.
use Rattle.std.specs.Prelude.{ℕ, ◌≡◌, List, length, All}
use Rattle.complex_box.specs.Box.{BoxWithin}
use Rattle.complex_box.specs.declared.CBox.{CBox}
use Rattle.field_basis.specs.Basis.{BasisModel, IsBasis}
use Rattle.field_basis.specs.FieldPlaces.{AreAllMultipolePlaces, AreAllLocalPlaces}
use Rattle.limits.specs.Limits.{most_box}
use Rattle.field_basis.specs.Place.{PlaceModel}

-- what it is made from, the places of multipole rows and of local rows in the order of the cells, the boxes of the targets,
-- and how many translations and pairs were made
pub record FieldParts : Type 0 where
  pub basis : BasisModel
  pub up : List PlaceModel
  pub local : List PlaceModel
  pub values : List CBox
  pub translations : ℕ
  pub pairs : ℕ

-- the places of multipole rows and of local rows are those of the field, there is a box for each target,
-- and no end of a box is larger in size than the limit of the grid
pub record FitTogether (P : ℕ) (f : FieldParts) : Type 0 where
  pub basis_is : IsBasis P f.basis
  pub up_are : AreAllMultipolePlaces P f.basis.points f.basis.tree f.up
  pub local_are : AreAllLocalPlaces P f.basis f.local
  pub value_each : length f.values ≡ length f.basis.targets
  pub small : All (BoxWithin (most_box f.basis.tree.grid)) f.values
