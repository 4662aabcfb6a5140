-- What a board keeps.
use Rattle.std.specs.Prelude.{Bool, List}
use Rattle.complex_box.specs.declared.CBox.{CBox}
use Rattle.field_basis.specs.Basis.{BasisModel}
use Rattle.field_basis.specs.Place.{PlaceModel}

-- what the rows are made from, a place for the multipole row and one for the local row of each cell, the boxes of the targets, and which of these are filled
pub record BoardParts : Type 0 where
  pub basis : BasisModel
  pub up : List PlaceModel
  pub local : List PlaceModel
  pub values : List CBox
  pub has_up : List Bool
  pub has_local : List Bool
  pub has_value : List Bool
