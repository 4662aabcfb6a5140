-- A row that is lent to be written.
use Rattle.std.specs.Prelude.{List}
use Rattle.std.specs.Borrow.{Lends, MutBor, Fml, RattleType, Array}
use Rattle.complex_box.specs.declared.CBox.{CBox}
use Rattle.complex_box.specs.contracts.CBox.{the_row as box_row}
use Rattle.field_basis.specs.Place.{PlaceModel}
use Rattle.field_basis.specs.contracts.place.Place.{the_row}

abbrev pub with_row : PlaceModel → List CBox → PlaceModel
with_row p row = record p { row = row }

abbrev pub LendsRow : RattleType → MutBor PlaceModel → MutBor (List CBox) → Fml
LendsRow order p r = Lends (the_row order) (Array box_row 0) p r (with_row p.now)
