use Rattle.row_recursions.proofs.Geometry.{held_places, pairs_of_cells, far_places, quarters_of_cells}
use Rattle.row_recursions.proofs.law.cells_and_rows.Goals as goal

pub returns : goal.returns
returns c = record { held = held_places; pairs = pairs_of_cells; far = far_places; quarters = quarters_of_cells }
