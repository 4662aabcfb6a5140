-- The cell lies inside its grid, so nothing overflows.
use Rattle.std.specs.Prelude.{pos}
use Rattle.cell_name.specs.Cell.{square}
use Rattle.cell_name.specs.Square.{side, corner_x, corner_y}
use Rattle.cell_name.proofs.Held.{middle_is, columns, rows}
use Rattle.cell_name.proofs.cell.Cell.doubled_centre.Goals as goal

pub overflow_mul-result : goal.overflow_mul-result
overflow_mul-result c = (middle_is c.corner-x.result.0 c.side-s.result (corner_x (square c.args.self)) (pos (side (square c.args.self))) c.corner-x.ensures.x c.side-s.ensures.value (columns c.args.self)).twice

pub overflow_add-result : goal.overflow_add-result
overflow_add-result c = (middle_is c.corner-x.result.0 c.side-s.result (corner_x (square c.args.self)) (pos (side (square c.args.self))) c.corner-x.ensures.x c.side-s.ensures.value (columns c.args.self)).sum

pub overflow_mul-result-2 : goal.overflow_mul-result-2
overflow_mul-result-2 c = (middle_is c.corner-x.result.1 c.side-s.result (corner_y (square c.args.self)) (pos (side (square c.args.self))) c.corner-x.ensures.y c.side-s.ensures.value (rows c.args.self)).twice

pub overflow_add-result-2 : goal.overflow_add-result-2
overflow_add-result-2 c = (middle_is c.corner-x.result.1 c.side-s.result (corner_y (square c.args.self)) (pos (side (square c.args.self))) c.corner-x.ensures.y c.side-s.ensures.value (rows c.args.self)).sum

pub returns-clause-x : goal.returns-clause-x
returns-clause-x c = (middle_is c.corner-x.result.0 c.side-s.result (corner_x (square c.args.self)) (pos (side (square c.args.self))) c.corner-x.ensures.x c.side-s.ensures.value (columns c.args.self)).value

pub returns-clause-y : goal.returns-clause-y
returns-clause-y c = (middle_is c.corner-x.result.1 c.side-s.result (corner_y (square c.args.self)) (pos (side (square c.args.self))) c.corner-x.ensures.y c.side-s.ensures.value (rows c.args.self)).value
