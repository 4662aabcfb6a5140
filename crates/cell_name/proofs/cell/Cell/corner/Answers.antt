-- The cell lies inside its grid, so nothing overflows.
use Rattle.cell_name.proofs.Held.{corner_x_is, corner_y_is}
use Rattle.cell_name.proofs.cell.Cell.corner.Goals as goal

pub overflow_mul-result : goal.overflow_mul-result
overflow_mul-result c = (corner_x_is c.args.self c.from.result c.side-s.result c.half-half.result c.from.ensures c.side-s.ensures.value c.half-half.ensures).product

pub overflow_sub-result : goal.overflow_sub-result
overflow_sub-result c = (corner_x_is c.args.self c.from.result c.side-s.result c.half-half.result c.from.ensures c.side-s.ensures.value c.half-half.ensures).difference

pub overflow_mul-result-2 : goal.overflow_mul-result-2
overflow_mul-result-2 c = (corner_y_is c.args.self c.from-2.result c.side-s.result c.half-half.result c.from-2.ensures c.side-s.ensures.value c.half-half.ensures).product

pub overflow_sub-result-2 : goal.overflow_sub-result-2
overflow_sub-result-2 c = (corner_y_is c.args.self c.from-2.result c.side-s.result c.half-half.result c.from-2.ensures c.side-s.ensures.value c.half-half.ensures).difference

pub returns-clause-x : goal.returns-clause-x
returns-clause-x c = (corner_x_is c.args.self c.from.result c.side-s.result c.half-half.result c.from.ensures c.side-s.ensures.value c.half-half.ensures).value

pub returns-clause-y : goal.returns-clause-y
returns-clause-y c = (corner_y_is c.args.self c.from-2.result c.side-s.result c.half-half.result c.from-2.ensures c.side-s.ensures.value c.half-half.ensures).value
