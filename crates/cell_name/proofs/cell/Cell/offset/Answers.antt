-- The cell lies inside the grid, so the differences are small.
use Rattle.std.proofs.Common.{arith}
use Rattle.std.proofs.lemmas.Int.{ints}
use Rattle.cell_name.proofs.Cells.{cell_inside, half_small}
use Rattle.cell_name.proofs.cell.Cell.offset.Goals as goal

pub overflow_sub-result : goal.overflow_sub-result
overflow_sub-result c = let inside = cell_inside c.args.self in let small = half_small c.args.self in omega (arith, ints)

pub overflow_sub-result-2 : goal.overflow_sub-result-2
overflow_sub-result-2 c = let inside = cell_inside c.args.self in let small = half_small c.args.self in omega (arith, ints)

pub returns-clause-x : goal.returns-clause-x
returns-clause-x c = let inside = cell_inside c.args.self in let small = half_small c.args.self in omega (arith, ints)

pub returns-clause-y : goal.returns-clause-y
returns-clause-y c = let inside = cell_inside c.args.self in let small = half_small c.args.self in omega (arith, ints)
