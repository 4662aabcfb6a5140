use Rattle.std.proofs.Common.{sym, subst}
use Rattle.cell_name.specs.Square.{Square, Holds}
use Rattle.cell_name.proofs.Cells.{Holds-square_at, square_at-unique, parent-square_at, Holds-parent}
use Rattle.cell_name.proofs.Distances.{offset_x_at_most, offset_y_at_most}
use Rattle.cell_name.proofs.HoldsTest.{Holds-from_test, test-from_Holds}
use Rattle.cell_name.proofs.Quarters.{lies_in_one_child, parent-child, ancestor-square_at}
use Rattle.cell_name.proofs.law.cells_tile_the_grid.Goals as goal

pub returns-clause-one : goal.returns-clause-one
returns-clause-one c d x y inside =
    (square_at-unique d x y inside, λ e. let P : Square → Type 0 = λ v. Holds v x y in subst P (sym e) (Holds-square_at d.grid d.level x y inside))

pub returns-clause-test : goal.returns-clause-test
returns-clause-test c d x y = (Holds-from_test d x y, test-from_Holds d x y)

pub returns-clause-parent : goal.returns-clause-parent
returns-clause-parent c = parent-square_at

pub returns-clause-places_of_parent : goal.returns-clause-places_of_parent
returns-clause-places_of_parent c = Holds-parent

pub returns-clause-ancestor : goal.returns-clause-ancestor
returns-clause-ancestor c = ancestor-square_at

pub returns-clause-children : goal.returns-clause-children
returns-clause-children c = lies_in_one_child

pub returns-clause-parent_of_child : goal.returns-clause-parent_of_child
returns-clause-parent_of_child c = parent-child

pub returns-clause-offset : goal.returns-clause-offset
returns-clause-offset c d x y h = (offset_x_at_most d x y h, offset_y_at_most d x y h)
