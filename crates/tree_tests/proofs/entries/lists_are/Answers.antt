-- There is a list for each cell.
use Rattle.std.proofs.Common.{length, ap, arith}
use Rattle.letters.specs.declared.Letter.TheVariants.{U, V, W, X}
use Rattle.tree_tests.proofs.entries.lists_are.Goals as goal

pub u_list-requires : goal.u_list-requires
u_list-requires g c = omega (arith, c.requires.as_many U, ap length c.cells-count.ensures.all)

pub v_list-requires : goal.v_list-requires
v_list-requires g c = omega (arith, c.requires.as_many V, ap length c.cells-count.ensures.all)

pub w_list-requires : goal.w_list-requires
w_list-requires g c = omega (arith, c.requires.as_many W, ap length c.cells-count.ensures.all)

pub x_list-requires : goal.x_list-requires
x_list-requires g c = omega (arith, c.requires.as_many X, ap length c.cells-count.ensures.all)
