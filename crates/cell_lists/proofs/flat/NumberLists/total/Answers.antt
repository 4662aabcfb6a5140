-- The lists fill the vector.
use Rattle.std.proofs.Common.{arith}
use Rattle.cell_lists.proofs.FlatLists.{total_is}
use Rattle.cell_lists.proofs.flat.NumberLists.total.Goals as goal

pub returns : goal.returns
returns c = omega (arith, total_is c.self.inside.items.items c.self.inside.ranges.items c.args.self.now c.self.invariant c.self.view_is)
