use Rattle.std.proofs.Common.{◌≡◌, vec_len}
use Rattle.kernel_table.specs.Table.{AreWays}
use Rattle.kernel_table.proofs.table.all_ways.Given as goal

abbrev pub invariant-loop-i : goal.invariant-loop-i
invariant-loop-i g l = (vec_len l.ways ≡ l.i) × AreWays g.row.P l.ways.items
