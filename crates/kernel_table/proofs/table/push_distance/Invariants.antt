use Rattle.std.proofs.Common.{◌≡◌, ◌+◌, ◌*◌, vec_len}
use Rattle.kernel_table.specs.Table.{IsKernelTable}
use Rattle.kernel_table.proofs.table.push_distance.Given as goal

abbrev pub invariant-loop-i : goal.invariant-loop-i
invariant-loop-i g l = (vec_len l.entries ≡ l.index * (g.row.P * g.row.P) + l.i) × IsKernelTable g.row.P l.entries.items
