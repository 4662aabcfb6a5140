use Rattle.std.proofs.Common.{◌≡◌, ◌*◌, vec_len}
use Rattle.kernel_table.specs.Table.{IsKernelTable}
use Rattle.kernel_table.proofs.table.all_entries.Given as goal

abbrev pub invariant-loop-index : goal.invariant-loop-index
invariant-loop-index g l = (vec_len l.entries ≡ l.index * (g.row.P * g.row.P)) × IsKernelTable g.row.P l.entries.items
