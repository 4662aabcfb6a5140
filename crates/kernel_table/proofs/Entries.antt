-- What the rounded kernel keeps: it contains the exact one, it is narrow, and it is small.
use Rattle.std.proofs.Common.{arith}
use Rattle.std.proofs.lemmas.Int.{ints}
use Rattle.kernel_table.specs.Kernel.{KernelEntries}
use Rattle.kernel_table.proofs.Contained.{kernel_entry_contains}
use Rattle.kernel_table.proofs.Norms.{squares}
use Rattle.kernel_table.proofs.Sizes.{kernel_entry_within}
use Rattle.kernel_table.proofs.Widths.{kernel_entry_narrow}

pub kernel_entries : KernelEntries
kernel_entries e k l h small = record {
  contains = kernel_entry_contains e (let s = squares e h in let n = s.norm_low in omega (arith, ints, n)) k l;
  narrow = kernel_entry_narrow e h k l small;
  size = kernel_entry_within e h k l small;
}
