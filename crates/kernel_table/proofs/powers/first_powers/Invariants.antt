use Rattle.std.proofs.Common.{◌≡◌, vec_len}
use Rattle.complex_box.specs.Box.{box_ends, number}
use Rattle.kernel_table.specs.Kernel.{kernel_power}
use Rattle.kernel_table.specs.Table.{ArePowers}
use Rattle.kernel_table.proofs.powers.first_powers.Given as goal

-- the power that comes next, and those that are there
abbrev pub invariant-loop-n : goal.invariant-loop-n
invariant-loop-n l = (box_ends l.power ≡ kernel_power (number l.e) l.n) × (vec_len l.powers ≡ l.n) × ArePowers (number l.e) l.powers.items
