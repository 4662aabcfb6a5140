-- The program's cells as squares.
use Rattle.std.specs.Prelude.{ℕ, Bool, cond}
use Rattle.cell_name.specs.declared.cell.Cell.{Cell}
use Rattle.cell_name.specs.Square.{Square}

-- the cell as the definitions see it
abbrev pub square : Cell → Square
square c = record { grid = c.grid; level = c.level; i = c.i; j = c.j }

-- 1 for the east or the north half, 0 for the other
abbrev pub half_number : Bool → ℕ
half_number b = cond b 1 0
