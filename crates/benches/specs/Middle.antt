-- The cell of the samples.
use Rattle.cell_name.specs.Square.{Square}
use Rattle.limits.specs.Limits.{first_grid}

-- its side is 1024, and its corner the origin
abbrev pub middle : Square
middle = record { grid = first_grid; level = 6; i = 32; j = 32 }
