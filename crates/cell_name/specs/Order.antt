-- The order of cells by level, column and row.
use Rattle.std.specs.Prelude.{◌≡◌, ◌<◌, ◌⊎◌}
use Rattle.cell_name.specs.Square.{Square}

-- `c` stands before `d`: at a lower level, or in an earlier column of its level, or further south in its column
pub record IsBefore (c d : Square) : Type 0 where
  pub before : (c.level < d.level) ⊎ ((c.level ≡ d.level) × ((c.i < d.i) ⊎ ((c.i ≡ d.i) × (c.j < d.j))))
