-- Which rows are shifted up.
use Rattle.std.specs.Prelude.{List, Bool, ◌&&◌, nat_lt}
use Rattle.cell_name.specs.Square.{Square}
use Rattle.points.specs.declared.Point.{Point}
use Rattle.quadtree.specs.Tree.{has_source}

-- whether a row is shifted up out of a cell: it lies below the root and has a source
abbrev pub is_shifted : List Point → Square → Bool
is_shifted points c = nat_lt 0 c.level && has_source points c
