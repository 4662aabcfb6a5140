-- The positions of a list's points that a cell holds.
use Rattle.std.specs.Prelude.{ℕ, List, length, Bool, false, Option, Some, None, slice_get, filter}
use Rattle.std.specs.List.{range_with_len}
use Rattle.points.specs.declared.Point.{Point}
use Rattle.cell_name.specs.Square.{Square, holds_test}

-- whether a cell holds a point
abbrev pub holds_point : Square → Option Point → Bool
holds_point c (Some p) = holds_test c p.x p.y
holds_point c None = false

-- whether a cell holds the point at a position
abbrev pub holds_position : Square → List Point → ℕ → Bool
holds_position c points k = holds_point c (slice_get points k)

-- the positions among `order` whose points a cell holds, in their order
abbrev pub members_among : List Point → Square → List ℕ → List ℕ
members_among points c order = filter (λ k. holds_position c points k) order

-- the positions of a cell's points, ascending
abbrev pub members_of : List Point → Square → List ℕ
members_of points c = members_among points c (range_with_len 0 (length points))
