-- The targets of a list by their positions.
use Rattle.std.specs.Prelude.{ℕ, pos, not, List, length, filter, slice_index_or}
use Rattle.std.specs.List.{range_with_len}
use Rattle.points.specs.Points.{is_source}
use Rattle.points.specs.declared.Kind.TheVariants.{Target}
use Rattle.points.specs.declared.Point.{Point}

-- what stands past the last point
abbrev pub no_point : Point
no_point = record { x = pos 0; y = pos 0; kind = Target }

abbrev pub point_at : List Point → ℕ → Point
point_at points k = slice_index_or points k no_point

-- the positions of the targets, ascending
abbrev pub target_positions : List Point → List ℕ
target_positions points = filter (λ k. not (is_source (point_at points k).kind)) (range_with_len 0 (length points))
