-- Slices of points, as the program reads them.
use Rattle.std.specs.Prelude.{pos}
use Rattle.points.specs.declared.Kind.TheVariants.{Charge}
use Rattle.points.specs.declared.Point.{Point}

-- what a slice reads past its end
abbrev pub first_point : Point
first_point = record { x = pos 0; y = pos 0; kind = Charge (pos 0) }
