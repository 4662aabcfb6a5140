-- The points that draws make, and the sample of a seed.
use Rattle.std.specs.Prelude.{ℕ, ◌+◌, ◌*◌, ◌/◌, ◌%◌, ◌^◌, ◌==◌, nat_lt, if◌then◌else◌, ℤ, pos, ◌-ℤ◌, map}
use Rattle.std.specs.List.{range_with_len}
use Rattle.limits.specs.Grid.{half}
use Rattle.limits.specs.Limits.{first_grid}
use Rattle.points.specs.declared.Kind.{Kind}
use Rattle.points.specs.declared.Kind.TheVariants.{Charge, Dipole, Target}
use Rattle.points.specs.declared.Mode.TheVariants.{Field}
use Rattle.points.specs.declared.Point.{Point}
use Rattle.points.specs.declared.Points.{Points}
use Rattle.point_sample.specs.Generator.{draw, state_after}

-- A coordinate from the low end of the grid of version 1 on.
-- At scale 0 it may be anywhere on the side of the grid, and each scale leaves a quarter of the one before.
abbrev pub coordinate : ℕ → ℕ → ℤ
coordinate r scale = pos (r / 4 ^ scale) -ℤ pos (half first_grid)

-- a part of a strength, from -most to most
abbrev pub component : ℕ → ℕ → ℤ
component most r = pos (r % (2 * most + 1)) -ℤ pos most

-- of the four values of the choice two give a charge, one a dipole and one a target
abbrev pub kind_of : ℕ → ℕ → ℕ → Kind
kind_of choice r s =
    if nat_lt (choice % 4) 2 then Charge (component 1000 r) else (if choice % 4 == 2 then Dipole (component 100 r) (component 100 s) else Target)

-- The point of the next five draws from the state x: two for the place, one for the scale and the kind, and two for the strength.
-- The lowest two bits of the third draw choose the kind, and the two bits above them are the scale.
unfoldable pub next_point : ℕ → Point
next_point x =
    record { x = coordinate (draw x 1) (draw x 3 / 4 % 4); y = coordinate (draw x 2) (draw x 3 / 4 % 4); kind = kind_of (draw x 3) (draw x 4) (draw x 5) }

-- The sample of a seed, a field list of version 1 with n points: five draws were taken for each point before the point number k, counted from 0.
abbrev pub sample : ℕ → ℕ → Points
sample seed n = record { version = 1; mode = Field; list = map (λ k. next_point (state_after seed (5 * k))) (range_with_len 0 n) }
