-- Which places, kinds, strengths and lists the text allows, and with which orders a list is solved.
use Rattle.std.specs.Prelude.{ℕ, ◌≤◌, ◌==◌, IsTrue, not, List, length, All, sum_by}
use Rattle.exact_math.specs.Orders.{IsOrder}
use Rattle.exact_math.specs.Sizes.{weight_at}
use Rattle.limits.specs.Grid.{IsInGrid}
use Rattle.limits.specs.Limits.{IsVersion, first_grid, grid_of, most_strength, most_points, most_weight, most_order}
use Rattle.points.specs.declared.Kind.{Kind}
use Rattle.points.specs.declared.Kind.TheVariants.{Charge, Vortex, Pole}
use Rattle.points.specs.declared.Mode.{Mode}
use Rattle.points.specs.declared.Mode.TheVariants.{Field, Velocity}
use Rattle.points.specs.declared.Point.{Point}
use Rattle.points.specs.declared.Points.{Points}
use Rattle.points.specs.Points.{strength, pole, dipole}
use Rattle.points.specs.Strength.{StrengthWithin}

-- texts of the grid's version have lines of this kind: a pole stands in version 2 alone
abbrev pub IsKindOf : ℕ → Kind → Type 0
IsKindOf grid (Pole re im) = IsTrue (not (grid == first_grid))
IsKindOf grid _ = Unit {0}

-- each strength component is within its limit
abbrev pub HasStrength : Kind → Type 0
HasStrength k = StrengthWithin most_strength (strength k)

-- the place is in the grid, the kind is one of its version, and each strength component is within its limit
pub record InRange (grid : ℕ) (p : Point) : Type 0 where
  pub place : IsInGrid grid p.x p.y
  pub kind : IsKindOf grid p.kind
  pub strength : HasStrength p.kind

-- |a| + 64 |b| of the pole a and the dipole b
abbrev pub weight64 : Point → ℕ
weight64 p = weight_at 32 (pole p.kind) (dipole p.kind)

abbrev pub total_weight : List Point → ℕ
total_weight points = sum_by weight64 points

-- no charge stands in a velocity list, and no vortex in a field list; a pole stands in both
abbrev pub FitsMode : Mode → Kind → Type 0
FitsMode Velocity (Charge q) = ⊥
FitsMode Field (Vortex g) = ⊥
FitsMode _ _ = Unit {0}

-- points in the grid, no more and no heavier than its lists may be
pub record AreWithin (grid : ℕ) (points : List Point) : Type 0 where
  pub range : All (InRange grid) points
  pub count : length points ≤ most_points grid
  pub weight : total_weight points ≤ most_weight grid

-- the list can be written in a text of its version and mode
pub record WithinLimits (points : Points) : Type 0 where
  pub version : IsVersion points.version
  pub mode_fits : All (λ p. FitsMode points.mode p.kind) points.list
  pub within : AreWithin (grid_of points.version) points.list

-- one of the orders that the version of the grid has: the greatest is version 2's alone
pub record IsOrderOf (grid order : ℕ) : Type 0 where
  pub is_order : IsOrder order
  pub most : order ≤ most_order grid
