-- A point in range of a version is in range of the widest grid.
use Rattle.std.proofs.Common.{ℕ, refl}
use Rattle.limits.proofs.Grids.{in_widest}
use Rattle.limits.specs.Limits.{IsGrid, widest_grid}
use Rattle.points.specs.declared.Kind.{Kind}
use Rattle.points.specs.declared.Kind.TheVariants.{Charge, Dipole, Vortex, Target, Pole}
use Rattle.points.specs.declared.Point.{Point}
use Rattle.points.specs.Limits.{InRange, IsKindOf}

-- the widest grid has points of each kind
pub kind_of_widest : (kind : Kind) → IsKindOf widest_grid kind
kind_of_widest (Charge q) = tt
kind_of_widest (Dipole re im) = tt
kind_of_widest (Vortex g) = tt
kind_of_widest Target = tt
kind_of_widest (Pole re im) = refl

pub range_in_widest : (grid : ℕ) (p : Point) → IsGrid grid → InRange grid p → InRange widest_grid p
range_in_widest grid p is r = record { place = in_widest grid p.x p.y is r.place; kind = kind_of_widest p.kind; strength = r.strength }
