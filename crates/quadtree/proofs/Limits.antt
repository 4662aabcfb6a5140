-- A list within the limits lies in the grid.
use Rattle.std.proofs.Common.{ℕ, List}
use Rattle.std.specs.Prelude.{All}
use Rattle.std.proofs.lemmas.List.Elements.{All-weaker}
use Rattle.limits.specs.Grid.{IsInGrid}
use Rattle.points.specs.declared.Point.{Point}
use Rattle.points.specs.Limits.{InRange}
use Rattle.quadtree.specs.Tree.{AreInGrid}

pub in_grid : (grid : ℕ) (points : List Point) → All (InRange grid) points → AreInGrid grid points
in_grid grid points h = All-weaker (InRange grid) (λ p. IsInGrid grid p.x p.y) (λ p r. r.place) points h
