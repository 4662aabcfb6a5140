-- Sums over rows of points, for each node over all nodes under it.
use Rattle.std.specs.Prelude.{ℕ, ◌^◌, ◌≡◌, ◌<◌, ◌≤◌, List, length, map, sum, All}
use Rattle.std.specs.List.{range_with_len}
use Rattle.certificate_nodes.specs.PointRows.{row_at}
use Rattle.limits.specs.Limits.{most_weight, widest_grid}
use Rattle.node_sums.specs.Sums.{AreParents, sum_under}
use Rattle.points.specs.Limits.{InRange, total_weight}
use Rattle.points.specs.declared.Point.{Point}
use Rattle.soundness.specs.Steps.{weight_of}

-- how many points each row has
abbrev pub own_counts : List (List Point) → List ℕ
own_counts rows = map (λ n. length (row_at rows n)) (range_with_len 0 (length rows))

-- how heavy points are at an order
abbrev pub points_weight : ℕ → List Point → ℕ
points_weight order points = weight_of (λ p. p) order points

abbrev pub own_weights : ℕ → List (List Point) → List ℕ
own_weights order rows = map (λ n. points_weight order (row_at rows n)) (range_with_len 0 (length rows))

-- the sum of some values under each node
abbrev pub sums_under : List ℕ → List ℕ → List ℕ
sums_under parents values = map (sum_under parents values) (range_with_len 0 (length values))

-- there is a parent for each value, and all values fit together
pub record AddUp (parents values : List ℕ) : Type 0 where
  pub are_parents : AreParents parents
  pub as_many : length parents ≡ length values
  pub room : sum values < 2 ^ 64

-- points in range, no heavier than those of a list may be
pub record AreLight (points : List Point) : Type 0 where
  pub range : All (InRange widest_grid) points
  pub light : total_weight points ≤ most_weight widest_grid

abbrev pub AreLightRows : List (List Point) → Type 0
AreLightRows rows = (n : ℕ) → n < length rows → AreLight (row_at rows n)
