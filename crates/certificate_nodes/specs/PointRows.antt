-- Rows of points that stand end to end in one vector.
use Rattle.std.specs.Prelude.{ℕ, ◌<◌, ◌≤◌, List, [], length, map, slice_range, slice_index_or, All}
use Rattle.std.specs.List.{range_with_len}
use Rattle.certificate_nodes.specs.declared.point_rows.Range.{Range}
use Rattle.certificate_nodes.specs.AtNodes.{points_at}
use Rattle.groups.specs.GroupsByKey.{group_at}
use Rattle.points.specs.declared.Point.{Point}

-- the rows that ranges of a vector make
abbrev pub rows_in : List Point → List Range → List (List Point)
rows_in items ranges = map (λ (r : Range). slice_range items r.from r.to) ranges

-- a range lies in the vector
pub record IsRowRange (items : List Point) (r : Range) : Type 0 where
  pub ordered : r.from ≤ r.to
  pub in_range : r.to ≤ length items

abbrev pub AreRowRanges : List Point → List Range → Type 0
AreRowRanges items ranges = All (IsRowRange items) ranges

-- the row of a number, empty past the last
abbrev pub row_at : List (List Point) → ℕ → List Point
row_at rows n = slice_index_or rows n []

-- all members of the first groups are below a number
abbrev pub AreIndices : ℕ → ℕ → List (List ℕ) → Type 0
AreIndices most count groups = (n : ℕ) → n < count → All (λ k. k < most) (group_at groups n)

-- the points of the first groups, a row for each
abbrev pub grouped_points : List Point → List (List ℕ) → ℕ → List (List Point)
grouped_points points groups count = map (λ n. points_at points (group_at groups n)) (range_with_len 0 count)
