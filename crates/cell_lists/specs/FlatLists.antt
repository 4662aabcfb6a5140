-- Lists of numbers that stand end to end in one vector.
use Rattle.std.specs.Prelude.{ℕ, ◌≡◌, ◌-◌, ◌≤◌, List, length, map, slice_range, sum_by, All}
use Rattle.cell_lists.specs.declared.flat.Range.{Range}

-- the lists that ranges of a vector make
abbrev pub lists_in : List ℕ → List Range → List (List ℕ)
lists_in items ranges = map (λ (r : Range). slice_range items r.from r.to) ranges

-- a range lies in the vector
pub record IsRange (items : List ℕ) (r : Range) : Type 0 where
  pub ordered : r.from ≤ r.to
  pub in_range : r.to ≤ length items

-- each range lies in the vector, and together they are as long as it
pub record AreRanges (items : List ℕ) (ranges : List Range) : Type 0 where
  pub each : All (IsRange items) ranges
  pub filled : length items ≡ sum_by (λ (r : Range). r.to - r.from) ranges
