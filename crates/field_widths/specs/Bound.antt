-- How wide the printed parts of a field can be.
use Rattle.std.specs.Prelude.{ℕ, ◌+◌, ◌*◌, ◌^◌, ◌≡◌, ◌≤◌, pos, ◌-ℤ◌, ◌*ℤ◌, ◌≤ℤ◌, List, length, All, Contains, sum_by}
use Rattle.exact_math.specs.Ends.{Ends, BoxEnds}
use Rattle.exact_math.specs.Sizes.{weight_at}
use Rattle.cell_name.specs.Square.{Square, side}
use Rattle.points.specs.Points.{pole, dipole}
use Rattle.points.specs.declared.Point.{Point}
use Rattle.soundness.specs.Counts.{count_ends}
use Rattle.tree_field.specs.Accounting.{sources}
use Rattle.truncation.specs.Tails.{pair_tail}

-- s is the smallest side of some cells
pub record IsSmallestSide (cells : List Square) (s : ℕ) : Type 0 where
  pub least : All (λ c. s ≤ side c) cells
  pub some : (c : Square) × Contains cells c × (side c ≡ s)

-- how heavy a point is at order P
abbrev pub point_weight : ℕ → Point → ℕ
point_weight P p = weight_at P (pole p.kind) (dipole p.kind)

-- and all sources together
abbrev pub source_weight : ℕ → List Point → ℕ
source_weight P points = sum_by (point_weight P) (sources points)

-- The bound at order P, with the smallest side s: s times what lies between two printed counts is at most 2 S T + 6 P^2 S + 30 P^4 n + 64 P^2 + s (6 n + 6), for n sources of the weight S
-- and the tail T of two cells. The first term is what is cut off, and the others are what rounding adds.
abbrev pub width_bound : ℕ → ℕ → List Point → ℕ
width_bound P s points =
    let S = source_weight P points in
    let n = length (sources points) in
    2 * S * pair_tail P + 6 * P ^ 2 * S + 30 * P ^ 4 * n + 64 * P ^ 2 + s * (6 * n + 6)

-- no more than that lies between the ends
abbrev pub NoWider : ℕ → ℕ → List Point → Ends → Type 0
NoWider P s points counts = (pos s *ℤ (counts.hi -ℤ counts.lo)) ≤ℤ pos (width_bound P s points)

-- nor between the printed counts of either part of a box
pub record PrintsNoWider (P s : ℕ) (points : List Point) (box : BoxEnds) : Type 0 where
  pub re : NoWider P s points (count_ends box.re)
  pub im : NoWider P s points (count_ends box.im)

-- nor of any of some boxes, whatever the smallest side of these cells is
abbrev pub PrintNoWider : ℕ → List Point → List Square → List BoxEnds → Type 0
PrintNoWider P points cells boxes = (s : ℕ) → IsSmallestSide cells s → All (PrintsNoWider P s points) boxes
