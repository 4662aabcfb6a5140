-- Counts of Re and Im, whole numbers of 10^-12, as a certificate gives them in both modes and a report prints them, and what they contain.
use Rattle.std.specs.Prelude.{ℤ, pos, ◌*ℤ◌, ◌≤ℤ◌, ◌^◌}
use Rattle.exact_math.specs.Contains.{Contains}
use Rattle.exact_math.specs.Ends.{Ends, BoxEnds}
use Rattle.exact_math.specs.Ratio.{ComplexRatio, re_part, im_part}
use Rattle.exact_math.specs.Rounding.{floor_div, ceil_div}
use Rattle.exact_math.specs.Units.{unit}

-- how many counts are 1
abbrev pub count_unit : ℤ
count_unit = pos (10 ^ 12)

-- an end in units of 2^-40 as a count, rounded down, and rounded up
abbrev pub count_below : ℤ → ℤ
count_below n = floor_div (count_unit *ℤ n) unit

abbrev pub count_above : ℤ → ℤ
count_above n = ceil_div (count_unit *ℤ n) unit

-- the counts of both ends of an interval
abbrev pub count_ends : Ends → Ends
count_ends i = record { lo = count_below i.lo; hi = count_above i.hi }

-- two counts enclose two ends: the lower one is no more than its end, and the upper one no less
pub record AreAround (i counts : Ends) : Type 0 where
  pub lower : (unit *ℤ counts.lo) ≤ℤ (count_unit *ℤ i.lo)
  pub upper : (count_unit *ℤ i.hi) ≤ℤ (unit *ℤ counts.hi)

-- and so the counts of both parts of a box
pub record EncloseBox (box : BoxEnds) (first second : Ends) : Type 0 where
  pub re : AreAround box.re first
  pub im : AreAround box.im second

-- the counts contain the parts of a complex fraction
pub record CountsHold (first second : Ends) (z : ComplexRatio) : Type 0 where
  pub re : Contains count_unit first.lo first.hi (re_part z)
  pub im : Contains count_unit second.lo second.hi (im_part z)
