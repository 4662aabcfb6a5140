-- The printed counts of a box: whole numbers of 10^-12.
use Rattle.exact_math.specs.Contains.{Contains}
use Rattle.exact_math.specs.Ends.{Ends, BoxEnds, neg_ends}
use Rattle.exact_math.specs.Ratio.{ComplexRatio, re_part, im_part, neg_ratio}
use Rattle.points.specs.declared.Mode.{Mode}
use Rattle.points.specs.declared.Mode.TheVariants.{Field, Velocity}
pub use Rattle.soundness.specs.Counts.{count_below, count_above, count_ends}
use Rattle.soundness.specs.Counts.{count_unit}

-- the counts that one target line prints, of `re` and `im` or of `u` and `v`
pub record TargetCounts : Type 0 where
  pub first : Ends
  pub second : Ends

-- A field line prints both parts. In a velocity line `u` is the real part and `v` the negative of the imaginary part.
abbrev pub target_counts : Mode → BoxEnds → TargetCounts
target_counts Field b = record { first = count_ends b.re; second = count_ends b.im }
target_counts Velocity b = record { first = count_ends b.re; second = neg_ends (count_ends b.im) }

-- the printed counts contain the parts of the fraction, in units of 10^-12
abbrev pub CountsContain : Mode → TargetCounts → ComplexRatio → Type 0
CountsContain Field c z =
    record { first : Contains count_unit c.first.lo c.first.hi (re_part z); second : Contains count_unit c.second.lo c.second.hi (im_part z) }
CountsContain Velocity c z =
    record { first : Contains count_unit c.first.lo c.first.hi (re_part z); second : Contains count_unit c.second.lo c.second.hi (neg_ratio (im_part z)) }
