-- Counts keep the bounds of the ends that they come from.
use Rattle.std.proofs.Common.{◌≡◌, ◌^◌, ℤ, pos, ◌*ℤ◌, ◌≤ℤ◌, ◌<ℤ◌, Bool, true, false, arith}
use borrow.Author.Differences.{ints}
use Rattle.exact_math.proofs.Bridges.{contains-neg}
use Rattle.exact_math.proofs.Enclosures.{floor_div_le, ceil_div_ge}
use Rattle.soundness.proofs.Counts.{below_any, above_any}
use Rattle.exact_math.specs.Contains.{Contains}
use Rattle.exact_math.specs.Ends.{BoxEnds, BoxEndsContain}
use Rattle.exact_math.specs.Ratio.{Ratio, ComplexRatio, re_part, im_part}
use Rattle.report_lines.specs.Counts.{count_below, count_above, CountsContain, target_counts}
use Rattle.points.specs.declared.Mode.{Mode}
use Rattle.points.specs.declared.Mode.TheVariants.{Field, Velocity}

pub count_below-bound : (n : ℤ) (x : Ratio) → pos 0 <ℤ x.denominator → (n *ℤ x.denominator) ≤ℤ (pos (2 ^ 40) *ℤ x.numerator)
    → (count_below n *ℤ x.denominator) ≤ℤ (pos (10 ^ 12) *ℤ x.numerator)
count_below-bound n x hd h =
    below_any (pos (2 ^ 40)) (pos (10 ^ 12)) n x.denominator x.numerator (count_below n) (omega (arith, ints)) (omega (arith, ints)) hd
    (floor_div_le (pos (10 ^ 12) *ℤ n) (pos (2 ^ 40)) (omega (arith, ints))) h

pub count_above-bound : (n : ℤ) (x : Ratio) → pos 0 <ℤ x.denominator → (pos (2 ^ 40) *ℤ x.numerator) ≤ℤ (n *ℤ x.denominator)
    → (pos (10 ^ 12) *ℤ x.numerator) ≤ℤ (count_above n *ℤ x.denominator)
count_above-bound n x hd h =
    above_any (pos (2 ^ 40)) (pos (10 ^ 12)) n x.denominator x.numerator (count_above n) (omega (arith, ints)) (omega (arith, ints)) hd
    (ceil_div_ge (pos (10 ^ 12) *ℤ n) (pos (2 ^ 40)) (omega (arith, ints))) h

-- the counts of both ends contain what the ends contain
pub contains-counts : (lo hi : ℤ) (x : Ratio) → Contains (pos (2 ^ 40)) lo hi x → Contains (pos (10 ^ 12)) (count_below lo) (count_above hi) x
contains-counts lo hi x h = record {
  fraction = h.fraction;
  above = count_below-bound lo x h.fraction h.above;
  below = count_above-bound hi x h.fraction h.below;
}

-- the counts of a target line contain what the box contains
pub CountsContain-box : (mode : Mode) (b : BoxEnds) (z : ComplexRatio) → BoxEndsContain (pos (2 ^ 40)) b z → CountsContain mode (target_counts mode b) z
CountsContain-box Field b z h = record { first = contains-counts b.re.lo b.re.hi (re_part z) h.re; second = contains-counts b.im.lo b.im.hi (im_part z) h.im }
CountsContain-box Velocity b z h = record { first = contains-counts b.re.lo b.re.hi (re_part z) h.re; second = contains-neg (contains-counts b.im.lo b.im.hi (im_part z) h.im) }
