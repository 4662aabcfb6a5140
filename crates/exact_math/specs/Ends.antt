-- Rounded operations on whole ends: what the operations of intervals and boxes compute, and what their results contain.
use Rattle.std.specs.Prelude.{ℕ, ℤ, pos, neg_ℤ, ◌+ℤ◌, ◌-ℤ◌, ◌*ℤ◌, ◌≤ℤ◌}
use Rattle.std.specs.Int.{int_min, int_max}
use Rattle.exact_math.specs.Contains.{Contains}
use Rattle.exact_math.specs.Gaussian.{Gaussian}
use Rattle.exact_math.specs.Ratio.{ComplexRatio, re_part, im_part}
use Rattle.exact_math.specs.Rounding.{floor_div, ceil_div}
use Rattle.exact_math.specs.Within.{Within}

-- the lower and the upper end of an interval
pub record Ends : Type 0 where
  pub lo : ℤ
  pub hi : ℤ

-- the ends of the two parts of a box
pub record BoxEnds : Type 0 where
  pub re : Ends
  pub im : Ends

abbrev pub add_ends : Ends → Ends → Ends
add_ends i j = record { lo = i.lo +ℤ j.lo; hi = i.hi +ℤ j.hi }

abbrev pub neg_ends : Ends → Ends
neg_ends i = record { lo = neg_ℤ i.hi; hi = neg_ℤ i.lo }

abbrev pub sub_ends : Ends → Ends → Ends
sub_ends i j = record { lo = i.lo -ℤ j.hi; hi = i.hi -ℤ j.lo }

-- what a sum leaves without a part: lower end from lower end, upper end from upper end
abbrev pub take_ends : Ends → Ends → Ends
take_ends i j = record { lo = i.lo -ℤ j.lo; hi = i.hi -ℤ j.hi }

-- the least and the greatest of four numbers
abbrev pub least : ℤ → ℤ → ℤ → ℤ → ℤ
least a b c d = int_min (int_min a b) (int_min c d)

abbrev pub greatest : ℤ → ℤ → ℤ → ℤ → ℤ
greatest a b c d = int_max (int_max a b) (int_max c d)

-- the products of both ends with k, in order
abbrev pub scale_ends : Ends → ℤ → Ends
scale_ends i k = record { lo = int_min (i.lo *ℤ k) (i.hi *ℤ k); hi = int_max (i.lo *ℤ k) (i.hi *ℤ k) }

-- the least and the greatest of the four products of ends
abbrev pub times_ends : Ends → Ends → Ends
times_ends i j =
    record { lo = least (i.lo *ℤ j.lo) (i.lo *ℤ j.hi) (i.hi *ℤ j.lo) (i.hi *ℤ j.hi); hi = greatest (i.lo *ℤ j.lo) (i.lo *ℤ j.hi) (i.hi *ℤ j.lo) (i.hi *ℤ j.hi) }

-- the quotient by n, rounded outward, for n above 0
abbrev pub quot_ends : Ends → ℤ → Ends
quot_ends i n = record { lo = floor_div i.lo n; hi = ceil_div i.hi n }

-- r more on both sides
abbrev pub widen_ends : Ends → ℤ → Ends
widen_ends i r = record { lo = i.lo -ℤ r; hi = i.hi +ℤ r }

-- ---- boxes

-- the number x + i y
abbrev pub point_box : ℤ → ℤ → BoxEnds
point_box x y = record { re = record { lo = x; hi = x }; im = record { lo = y; hi = y } }

abbrev pub zero_box : BoxEnds
zero_box = point_box (pos 0) (pos 0)

abbrev pub add_box : BoxEnds → BoxEnds → BoxEnds
add_box b c = record { re = add_ends b.re c.re; im = add_ends b.im c.im }

abbrev pub neg_box : BoxEnds → BoxEnds
neg_box b = record { re = neg_ends b.re; im = neg_ends b.im }

abbrev pub sub_box : BoxEnds → BoxEnds → BoxEnds
sub_box b c = record { re = sub_ends b.re c.re; im = sub_ends b.im c.im }

abbrev pub take_box : BoxEnds → BoxEnds → BoxEnds
take_box b c = record { re = take_ends b.re c.re; im = take_ends b.im c.im }

abbrev pub scale_box : BoxEnds → ℤ → BoxEnds
scale_box b k = record { re = scale_ends b.re k; im = scale_ends b.im k }

-- re re - im im, and re im + im re
abbrev pub times_box : BoxEnds → BoxEnds → BoxEnds
times_box b c = record { re = sub_ends (times_ends b.re c.re) (times_ends b.im c.im); im = add_ends (times_ends b.re c.im) (times_ends b.im c.re) }

-- the product with a Gaussian integer
abbrev pub gscale_box : BoxEnds → Gaussian → BoxEnds
gscale_box b g = record { re = sub_ends (scale_ends b.re g.re) (scale_ends b.im g.im); im = add_ends (scale_ends b.re g.im) (scale_ends b.im g.re) }

abbrev pub quot_box : BoxEnds → ℤ → BoxEnds
quot_box b n = record { re = quot_ends b.re n; im = quot_ends b.im n }

-- the exact product with a Gaussian integer, and then the quotient
abbrev pub gquot_box : BoxEnds → Gaussian → ℤ → BoxEnds
gquot_box b g n = quot_box (gscale_box b g) n

abbrev pub widen_box : BoxEnds → ℤ → BoxEnds
widen_box b r = record { re = widen_ends b.re r; im = widen_ends b.im r }

-- ---- meaning

-- both ends are at most n in size
pub record EndsWithin (n : ℕ) (i : Ends) : Type 0 where
  pub lo : Within n i.lo
  pub hi : Within n i.hi

pub record BoxEndsWithin (n : ℕ) (b : BoxEnds) : Type 0 where
  pub re : EndsWithin n b.re
  pub im : EndsWithin n b.im

-- the ends count units of 1/unit, and those of each part contain the part of the fraction
pub record BoxEndsContain (unit : ℤ) (b : BoxEnds) (z : ComplexRatio) : Type 0 where
  pub re : Contains unit b.re.lo b.re.hi (re_part z)
  pub im : Contains unit b.im.lo b.im.hi (im_part z)

-- the first lies in the second
pub record EndsInside (inner outer : Ends) : Type 0 where
  pub lo : outer.lo ≤ℤ inner.lo
  pub hi : inner.hi ≤ℤ outer.hi

pub record BoxEndsInside (inner outer : BoxEnds) : Type 0 where
  pub re : EndsInside inner.re outer.re
  pub im : EndsInside inner.im outer.im

-- the ends are in order, and at most w apart
pub record EndsNarrow (w : ℕ) (i : Ends) : Type 0 where
  pub ordered : i.lo ≤ℤ i.hi
  pub width : (i.hi -ℤ i.lo) ≤ℤ pos w

pub record BoxEndsNarrow (w : ℕ) (b : BoxEnds) : Type 0 where
  pub re : EndsNarrow w b.re
  pub im : EndsNarrow w b.im
