-- The ends of boxes as numbers of a line: in order, and no greater in size than a bound.
use Rattle.std.proofs.Common.{ℕ, zero, suc, ◌≡◌, ◌+◌, ◌*◌, ◌<◌, ◌≤◌, ℤ, pos, List, [], ◌++◌, length, refl, arith}
use Rattle.std.specs.Prelude.{◌*ℤ◌, ◌≤ℤ◌}
use Rattle.std.specs.List.{range_with_len, flat_map}
use Rattle.std.proofs.lemmas.Int.{ints}
use Rattle.exact_math.specs.Contains.{Contains}
use Rattle.exact_math.specs.Ends.{Ends, BoxEnds, EndsWithin, BoxEndsWithin, BoxEndsContain, zero_box}
use Rattle.exact_math.specs.Ratio.{Ratio, ComplexRatio}
use Rattle.exact_math.specs.Units.{unit}
use Rattle.exact_math.specs.Within.{Within}
use Rattle.exact_math.proofs.Enclosures.{floor_div_le, ceil_div_ge}
use Rattle.exact_math.proofs.Integers.{*-comm, *-cancel_≤}
use Rattle.exact_math.proofs.WholeSizes.{within-weaker, within-floor, within-ceil}
use Rattle.cert_text.specs.Sections.{AreOrderedEnds}
use Rattle.soundness.specs.Counts.{count_unit, count_below, count_above, count_ends}
use Rattle.accounting_text.specs.Written.{box_numbers, box_counts, row_ends, given_target_line}

-- ---- boxes with their ends in order
pub record IsOrdered (b : BoxEnds) : Type 0 where
  pub re : b.re.lo ≤ℤ b.re.hi
  pub im : b.im.lo ≤ℤ b.im.hi

-- what contains a fraction is in order
ends_ordered : (u lo hi : ℤ) (x : Ratio) → Contains u lo hi x → lo ≤ℤ hi
ends_ordered u lo hi x h =
    *-cancel_≤ x.denominator lo hi h.fraction (omega (arith, ints, h.above, h.below, *-comm x.denominator lo, *-comm x.denominator hi))

pub box_ordered : (b : BoxEnds) (z : ComplexRatio) → BoxEndsContain unit b z → IsOrdered b
box_ordered b z h = record { re = ends_ordered unit b.re.lo b.re.hi _ h.re; im = ends_ordered unit b.im.lo b.im.hi _ h.im }

-- ---- boxes whose ends are small and in order
pub record IsGiven (n : ℕ) (b : BoxEnds) : Type 0 where
  pub within : BoxEndsWithin n b
  pub ordered : IsOrdered b

ends_weaker : (m n : ℕ) (i : Ends) → m ≤ n → EndsWithin m i → EndsWithin n i
ends_weaker m n i le h = record { lo = within-weaker le h.lo; hi = within-weaker le h.hi }

pub box_weaker : (m n : ℕ) (b : BoxEnds) → m ≤ n → BoxEndsWithin m b → BoxEndsWithin n b
box_weaker m n b le h = record { re = ends_weaker m n b.re le h.re; im = ends_weaker m n b.im le h.im }

pub zero_given : (n : ℕ) → IsGiven n zero_box
zero_given n =
    let none : Within n (pos 0) = record { above = omega (arith, ints); below = omega (arith, ints) } in
    record {
      within = record { re = record { lo = none; hi = none }; im = record { lo = none; hi = none } };
      ordered = record { re = omega (arith, ints); im = omega (arith, ints) };
    }

-- counts are no greater in size than the ends: 10^12 is less than 2^40
count_low : (n : ℕ) (z : ℤ) → Within n z → Within n (count_below z)
count_low n z h = within-floor n (count_unit *ℤ z) unit (omega (arith, ints)) (omega (arith, ints, h.above, h.below)) (omega (arith, ints, h.above, h.below))

count_high : (n : ℕ) (z : ℤ) → Within n z → Within n (count_above z)
count_high n z h = within-ceil n (count_unit *ℤ z) unit (omega (arith, ints)) (omega (arith, ints, h.above, h.below)) (omega (arith, ints, h.above, h.below))

counts_within : (n : ℕ) (i : Ends) → EndsWithin n i → EndsWithin n (count_ends i)
counts_within n i h = record { lo = count_low n i.lo h.lo; hi = count_high n i.hi h.hi }

-- and in order
counts_ordered : (i : Ends) → i.lo ≤ℤ i.hi → (count_ends i).lo ≤ℤ (count_ends i).hi
counts_ordered i h =
    omega (arith, ints, floor_div_le (count_unit *ℤ i.lo) unit (omega (arith, ints)), ceil_div_ge (count_unit *ℤ i.hi) unit (omega (arith, ints)), h)

pub counts_given : (n : ℕ) (b : BoxEnds) → IsGiven n b → IsGiven n (box_counts b)
counts_given n b h = record {
  within = record { re = counts_within n b.re h.within.re; im = counts_within n b.im h.within.im };
  ordered = record { re = counts_ordered b.re h.ordered.re; im = counts_ordered b.im h.ordered.im };
}

-- ---- the numbers of boxes
pub numbers_of_box : (n : ℕ) (b : BoxEnds) (rest : List ℤ) → IsGiven n b → AreOrderedEnds n rest → AreOrderedEnds n (box_numbers b ++ rest)
numbers_of_box n b rest h r = (h.within.re.lo, h.within.re.hi, h.ordered.re, (h.within.im.lo, h.within.im.hi, h.ordered.im, r))

pub numbers_of_target : (n : ℕ) (b : BoxEnds) → IsGiven n b → AreOrderedEnds n (given_target_line b).numbers
numbers_of_target n b h = numbers_of_box n b (box_numbers (box_counts b)) h (numbers_of_box n (box_counts b) [] (counts_given n b h) tt)

numbers_from : (n P a : ℕ) (row : ℕ → BoxEnds) → ((k : ℕ) → k < a + P → IsGiven n (row k)) → AreOrderedEnds n (flat_map (λ k. box_numbers (row k)) (range_with_len a P))
numbers_from n zero a row h = tt
numbers_from n (suc P) a row h =
    numbers_of_box n (row a) (flat_map (λ k. box_numbers (row k)) (range_with_len (a + 1) P)) (h a (omega arith)) (numbers_from n P (a + 1) row (λ k lt. h k (omega (arith, lt))))

pub numbers_of_row : (n P : ℕ) (row : ℕ → BoxEnds) → ((k : ℕ) → k < P → IsGiven n (row k)) → AreOrderedEnds n (row_ends P row)
numbers_of_row n P row h = numbers_from n P 0 row (λ k lt. h k (omega (arith, lt)))

count_from : (P a : ℕ) (row : ℕ → BoxEnds) → length (flat_map (λ k. box_numbers (row k)) (range_with_len a P)) ≡ 4 * P
count_from zero a row = refl
count_from (suc P) a row = omega (arith, count_from P (a + 1) row)

pub count_of_row : (P : ℕ) (row : ℕ → BoxEnds) → length (row_ends P row) ≡ 4 * P
count_of_row P row = count_from P 0 row
