use Rattle.std.proofs.Common.{◌≡◌, ◌^◌, arith, pos, ◌≤ℤ◌, to_z-of_z, SFits}
use Rattle.std.proofs.lemmas.Int.{ints}
use Rattle.std.specs.Int.{w64}
use Rattle.exact_math.specs.Rounding.{floor_div, ceil_div}
use Rattle.exact_math.specs.Within.{Within}
use Rattle.exact_math.proofs.Bridges.{contains-quot}
use Rattle.fixed_interval.proofs.Division.{floor_le_ceil, floor_within_z, ceil_within_z}
use Rattle.fixed_interval.proofs.Ends.{ends-same, lower-same, upper-same}
use Rattle.fixed_interval.proofs.Order.{low_fits, high_fits, ordered_cast, within_cast, settled, same_ends}
use Rattle.fixed_interval.proofs.Interval.quot_by.Goals as goal
use Rattle.fixed_interval.proofs.Interval.quot_by.Goals.{In-Some}

-- what the check let through, with no cast left
record Checked (c : In-Some) : Type 0 where
  lo : c.in-Some.q.lo ≡ floor_div c.args.self.lo c.args.n
  hi : c.in-Some.q.hi ≡ ceil_div c.args.self.hi c.args.n
  low : Within (2 ^ 126) c.in-Some.q.lo
  high : Within (2 ^ 126) c.in-Some.q.hi

checked : (c : In-Some) → Checked c
checked c =
    let e = low_fits c.args.self in
    let f = high_fits c.args.self in
    let n = c.ranges.n in
    let t = simp to_z-of_z at c.if-n-le-NARROW.true in
    let s : c.args.n ≤ℤ pos (2 ^ 62) = grind (arith, ints, t) in
    let m : SFits w64 c.args.n = omega (arith, ints, s, c.requires) in
    let lo : c.in-Some.q.lo ≡ floor_div c.args.self.lo c.args.n = simp to_z-of_z at c.in-Some.ensures.lo in
    let hi : c.in-Some.q.hi ≡ ceil_div c.args.self.hi c.args.n = simp to_z-of_z at c.in-Some.ensures.hi in
    record {
      lo = lo;
      hi = hi;
      low = rw lo (floor_within_z c.args.self.lo c.args.n (2 ^ 126) c.requires c.args.self.low_end);
      high = rw hi (ceil_within_z c.args.self.hi c.args.n (2 ^ 126) c.requires c.args.self.high_end);
    }

pub invariant_of-result : goal.invariant_of-result
invariant_of-result c =
    let k = checked (goal.at.invariant_of-result c).In-Some in
    record {
      ordered = ordered_cast _ _ k.low k.high k.lo k.hi (floor_le_ceil c.args.self.lo c.args.self.hi c.args.n c.requires c.args.self.ordered);
      low_end = within_cast _ k.low;
      high_end = within_cast _ k.high;
    }

pub returns-in-Some-clause-ends : goal.returns-in-Some-clause-ends
returns-in-Some-clause-ends c =
    let k = checked (goal.at.returns-in-Some-clause-ends c).In-Some in
    ends-same (settled _ _ k.low k.lo) (settled _ _ k.high k.hi)

pub returns-in-Some-clause-contains : goal.returns-in-Some-clause-contains
returns-in-Some-clause-contains c u x p =
    let k = checked (goal.at.returns-in-Some-clause-contains c).In-Some in
    same_ends (settled _ _ k.low k.lo) (settled _ _ k.high k.hi) (contains-quot p c.args.n c.requires)

pub returns-clause-ends : goal.returns-clause-ends
returns-clause-ends c =
    let e = low_fits c.args.self in
    let f = high_fits c.args.self in
    let n = c.ranges.n in
    simp to_z-of_z at c.quot_divided.ensures.ends

pub returns-clause-contains : goal.returns-clause-contains
returns-clause-contains c u x p =
    let e = returns-clause-ends c in
    same_ends (lower-same e) (upper-same e) (contains-quot p c.args.n c.requires)
