use Rattle.std.proofs.Common.{◌≡◌, to_z-of_z}
use Rattle.exact_math.specs.Rounding.{floor_div, ceil_div}
use Rattle.exact_math.proofs.Bridges.{contains-quot}
use Rattle.fixed_interval.proofs.Division.{floor_le_ceil}
use Rattle.fixed_interval.proofs.Ends.{ends-same}
use Rattle.fixed_interval.proofs.Order.{low_fits, high_fits, one_le_cast, ends_cast, within_cast, ordered_cast, settled, same_ends}
use Rattle.fixed_interval.proofs.Interval.quot_divided.Goals as goal
use Rattle.fixed_interval.proofs.Interval.quot_divided.Goals.{After-ceil_near-hi}

pub floor_quot-lo-requires-clause-divisor : goal.floor_quot-lo-requires-clause-divisor
floor_quot-lo-requires-clause-divisor c = one_le_cast c.args.n c.ranges.n c.requires

pub floor_quot-lo-requires-clause-size : goal.floor_quot-lo-requires-clause-size
floor_quot-lo-requires-clause-size c = within_cast c.args.self.lo c.args.self.low_end

pub ceil_near-hi-requires-clause-divisor : goal.ceil_near-hi-requires-clause-divisor
ceil_near-hi-requires-clause-divisor c = one_le_cast c.args.n c.ranges.n c.requires

pub ceil_near-hi-requires-clause-ordered : goal.ceil_near-hi-requires-clause-ordered
ceil_near-hi-requires-clause-ordered c = ends_cast c.args.self

pub ceil_near-hi-requires-clause-low_size : goal.ceil_near-hi-requires-clause-low_size
ceil_near-hi-requires-clause-low_size c = within_cast c.args.self.lo c.args.self.low_end

pub ceil_near-hi-requires-clause-size : goal.ceil_near-hi-requires-clause-size
ceil_near-hi-requires-clause-size c = within_cast c.args.self.hi c.args.self.high_end

pub ceil_near-hi-requires-clause-floor : goal.ceil_near-hi-requires-clause-floor
ceil_near-hi-requires-clause-floor c = settled _ _ c.floor_quot-lo.ensures.size c.floor_quot-lo.ensures.value

-- what the two helpers gave, with no cast left
record Quotients (c : After-ceil_near-hi) : Type 0 where
  lo : c.floor_quot-lo.result ≡ floor_div c.args.self.lo c.args.n
  hi : c.ceil_near-hi.result ≡ ceil_div c.args.self.hi c.args.n

quotients : (c : After-ceil_near-hi) → Quotients c
quotients c =
    let e = low_fits c.args.self in
    let f = high_fits c.args.self in
    let g = c.ranges.n in
    record { lo = simp to_z-of_z at c.floor_quot-lo.ensures.value; hi = simp to_z-of_z at c.ceil_near-hi.ensures.value }

pub invariant_of-result-clause-ordered : goal.invariant_of-result-clause-ordered
invariant_of-result-clause-ordered c =
    ordered_cast _ _ c.floor_quot-lo.ensures.size c.ceil_near-hi.ensures.size (quotients c).lo (quotients c).hi (floor_le_ceil c.args.self.lo c.args.self.hi c.args.n c.requires c.args.self.ordered)

pub invariant_of-result-clause-low_end : goal.invariant_of-result-clause-low_end
invariant_of-result-clause-low_end c = within_cast _ c.floor_quot-lo.ensures.size

pub invariant_of-result-clause-high_end : goal.invariant_of-result-clause-high_end
invariant_of-result-clause-high_end c = within_cast _ c.ceil_near-hi.ensures.size

pub returns-clause-ends : goal.returns-clause-ends
returns-clause-ends c =
    let q = quotients (goal.at.returns-clause-ends c).After-ceil_near-hi in
    ends-same (settled _ _ c.floor_quot-lo.ensures.size q.lo) (settled _ _ c.ceil_near-hi.ensures.size q.hi)

pub returns-clause-contains : goal.returns-clause-contains
returns-clause-contains c u x p =
    let q = quotients (goal.at.returns-clause-contains c).After-ceil_near-hi in
    same_ends (settled _ _ c.floor_quot-lo.ensures.size q.lo) (settled _ _ c.ceil_near-hi.ensures.size q.hi) (contains-quot p c.args.n c.requires)
