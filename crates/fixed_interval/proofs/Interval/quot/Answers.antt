use Rattle.std.proofs.Common.{to_z-of_z}
use Rattle.exact_math.proofs.Bridges.{contains-quot}
use Rattle.fixed_interval.proofs.Ends.{lower-same, upper-same}
use Rattle.fixed_interval.proofs.Order.{low_fits, high_fits, one_le_cast, same_ends}
use Rattle.fixed_interval.proofs.Interval.quot.Goals as goal

pub quot_by-requires : goal.quot_by-requires
quot_by-requires c = one_le_cast c.args.n c.ranges.n c.requires

pub returns-clause-ends : goal.returns-clause-ends
returns-clause-ends c =
    let e = low_fits c.args.self in
    let f = high_fits c.args.self in
    let n = c.ranges.n in
    simp to_z-of_z at c.quot_by.ensures.ends

pub returns-clause-contains : goal.returns-clause-contains
returns-clause-contains c u x p =
    let e = returns-clause-ends c in
    same_ends (lower-same e) (upper-same e) (contains-quot p c.args.n c.requires)
