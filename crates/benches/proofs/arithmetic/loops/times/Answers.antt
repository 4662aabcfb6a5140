use Rattle.std.proofs.Common.{◌^◌}
use Rattle.fixed_interval.specs.Interval.{ends_of}
use Rattle.fixed_interval.proofs.Sizes.{times_within, ends_wider}
use Rattle.std.proofs.Common.{lit≤}
use Rattle.exact_math.specs.Ends.{times_ends}
use Rattle.benches.proofs.arithmetic.loops.times.Goals as goal

pub times-requires : goal.times-requires
times-requires c =
    ends_wider (2 ^ 122) (2 ^ 126) (times_ends (ends_of c.interval.result) (ends_of c.interval-in-loop-k.result)) (lit≤ tt)
    (times_within (2 ^ 61) (2 ^ 61) (ends_of c.interval.result) (ends_of c.interval-in-loop-k.result) c.interval.ensures c.interval-in-loop-k.ensures)
