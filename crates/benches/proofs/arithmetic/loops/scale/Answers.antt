use Rattle.std.proofs.Common.{◌^◌, lit≤, to_z-of_z, SFits}
use Rattle.std.specs.Int.{w128}
use Rattle.exact_math.specs.Ends.{scale_ends}
use Rattle.fixed_interval.specs.Interval.{ends_of}
use Rattle.fixed_interval.proofs.Sizes.{scale_within, ends_wider}
use Rattle.benches.proofs.arithmetic.loops.scale.Goals as goal

pub scale-requires : goal.scale-requires
scale-requires c =
    let f : SFits w128 c.number.result = record { sfits = c.number.type_inv } in
    simp to_z-of_z (ends_wider (2 ^ 121) (2 ^ 126) (scale_ends (ends_of c.interval.result) c.number.result) (lit≤ tt)
    (scale_within (2 ^ 60) (2 ^ 61) c.number.result (ends_of c.interval.result) c.number.ensures c.interval.ensures))
