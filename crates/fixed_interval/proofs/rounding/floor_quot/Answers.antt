use Rattle.std.proofs.Common.{◌∙◌, ap₂, to_z-of_z}
use Rattle.exact_math.specs.Rounding.{floor_div}
use Rattle.fixed_interval.proofs.Order.{one_le_cast, within_cast, settled}
use Rattle.fixed_interval.proofs.rounding.floor_quot.Goals as goal

pub wide_floor-requires-clause-divisor : goal.wide_floor-requires-clause-divisor
wide_floor-requires-clause-divisor c = one_le_cast c.args.n c.ranges.n c.requires.divisor

pub wide_floor-requires-clause-size : goal.wide_floor-requires-clause-size
wide_floor-requires-clause-size c = within_cast c.args.z c.requires.size

pub returns-clause-value : goal.returns-clause-value
returns-clause-value c = settled _ _ c.wide_floor.ensures.size (c.wide_floor.ensures.value ∙ ap₂ floor_div (to_z-of_z c.ranges.z) (to_z-of_z c.ranges.n))

pub returns-clause-size : goal.returns-clause-size
returns-clause-size c = within_cast _ c.wide_floor.ensures.size
