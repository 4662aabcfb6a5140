-- The quotient that rounds up is that of the negated number, negated.
use Rattle.std.proofs.Common.{◌≡◌, ◌^◌, ◌∙◌, ap, ap₂, neg_ℤ, to_z-of_z}
use Rattle.exact_math.specs.Rounding.{floor_div}
use Rattle.fixed_interval.proofs.Division.{neg_within}
use Rattle.fixed_interval.proofs.Order.{fits_wide, negation_settled, one_le_cast}
use Rattle.fixed_interval.proofs.rounding.ceil_quot.Goals as goal

pub overflow_sub-z : goal.overflow_sub-z
overflow_sub-z c = (negation_settled c.args.z c.ranges.z (neg_within (2 ^ 126) c.args.z c.requires.size)).fits

pub floor_quot-requires-clause-divisor : goal.floor_quot-requires-clause-divisor
floor_quot-requires-clause-divisor c = one_le_cast c.args.n c.ranges.n c.requires.divisor

pub floor_quot-requires-clause-size : goal.floor_quot-requires-clause-size
floor_quot-requires-clause-size c = (negation_settled c.args.z c.ranges.z (neg_within (2 ^ 126) c.args.z c.requires.size)).within

pub overflow_sub-result : goal.overflow_sub-result
overflow_sub-result c =
    let size = c.floor_quot.ensures.size in
    (negation_settled c.floor_quot.result (fits_wide c.floor_quot.result size) (neg_within (2 ^ 126) c.floor_quot.result size)).fits

pub returns-clause-value : goal.returns-clause-value
returns-clause-value c =
    let size = c.floor_quot.ensures.size in
    let negative = (negation_settled c.args.z c.ranges.z (neg_within (2 ^ 126) c.args.z c.requires.size)).value in
    let floor : c.floor_quot.result ≡ floor_div (neg_ℤ c.args.z) c.args.n = c.floor_quot.ensures.value ∙ ap₂ floor_div negative (to_z-of_z c.ranges.n) in
    (negation_settled c.floor_quot.result (fits_wide c.floor_quot.result size) (neg_within (2 ^ 126) c.floor_quot.result size)).value ∙ ap neg_ℤ floor

pub returns-clause-size : goal.returns-clause-size
returns-clause-size c =
    let size = c.floor_quot.ensures.size in
    (negation_settled c.floor_quot.result (fits_wide c.floor_quot.result size) (neg_within (2 ^ 126) c.floor_quot.result size)).within
