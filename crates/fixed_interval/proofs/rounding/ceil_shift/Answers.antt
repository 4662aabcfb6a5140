-- The quotient that rounds up is that of the negated number, negated.
use Rattle.std.proofs.Common.{◌≡◌, ◌^◌, ◌∙◌, ap, pos, neg_ℤ}
use Rattle.exact_math.specs.Rounding.{floor_div}
use Rattle.fixed_interval.proofs.Division.{neg_within}
use Rattle.fixed_interval.proofs.Order.{fits_wide, negation_settled}
use Rattle.fixed_interval.proofs.rounding.ceil_shift.Goals as goal

pub overflow_sub-z : goal.overflow_sub-z
overflow_sub-z c = (negation_settled c.args.z c.ranges.z (neg_within (2 ^ 126) c.args.z c.requires.size)).fits

pub floor_shift-requires-clause-power : goal.floor_shift-requires-clause-power
floor_shift-requires-clause-power c = c.requires.power

pub floor_shift-requires-clause-size : goal.floor_shift-requires-clause-size
floor_shift-requires-clause-size c = (negation_settled c.args.z c.ranges.z (neg_within (2 ^ 126) c.args.z c.requires.size)).within

pub overflow_sub-result : goal.overflow_sub-result
overflow_sub-result c =
    let size = c.floor_shift.ensures.size in
    (negation_settled c.floor_shift.result (fits_wide c.floor_shift.result size) (neg_within (2 ^ 126) c.floor_shift.result size)).fits

pub returns-clause-value : goal.returns-clause-value
returns-clause-value c =
    let size = c.floor_shift.ensures.size in
    let negative = (negation_settled c.args.z c.ranges.z (neg_within (2 ^ 126) c.args.z c.requires.size)).value in
    let floor : c.floor_shift.result ≡ floor_div (neg_ℤ c.args.z) (pos (2 ^ c.args.k)) = c.floor_shift.ensures.value ∙ ap (λ x. floor_div x (pos (2 ^ c.args.k))) negative in
    (negation_settled c.floor_shift.result (fits_wide c.floor_shift.result size) (neg_within (2 ^ 126) c.floor_shift.result size)).value ∙ ap neg_ℤ floor

pub returns-clause-size : goal.returns-clause-size
returns-clause-size c =
    let size = c.floor_shift.ensures.size in
    (negation_settled c.floor_shift.result (fits_wide c.floor_shift.result size) (neg_within (2 ^ 126) c.floor_shift.result size)).within
