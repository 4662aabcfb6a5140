use Rattle.std.proofs.Common.{◌+◌, ◌*◌, ◌^◌, pos, ◌≤ℤ◌, sym, subst}
use Rattle.exact_math.specs.Within.{GaussianWithin}
use Rattle.complex_box.specs.Box.{number}
use Rattle.limits.specs.Limits.{widest_grid}
use Rattle.row_recursions.proofs.FarPlaces.{product_fits, negative_fits, factor_is, factor_within, part_is, square_fits, norm_fits, norm_is, norm_most}
use Rattle.row_recursions.proofs.RowSizes.{far_norm_positive, power_positive}
use Rattle.row_recursions.proofs.places.far_ratio.Goals as goal

pub overflow_mul-result : goal.overflow_mul-result
overflow_mul-result c = product_fits c.args.bits c.args.zeta.re c.requires.bits c.requires.size.re

pub overflow_mul-result-2 : goal.overflow_mul-result-2
overflow_mul-result-2 c = product_fits c.args.bits c.args.zeta.im c.requires.bits c.requires.size.im

pub overflow_mul-divisor : goal.overflow_mul-divisor
overflow_mul-divisor c = square_fits c.from-re.result c.args.zeta.re (part_is c.args.zeta.re c.requires.size.re c.from-re.ensures) c.requires.size.re

pub overflow_mul-divisor-2 : goal.overflow_mul-divisor-2
overflow_mul-divisor-2 c = square_fits c.from-im.result c.args.zeta.im (part_is c.args.zeta.im c.requires.size.im c.from-im.ensures) c.requires.size.im

pub overflow_sub-result : goal.overflow_sub-result
overflow_sub-result c = negative_fits c.args.bits c.args.zeta.im c.requires.bits c.requires.size.im

pub overflow_add-divisor : goal.overflow_add-divisor
overflow_add-divisor c = norm_fits c.from-re.result c.from-im.result c.args.zeta.re c.args.zeta.im (part_is c.args.zeta.re c.requires.size.re c.from-re.ensures) (part_is c.args.zeta.im c.requires.size.im c.from-im.ensures) c.requires.size.re c.requires.size.im

pub returns-clause-factor : goal.returns-clause-factor
returns-clause-factor c = factor_is c.args.bits (number c.args.zeta) c.requires.bits c.requires.size

pub returns-clause-small : goal.returns-clause-small
returns-clause-small c = subst (GaussianWithin (2 ^ (2 * widest_grid + 2))) (sym (returns-clause-factor c)) (factor_within c.args.bits (number c.args.zeta) c.requires.bits c.requires.size)

pub returns-clause-divisor : goal.returns-clause-divisor
returns-clause-divisor c = norm_is c.from-re.result c.from-im.result c.args.zeta.re c.args.zeta.im (part_is c.args.zeta.re c.requires.size.re c.from-re.ensures) (part_is c.args.zeta.im c.requires.size.im c.from-im.ensures) c.requires.size.re c.requires.size.im

pub returns-clause-positive : goal.returns-clause-positive
returns-clause-positive c = subst (λ z. pos 1 ≤ℤ z) (sym (returns-clause-divisor c)) (far_norm_positive (2 ^ c.args.bits) (number c.args.zeta) (power_positive c.args.bits) c.requires.far)

pub returns-clause-most : goal.returns-clause-most
returns-clause-most c = subst (λ z. z ≤ℤ pos (2 ^ (2 * widest_grid + 3))) (sym (returns-clause-divisor c)) (norm_most c.args.zeta.re c.args.zeta.im c.requires.size.re c.requires.size.im)
