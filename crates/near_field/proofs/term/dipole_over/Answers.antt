use Rattle.std.proofs.Common.{◌∙◌, ap₂, arith, to_z-of_z, SFits, w64, ◌*ℤ◌}
use Rattle.std.proofs.lemmas.Int.{ints}
use Rattle.near_field.proofs.TermSizes.{small_product, small_square, same_fraction, dipole_re, dipole_im, across_is, across_within, twice_is, twice_within, norm_fits, given_within, widened, wide_square, wide_square_fits}
use Rattle.near_field.proofs.term.dipole_over.Goals as goal

pub difference_of_products-across-requires-clause-first : goal.difference_of_products-across-requires-clause-first
difference_of_products-across-requires-clause-first c = small_square c.ranges.dx c.ranges.dx c.requires.size.0 c.requires.size.0

pub difference_of_products-across-requires-clause-second : goal.difference_of_products-across-requires-clause-second
difference_of_products-across-requires-clause-second c = small_square c.ranges.dy c.ranges.dy c.requires.size.1 c.requires.size.1

pub sum_of_products-twice-requires-clause-first : goal.sum_of_products-twice-requires-clause-first
sum_of_products-twice-requires-clause-first c = small_square c.ranges.dx c.ranges.dy c.requires.size.0 c.requires.size.1

pub sum_of_products-twice-requires-clause-second : goal.sum_of_products-twice-requires-clause-second
sum_of_products-twice-requires-clause-second c = small_square c.ranges.dx c.ranges.dy c.requires.size.0 c.requires.size.1

pub norm-size-requires : goal.norm-size-requires
norm-size-requires c = record { size = (given_within c.ranges.dx c.requires.size.0, given_within c.ranges.dy c.requires.size.1) }

pub overflow_mul-result : goal.overflow_mul-result
overflow_mul-result c =
    let w = c.norm-size.ensures.size in
    wide_square_fits w (widened w c.from.ensures) (widened w c.from-2.ensures)

pub sum_of_products-requires-clause-first : goal.sum_of_products-requires-clause-first
sum_of_products-requires-clause-first c =
    let w = across_within _ _ c.requires.size.0 c.requires.size.1 (across_is c.ranges.dx c.ranges.dy c.difference_of_products-across.ensures.value) in
    small_product _ _ c.ranges.re (norm_fits _ w) c.requires.dipole.0 w (omega arith)

pub sum_of_products-requires-clause-second : goal.sum_of_products-requires-clause-second
sum_of_products-requires-clause-second c =
    let w = twice_within _ _ c.requires.size.0 c.requires.size.1 (twice_is c.ranges.dx c.ranges.dy c.sum_of_products-twice.ensures.value) in
    small_product _ _ c.ranges.im (norm_fits _ w) c.requires.dipole.1 w (omega arith)

pub difference_of_products-requires-clause-first : goal.difference_of_products-requires-clause-first
difference_of_products-requires-clause-first c =
    let w = across_within _ _ c.requires.size.0 c.requires.size.1 (across_is c.ranges.dx c.ranges.dy c.difference_of_products-across.ensures.value) in
    small_product _ _ c.ranges.im (norm_fits _ w) c.requires.dipole.1 w (omega arith)

pub difference_of_products-requires-clause-second : goal.difference_of_products-requires-clause-second
difference_of_products-requires-clause-second c =
    let w = twice_within _ _ c.requires.size.0 c.requires.size.1 (twice_is c.ranges.dx c.ranges.dy c.sum_of_products-twice.ensures.value) in
    small_product _ _ c.ranges.re (norm_fits _ w) c.requires.dipole.0 w (omega arith)

pub returns : goal.returns
returns c =
    let across = across_is c.ranges.dx c.ranges.dy c.difference_of_products-across.ensures.value in
    let twice = twice_is c.ranges.dx c.ranges.dy c.sum_of_products-twice.ensures.value in
    let a = c.ranges.re in
    let b = c.ranges.im in
    let d = c.ranges.dx in
    let e = c.ranges.dy in
    let x = norm_fits _ (across_within _ _ c.requires.size.0 c.requires.size.1 across) in
    let y = norm_fits _ (twice_within _ _ c.requires.size.0 c.requires.size.1 twice) in
    let r = simp (across, twice) at (simp to_z-of_z at c.sum_of_products.ensures.value) in
    let s = simp (across, twice) at (simp to_z-of_z at c.difference_of_products.ensures.value) in
    let n = simp to_z-of_z at c.norm-size.ensures.value in
    let f : SFits w64 c.sum_of_products.result = omega (arith, ints) in
    let g : SFits w64 c.difference_of_products.result = omega (arith, ints) in
    let w = c.norm-size.ensures.size in
    same_fraction _
    (to_z-of_z f ∙ r ∙ dipole_re c.args.re c.args.im c.args.dx c.args.dy)
    (to_z-of_z g ∙ s ∙ dipole_im c.args.re c.args.im c.args.dx c.args.dy)
    (wide_square w (widened w c.from.ensures) (widened w c.from-2.ensures) ∙ ap₂ ◌*ℤ◌ n n)
