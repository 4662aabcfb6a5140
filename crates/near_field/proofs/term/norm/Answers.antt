use Rattle.near_field.proofs.TermSizes.{small_square, norm_value, norm_within}
use Rattle.near_field.proofs.term.norm.Goals as goal

pub sum_of_products-requires-clause-first : goal.sum_of_products-requires-clause-first
sum_of_products-requires-clause-first c = small_square c.ranges.dx c.ranges.dx c.requires.size.0 c.requires.size.0

pub sum_of_products-requires-clause-second : goal.sum_of_products-requires-clause-second
sum_of_products-requires-clause-second c = small_square c.ranges.dy c.ranges.dy c.requires.size.1 c.requires.size.1

pub returns-clause-value : goal.returns-clause-value
returns-clause-value c = norm_value c.args.dx c.args.dy c.ranges.dx c.ranges.dy c.requires.size.0 c.requires.size.1 c.sum_of_products.ensures.value

pub returns-clause-size : goal.returns-clause-size
returns-clause-size c = norm_within c.args.dx c.args.dy c.requires.size.0 c.requires.size.1 (returns-clause-value c)
