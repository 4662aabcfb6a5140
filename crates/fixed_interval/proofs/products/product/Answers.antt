-- The product is small, so it is held.
use Rattle.fixed_interval.proofs.Order.{product_settled}
use Rattle.fixed_interval.proofs.products.product.Goals as goal

pub overflow_mul-result : goal.overflow_mul-result
overflow_mul-result c = (product_settled c.args.a c.args.b c.ranges.a c.ranges.b c.requires).fits

pub returns-clause-value : goal.returns-clause-value
returns-clause-value c = (product_settled c.args.a c.args.b c.ranges.a c.ranges.b c.requires).value

pub returns-clause-size : goal.returns-clause-size
returns-clause-size c = (product_settled c.args.a c.args.b c.ranges.a c.ranges.b c.requires).within
