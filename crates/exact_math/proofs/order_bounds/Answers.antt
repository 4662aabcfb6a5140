use Rattle.exact_math.proofs.Orders.{order_bounds as bounds_hold}
use Rattle.exact_math.proofs.order_bounds.Goals as goal

pub returns : goal.returns
returns c = bounds_hold
