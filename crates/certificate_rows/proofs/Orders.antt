-- The order of a certificate.
use Rattle.std.proofs.Common.{◌≤◌}
use Rattle.exact_math.specs.Orders.{IsOrder}
use Rattle.exact_math.proofs.Orders.{order_bounds}
use Rattle.cert_text.specs.Certificate.{Certificate, IsCertificate}

module _ (c : Certificate) (is : IsCertificate c) where
  pub order_is : IsOrder c.head.order
  order_is = is.head_is.order.is_order

  pub order_small : c.head.order ≤ 32
  order_small = (order_bounds c.head.order order_is).1
