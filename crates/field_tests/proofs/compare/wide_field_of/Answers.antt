-- Version 2 has each order.
use Rattle.std.proofs.Common.{arith}
use Rattle.field_tests.proofs.Orders.{order_of_version_2}
use Rattle.field_tests.proofs.compare.wide_field_of.Goals as goal

pub solved-requires : goal.solved-requires
solved-requires g c =
    let points = c.in_ok-points.ensures in
    (omega arith, (points.within, order_of_version_2 _ _ points.version c.requires))
