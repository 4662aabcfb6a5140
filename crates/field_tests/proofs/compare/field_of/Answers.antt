-- Each version has order 4.
use Rattle.std.proofs.Common.{refl, arith}
use mathlib.Core.Logic.{inl}
use Rattle.field_tests.proofs.Orders.{order_of_each}
use Rattle.field_tests.proofs.compare.field_of.Goals as goal

pub solved-requires : goal.solved-requires
solved-requires c = (omega arith, (c.in_ok-points.ensures, order_of_each _ 4 (inl refl) (omega arith)))
