-- Each version has order 4.
use Rattle.std.proofs.Common.{refl, rules, arith}
use mathlib.Core.Logic.{inl}
use Rattle.field_tests.proofs.Orders.{order_of_each}
use Rattle.field_tests.proofs.boards.board_of.Goals as goal

pub new-requires : goal.new-requires
new-requires c = (omega arith, (c.requires.list, (order_of_each _ 4 (inl refl) (omega arith), search rules)))
