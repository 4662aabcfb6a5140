-- Each version has order 8.
use Rattle.std.proofs.Common.{refl, rules, arith}
use mathlib.Core.Logic.{inl, inr}
use Rattle.field_tests.proofs.Orders.{order_of_each}
use Rattle.field_tests.proofs.gates.field_by.Goals as goal

pub solve-requires : goal.solve-requires
solve-requires g c =
    (search rules, (search rules, (omega arith, (c.in_ok-points.ensures, (order_of_each _ 8 (inr (inl refl)) (omega arith), (record { least = omega arith; most = omega arith }, (omega (arith, c.requires.least), omega (arith, c.requires.most))))))))
