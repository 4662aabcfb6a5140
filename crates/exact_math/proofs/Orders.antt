-- What an order is at least and at most.
use Rattle.std.proofs.Common.{arith}
use mathlib.Core.Logic.{inl, inr}
use Rattle.exact_math.specs.Orders.{OrderBounds}

pub order_bounds : OrderBounds
order_bounds P h =
    elim h [
      | inl least ↦ (omega arith, omega arith)
      | inr more ↦
          elim more [
            | inl e ↦ (omega arith, omega arith)
            | inr more ↦
                elim more [
                  | inl e ↦ (omega arith, omega arith)
                  | inr more ↦ elim more [ inl e ↦ (omega arith, omega arith) | inr most ↦ (omega arith, omega arith) ]
                ]
          ]
    ]
