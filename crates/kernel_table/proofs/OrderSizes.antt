-- How large the numbers are that are made from an order.
use Rattle.std.proofs.Common.{◌≡◌, ◌+◌, ◌-◌, ◌*◌, ◌%◌, ◌/◌, ◌≤◌, ◌<◌, ℕ, Fits, w64, arith}
use Rattle.std.proofs.Math.Nat.{mul-le-mul_right}
use Rattle.exact_math.specs.Orders.{IsOrder}
use Rattle.exact_math.proofs.Orders.{order_bounds}
use Rattle.kernel_table.proofs.Places.{Parts, parts}

-- of any number from 2 to 32
pub record Sizes (P : ℕ) : Type 0 where
  pub positive : 0 < P
  pub twice : 1 ≤ 2 * P
  pub twice_fits : Fits w64 (2 * P)
  pub most : 2 * P - 1 ≤ 63
  pub square_fits : Fits w64 (P * P)
  pub all_fit : Fits w64 (40 * (P * P))

sizes : (P : ℕ) → 2 ≤ P → P ≤ 32 → P * P ≤ 32 * P → Sizes P
sizes P h k l = record {
  positive = omega arith;
  twice = omega arith;
  twice_fits = omega arith;
  most = omega arith;
  square_fits = omega arith;
  all_fit = omega arith;
}

pub order_sizes : (P : ℕ) → IsOrder P → Sizes P
order_sizes P order = let b = order_bounds P order in sizes P b.0 b.1 (mul-le-mul_right P b.1)

-- k + l is below 2 P - 1
pub record Sum (P i : ℕ) : Type 0 where
  pub power : i % P + i / P < 2 * P - 1
  pub small : i % P + i / P ≤ 62
  pub fits : Fits w64 (i % P + i / P)

below_sum : (P i : ℕ) → 2 ≤ P → P ≤ 32 → Parts P i → Sum P i
below_sum P i h k q = record { power = omega arith; small = omega arith; fits = omega arith }

pub sum : (P i : ℕ) → IsOrder P → i < P * P → Sum P i
sum P i order h = let b = order_bounds P order in below_sum P i b.0 b.1 (parts P i (order_sizes P order).positive h)

-- an index of 16 bytes each
pub offset_fits : (P i : ℕ) → IsOrder P → i < P * P → Fits w64 (i * 16)
offset_fits P i order h = let b = order_bounds P order in few P i b.1 (mul-le-mul_right P b.1) h
  where
    few : (P i : ℕ) → P ≤ 32 → P * P ≤ 32 * P → i < P * P → Fits w64 (i * 16)
    few P i k l h = omega arith

-- where one more distance stands
pub next_count : (n m s i : ℕ) → n ≡ m * s + i → s ≤ i → i ≤ s → n ≡ (m + 1) * s
next_count n m s i e h k = omega arith
