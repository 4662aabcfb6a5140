-- Which orders the versions have: those of version 1 are orders of each, and version 2 has all.
use Rattle.std.proofs.Common.{ℕ, ◌≡◌, ◌≤◌, ◌==◌, Bool, true, false, cond, arith}
use Rattle.exact_math.proofs.Orders.{order_bounds}
use Rattle.exact_math.specs.Orders.{IsOrder}
use Rattle.limits.specs.Limits.{first_grid, widest_grid, most_order, grid_of}
use Rattle.points.specs.Limits.{IsOrderOf}

either : (b : Bool) (order first widest : ℕ) → first ≤ widest → order ≤ first → order ≤ cond b first widest
either true order first widest more h = h
either false order first widest more h = omega arith

pub order_of_each : (grid order : ℕ) → IsOrder order → order ≤ most_order first_grid → IsOrderOf grid order
order_of_each grid order is few = record {
  is_order = is;
  most = either (grid == first_grid) order (most_order first_grid) (most_order widest_grid) (omega arith) few;
}

pub order_of_version_2 : (version P : ℕ) → version ≡ 2 → IsOrder P → IsOrderOf (grid_of version) P
order_of_version_2 version P e is = rw e (record { is_order = is; most = (order_bounds P is).1 })
