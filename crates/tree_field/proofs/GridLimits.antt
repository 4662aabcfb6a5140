-- What the weight of points that are not too heavy for their grid bounds, in the limits of the grid.
use Rattle.std.proofs.Common.{ℕ, ◌*◌, ◌^◌, ◌≤◌, inl, inr, sym, subst, arith}
use Rattle.limits.specs.Limits.{IsGrid, first_grid, widest_grid, most_weight, most_multipole, most_local, most_box}
use Rattle.limits.proofs.Grids.{grid_cases}

by_grids : (Q : ℕ → Type 0) (grid : ℕ) → IsGrid grid → Q first_grid → Q widest_grid → Q grid
by_grids Q grid is first widest = elim (grid_cases grid is) [ inl e ↦ subst Q (sym e) first | inr e ↦ subst Q (sym e) widest ]

pub multipole_limit : (grid w : ℕ) → IsGrid grid → w ≤ most_weight grid → 2 ^ 40 * w ≤ most_multipole grid
multipole_limit grid w is = by_grids (λ g. w ≤ most_weight g → 2 ^ 40 * w ≤ most_multipole g) grid is (λ light. omega arith) (λ light. omega arith)

pub local_limit : (grid w : ℕ) → IsGrid grid → w ≤ most_weight grid → 2 ^ 46 * w ≤ most_local grid
local_limit grid w is = by_grids (λ g. w ≤ most_weight g → 2 ^ 46 * w ≤ most_local g) grid is (λ light. omega arith) (λ light. omega arith)

pub box_limit : (grid w : ℕ) → IsGrid grid → w ≤ most_weight grid → 3 * 2 ^ 50 * w ≤ most_box grid
box_limit grid w is = by_grids (λ g. w ≤ most_weight g → 3 * 2 ^ 50 * w ≤ most_box g) grid is (λ light. omega arith) (λ light. omega arith)
