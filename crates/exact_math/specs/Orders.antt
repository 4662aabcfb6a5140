-- The parameters of a solve.
use Rattle.std.specs.Prelude.{ℕ, ◌≤◌, ◌≡◌, ◌⊎◌}

-- the orders of expansion that the program offers
abbrev pub IsOrder : ℕ → Type 0
IsOrder order = (order ≡ 4) ⊎ ((order ≡ 8) ⊎ ((order ≡ 16) ⊎ ((order ≡ 24) ⊎ (order ≡ 32))))

-- what rows, tails and radii ask of an order
abbrev pub OrderBounds : Type 0
OrderBounds = (P : ℕ) → IsOrder P → (2 ≤ P) × (P ≤ 32)

-- how many points a leaf of the tree may have
pub record IsCapacity (cap : ℕ) : Type 0 where
  pub least : 8 ≤ cap
  pub most : cap ≤ 1024
