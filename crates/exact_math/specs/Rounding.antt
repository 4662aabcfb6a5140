-- Rounding to whole numbers, down and up.
use Rattle.std.specs.Prelude.{ℤ, pos, neg_ℤ, ◌*ℤ◌, ◌≤ℤ◌, ◌↔◌}
use Rattle.std.specs.Int.{int_div_euclid}

-- the greatest whole number that is at most z/n, for n above 0
abbrev pub floor_div : ℤ → ℤ → ℤ
floor_div z n = int_div_euclid z n

-- the least whole number that is at least z/n, for n above 0
abbrev pub ceil_div : ℤ → ℤ → ℤ
ceil_div z n = neg_ℤ (int_div_euclid (neg_ℤ z) n)

-- so: the whole numbers m with m n at most z are those up to floor_div z n
abbrev pub FloorIsGreatest : Type 0
FloorIsGreatest = (m n z : ℤ) → pos 1 ≤ℤ n → ((m *ℤ n) ≤ℤ z) ↔ (m ≤ℤ floor_div z n)

-- and those with m n at least z are those from ceil_div z n on
abbrev pub CeilIsLeast : Type 0
CeilIsLeast = (m n z : ℤ) → pos 1 ≤ℤ n → (z ≤ℤ (m *ℤ n)) ↔ (ceil_div z n ≤ℤ m)
