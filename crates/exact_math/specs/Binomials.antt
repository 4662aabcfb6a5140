-- Pascal's triangle.
use Rattle.std.specs.Prelude.{ℕ, zero, suc, ◌+◌}

-- the number of ways to choose k of n
abbrev pub choose : ℕ → ℕ → ℕ
choose n zero = 1
choose zero (suc k) = 0
choose (suc n) (suc k) = choose n k + choose n (suc k)
