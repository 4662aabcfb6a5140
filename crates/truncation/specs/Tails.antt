-- The tails: one unit of weight leaves at most tail/s units of 2^-40, where s is the side of the cell. And the radius of an entry.
use Rattle.std.specs.Prelude.{ℕ, zero, suc, ◌*◌, ◌^◌}
use Rattle.std.specs.Int.{div_ceil}

-- for two cells of one side: from 2^41 on, P times 17/31 rounded up
unfoldable pub pair_tail : ℕ → ℕ
pair_tail zero = 2 ^ 41
pair_tail (suc P) = div_ceil (17 * pair_tail P) 31

-- for a cell and a far place: from 2^40 on, P times 17/36 rounded up
unfoldable pub single_tail : ℕ → ℕ
single_tail zero = 2 ^ 40
single_tail (suc P) = div_ceil (17 * single_tail P) 36

-- ---- what an entry can lose whose sources have this total weight, in whole units of 2^-40
-- two cells of side s
abbrev pub pair_loss : ℕ → ℕ → ℕ → ℕ
pair_loss P weight s = div_ceil (weight * pair_tail P) s

-- a cell of side s, and a far target or far sources
abbrev pub single_loss : ℕ → ℕ → ℕ → ℕ
single_loss P weight s = div_ceil (weight * single_tail P) s
