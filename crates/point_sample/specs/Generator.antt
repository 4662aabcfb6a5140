-- A linear congruential generator of 32 bits, of which each draw gives the upper half of a state.
use Rattle.std.specs.Prelude.{ℕ, zero, suc, ◌+◌, ◌*◌, ◌/◌, ◌%◌, ◌^◌}

-- the state that follows the state x
abbrev pub next_state : ℕ → ℕ
next_state x = (1664525 * x + 1013904223) % 2 ^ 32

-- the state after n draws from the state x
unfoldable pub state_after : ℕ → ℕ → ℕ
state_after x zero = x
state_after x (suc n) = next_state (state_after x n)

-- what the n-th draw from the state x gives, counted from 1: the upper half of the state after it
abbrev pub draw : ℕ → ℕ → ℕ
draw x n = state_after x n / 2 ^ 16
