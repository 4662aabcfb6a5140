-- States after many draws, and how large the draws are.
use Rattle.std.proofs.Common.{◌≡◌, ℕ, zero, suc, ◌+◌, ◌*◌, ◌^◌, ◌<◌, ap, arith, add-zero, add-suc, sym, ◌∙◌}
use Rattle.std.proofs.lemmas.Nat.{mod_below, mul-pow, pow-add}
use Rattle.point_sample.specs.Generator.{next_state, state_after, draw}

-- draws after draws
pub state_after-add : (x m n : ℕ) → state_after (state_after x m) n ≡ state_after x (m + n)
unfolding state_after
state_after-add x m zero = ap (state_after x) (sym (add-zero m))
state_after-add x m (suc n) = ap next_state (state_after-add x m n) ∙ ap (state_after x) (sym (add-suc m n))

-- the state before the five draws of the next point
pub five_more : (x k : ℕ) → state_after (state_after x (5 * k)) 5 ≡ state_after x (5 * (k + 1))
five_more x k = let e : 5 * k + 5 ≡ 5 * (k + 1) = omega arith in state_after-add x (5 * k) 5 ∙ ap (state_after x) e

-- a draw is below 2^16
pub draw_below : (x n : ℕ) → draw x (suc n) < 2 ^ 16
unfolding state_after
draw_below x n = let below : next_state (state_after x n) < 2 ^ 32 = mod_below _ _ (omega arith) in omega arith

-- a power of 4 as one of 2
pub pow_four : (n : ℕ) → 4 ^ n ≡ 2 ^ (2 * n)
pow_four n = let e : n + n ≡ 2 * n = omega arith in mul-pow 2 2 n ∙ sym (pow-add 2 n n) ∙ ap (λ k. 2 ^ k) e
