-- Filters of the numbers below a number.
use Rattle.std.proofs.Common.{ℕ, zero, suc, ◌+◌, ◌≡◌, ◌<◌, Bool, true, false, cond, ◌||◌, List, [], ◌∷◌, length, map, filter, refl, sym, ap, ap₂, ◌∙◌, nat_lt, arith, add-one}
use Rattle.std.specs.Prelude.{All}
use Rattle.std.specs.List.{range_with_len, list_any}
use Rattle.std.proofs.lemmas.Bool.{lt-ltb}
use Rattle.exact_math.proofs.Lists.{All-from_members, filter-map, range_below}

-- what holds of each number below n
pub range_each : (P : ℕ → Type 0) (n : ℕ) → ((k : ℕ) → k < n → P k) → All P (range_with_len 0 n)
range_each P n each = All-from_members P (range_with_len 0 n) (λ k h. each k (range_below n k h))

range_up : (n a : ℕ) → range_with_len (a + 1) n ≡ map suc (range_with_len a n)
range_up zero a = refl
range_up (suc n) a = ap₂ (λ z zs. z ∷ zs) (add-one a) (range_up n (a + 1))

-- the number 0, and those of the others
pub filter_range-suc : (p : ℕ → Bool) (n : ℕ) → filter p (range_with_len 0 (suc n)) ≡ cond (p 0) (0 ∷ map suc (filter (λ k. p (suc k)) (range_with_len 0 n))) (map suc (filter (λ k. p (suc k)) (range_with_len 0 n)))
filter_range-suc p n = ap (λ l. cond (p 0) (0 ∷ l) l) (ap (filter p) (range_up n 0) ∙ filter-map p suc (range_with_len 0 n))

-- ---- some passes where a filter keeps some
pub any_kept : {X : Type 0} (p : X → Bool) (xs : List X) → list_any p xs ≡ nat_lt 0 (length (filter p xs))
any_kept p [] = refl
any_kept {X} p (x ∷ xs) = step (p x) (any_kept p xs)
  where
    step : (b : Bool) → list_any p xs ≡ nat_lt 0 (length (filter p xs)) → (b || list_any p xs) ≡ nat_lt 0 (length (cond b (x ∷ filter p xs) (filter p xs)))
    step true e = sym (lt-ltb 0 (suc (length (filter p xs))) (omega arith))
    step false e = e
