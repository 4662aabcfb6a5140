-- Words with or without a number of workers behind them.
use Rattle.std.proofs.Common.{◌≡◌, ℕ, zero, suc, ◌+◌, ◌<◌, List, [], ◌∷◌, ◌++◌, length, slice_get, take, Some, arith, ap, refl, inl, inr, ◌∙◌}
use Rattle.std.specs.Prelude.{decimal}
use Rattle.fmm_program.specs.Workers.{AreWithWorkers, HasWorkers}

in_front : (xs ys : List (List ℕ)) (k : ℕ) → k < length xs → slice_get (xs ++ ys) k ≡ slice_get xs k
in_front [] ys k h = absurd (omega arith)
in_front (x ∷ xs) ys zero h = refl
in_front (x ∷ xs) ys (suc k) h = in_front xs ys k (omega arith)

-- the words in front stand there
pub front_word : (words front : List (List ℕ)) (k : ℕ) → AreWithWorkers words front → k < length front → slice_get words k ≡ slice_get front k
front_word words front k (inl e) h = ap (λ w. slice_get w k) e
front_word words front k (inr (n, least, most, e)) h = ap (λ w. slice_get w k) e ∙ in_front front (decimal n ∷ []) k h

pub with_workers : (words front : List (List ℕ)) (n : ℕ) → HasWorkers words front n → AreWithWorkers words front
with_workers words front n h = elim h.named [ inl w ↦ inl w.0 | inr e ↦ inr (n, h.least, h.most, e) ]

-- the last word of a list
pub last_word : (xs : List (List ℕ)) (k : ℕ) (w : List ℕ) → length xs ≡ k + 1 → slice_get xs k ≡ Some w → xs ≡ take k xs ++ w ∷ []
last_word [] k w l e = absurd (omega arith)
last_word (x ∷ []) zero w l e = cc
last_word (x ∷ y ∷ xs) zero w l e = absurd (omega arith)
last_word (x ∷ xs) (suc k) w l e = ap (λ r. x ∷ r) (last_word xs k w (omega arith) e)
