-- How many workers the words of a command ask for.
use Rattle.std.specs.Prelude.{ℕ, ◌≡◌, ◌≤◌, ◌⊎◌, List, [], ◌∷◌, ◌++◌, decimal}
use Rattle.limits.specs.Limits.{most_workers}

-- the words are these, or these with a number of workers behind them
abbrev pub AreWithWorkers : List (List ℕ) → List (List ℕ) → Type 0
AreWithWorkers words front = (words ≡ front) ⊎ ((workers : ℕ) × (1 ≤ workers) × (workers ≤ most_workers) × (words ≡ front ++ decimal workers ∷ []))

-- they ask for so many: the number behind these words, and 1 where none stands there. No public contract cites it.
pub record HasWorkers (words front : List (List ℕ)) (workers : ℕ) : Type 0 where
  pub least : 1 ≤ workers
  pub most : workers ≤ most_workers
  pub named : ((words ≡ front) × (workers ≡ 1)) ⊎ (words ≡ front ++ decimal workers ∷ [])
