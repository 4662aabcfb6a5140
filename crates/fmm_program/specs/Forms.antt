-- The forms of the command line.
use Rattle.std.specs.Prelude.{ℕ, ◌≡◌, ◌≢◌, ◌⊎◌, List, [], ◌∷◌, codes, decimal}
use Rattle.exact_math.specs.Orders.{IsOrder, IsCapacity}
use Rattle.fmm_program.specs.Samples.{IsSample}
use Rattle.fmm_program.specs.Workers.{AreWithWorkers, HasWorkers}
use Rattle.fmm_program.specs.declared.commands.Command.{Command}
use Rattle.fmm_program.specs.declared.commands.Command.TheVariants.{Solve, Check, Sample}
use Rattle.fmm_program.specs.declared.commands.Opening.{Opening}
use Rattle.fmm_program.specs.declared.commands.Opening.TheVariants.{Nothing, SolveInput, SolveFile, CheckFile}

-- the words are `solve ORDER CAP FILE` or `solve ORDER CAP FILE WORKERS`, with the decimals of the numbers
pub record IsSolve (words : List (List ℕ)) (order cap : ℕ) (file : List ℕ) : Type 0 where
  pub words_are : AreWithWorkers words (codes "solve" ∷ decimal order ∷ decimal cap ∷ file ∷ [])
  pub is_order : IsOrder order
  pub is_capacity : IsCapacity cap

-- the words ask for no solve
abbrev pub IsNoSolve : List (List ℕ) → Type 0
IsNoSolve words = (order cap : ℕ) (file : List ℕ) → IsSolve words order cap file → ⊥

-- the words are `check FILE`, where FILE isn't `-`
pub record IsCheck (words : List (List ℕ)) (file : List ℕ) : Type 0 where
  pub words_are : words ≡ codes "check" ∷ file ∷ []
  pub named : file ≢ codes "-"

-- the words ask for no check
abbrev pub IsNoCheck : List (List ℕ) → Type 0
IsNoCheck words = (file : List ℕ) → IsCheck words file → ⊥

-- the words are of no form
abbrev pub IsNoForm : List (List ℕ) → Type 0
IsNoForm words = IsNoSolve words × IsNoCheck words × ((seed n order cap : ℕ) → IsSample words seed n order cap → ⊥)

-- the words ask for this command, by so many workers. No public contract cites it.
abbrev pub Asks : List (List ℕ) → Command → Type 0
Asks words (Solve c) = IsSolve words c.order c.cap c.file.now × HasWorkers words (codes "solve" ∷ decimal c.order ∷ decimal c.cap ∷ c.file.now ∷ []) c.workers
Asks words (Check c) = IsCheck words c.file.now
Asks words (Sample c) = IsSample words c.seed c.count c.order c.cap × HasWorkers words (codes "sample" ∷ decimal c.seed ∷ decimal c.count ∷ decimal c.order ∷ decimal c.cap ∷ []) c.workers

-- what is to be opened for these words
abbrev pub Opens : List (List ℕ) → Opening → Type 0
Opens words Nothing = IsNoForm words ⊎ ((seed : ℕ) × (n : ℕ) × (order : ℕ) × (cap : ℕ) × IsSample words seed n order cap)
Opens words SolveInput = (order : ℕ) × (cap : ℕ) × IsSolve words order cap (codes "-")
Opens words (SolveFile file) = (order : ℕ) × (cap : ℕ) × (file.now ≢ codes "-") × IsSolve words order cap file.now
Opens words (CheckFile file) = IsCheck words file.now
