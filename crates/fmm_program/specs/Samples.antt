-- The form of the command line that asks for a sample.
use Rattle.std.specs.Prelude.{ℕ, ◌^◌, ◌<◌, ◌≤◌, List, [], ◌∷◌, codes, decimal}
use Rattle.exact_math.specs.Orders.{IsCapacity}
use Rattle.limits.specs.Limits.{first_grid, most_points}
use Rattle.points.specs.Limits.{IsOrderOf}
use Rattle.fmm_program.specs.Workers.{AreWithWorkers}

-- the words are `sample SEED N ORDER CAP` or `sample SEED N ORDER CAP WORKERS`, with the decimals of the numbers; a sample is of version 1
pub record IsSample (words : List (List ℕ)) (seed n order cap : ℕ) : Type 0 where
  pub words_are : AreWithWorkers words (codes "sample" ∷ decimal seed ∷ decimal n ∷ decimal order ∷ decimal cap ∷ [])
  pub seed_fits : seed < 2 ^ 32
  pub count_fits : (1 ≤ n) × (n ≤ most_points first_grid)
  pub is_order : IsOrderOf first_grid order
  pub is_capacity : IsCapacity cap
