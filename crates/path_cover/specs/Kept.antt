-- What is kept beside the covers: for each node how many sources it has, and how much the nodes under it cover, and two sums over all sources.
use Rattle.std.specs.Prelude.{ℕ, ◌*◌, ◌^◌, ◌≡◌, ◌<◌, ◌≤◌, ◌==◌, ◌&&◌, not, Bool, cond, List, length, sum, sum_by, count_by}
use Rattle.std.specs.List.{range_with_len}
use Rattle.soundness.specs.Accounts.{under}
use Rattle.node_sums.specs.Sums.{parent_in, value_at, AreParents}
use Rattle.path_cover.specs.Covers.{CoverModel, times_covered}

-- a node under another
abbrev pub strictly_under : List ℕ → ℕ → ℕ → Bool
strictly_under parents d n = not (d == n) && under (parent_in parents) d n

-- how many sources stand in a node and under it
unfoldable pub sources_under : List ℕ → List ℕ → ℕ → ℕ
sources_under parents leaves n = count_by (λ leaf. under (parent_in parents) leaf n) leaves

-- how many sources the nodes under a node cover, each as often as it is covered by them
unfoldable pub covered_below : List ℕ → List ℕ → (ℕ → ℕ) → ℕ → ℕ → ℕ
covered_below parents leaves often nodes n = sum_by (λ d. cond (strictly_under parents d n) (often d * sources_under parents leaves d) 0) (range_with_len 0 nodes)

-- how often all sources are covered together
unfoldable pub total_times : CoverModel → ℕ
total_times m = sum_by (times_covered m) m.leaves

-- the sum of the squares of these
unfoldable pub total_squares : CoverModel → ℕ
total_squares m = sum_by (λ leaf. times_covered m leaf * times_covered m leaf) m.leaves

-- what a cover keeps
pub record IsKept (m : CoverModel) (sizes below : List ℕ) (total squares : ℕ) : Type 0 where
  pub parents : AreParents m.parents
  pub covers_len : length m.covers ≡ length m.parents
  pub sizes_len : length sizes ≡ length m.parents
  pub below_len : length below ≡ length m.parents
  pub few : length m.leaves < 2 ^ 32
  pub room : sum m.covers ≤ 2 ^ 31
  pub each_size : (n : ℕ) → n < length m.parents → value_at sizes n ≡ sources_under m.parents m.leaves n
  pub each_below : (n : ℕ) → n < length m.parents → value_at below n ≡ covered_below m.parents m.leaves (value_at m.covers) (length m.covers) n
  pub all : total ≡ total_times m
  pub all_squares : squares ≡ total_squares m
