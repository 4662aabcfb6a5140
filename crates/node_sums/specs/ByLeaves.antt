-- Sums over nodes, where the value of each node is what the items in it weigh.
use Rattle.std.specs.Prelude.{ℕ, ◌≡◌, ◌<◌, ◌==◌, List, length, filter, sum_by, All}
use Rattle.soundness.specs.Accounts.{under}
use Rattle.node_sums.specs.Sums.{parent_in, value_at, sum_under}

-- the value of each node is the sum of the weights of the items whose leaf it is
abbrev pub HoldWeights : {X : Type 0} → (X → ℕ) → (X → ℕ) → List X → List ℕ → Type 0
HoldWeights leaf weight items values = (k : ℕ) → k < length values → value_at values k ≡ sum_by weight (filter (λ x. leaf x == k) items)

-- then the sum under a node is that of the weights of the items whose leaf is under it
abbrev pub SumsByLeaves : Type 0 → Type 0
SumsByLeaves X = (leaf weight : X → ℕ) (items : List X) (parents values : List ℕ) (n : ℕ)
    → All (λ x. leaf x < length values) items → HoldWeights leaf weight items values
    → sum_under parents values n ≡ sum_by weight (filter (λ x. under (parent_in parents) (leaf x) n) items)
