-- Sums over the nodes under a node, where each node but node 0 has a parent with a smaller number.
use Rattle.std.specs.Prelude.{ℕ, ◌≡◌, ◌<◌, cond, List, length, slice_index_or, sum_by}
use Rattle.std.specs.List.{range_with_len}
use Rattle.soundness.specs.Accounts.{under}

-- the parent of a node in a list of parents, 0 past the last
abbrev pub parent_in : List ℕ → ℕ → ℕ
parent_in parents n = slice_index_or parents n 0

-- node 0 has itself for a parent, and another node one with a smaller number
pub record AreParents (parents : List ℕ) : Type 0 where
  pub root : parent_in parents 0 ≡ 0
  pub smaller : (n : ℕ) → 0 < n → n < length parents → parent_in parents n < n

-- the value of a node
abbrev pub value_at : List ℕ → ℕ → ℕ
value_at values n = slice_index_or values n 0

-- the sum of the values of a node and of all nodes under it
abbrev pub sum_under : List ℕ → List ℕ → ℕ → ℕ
sum_under parents values n = sum_by (λ k. cond (under (parent_in parents) k n) (value_at values k) 0) (range_with_len 0 (length values))
