-- How often sources are covered: a source stands in a node, and each node that covers, covers all sources in it and under it.
use Rattle.std.specs.Prelude.{ℕ, ◌+◌, ◌≡◌, cond, List, length, sum_by, All, slice_set, replicate}
use Rattle.std.specs.List.{range_with_len}
use Rattle.soundness.specs.Accounts.{under}
use Rattle.node_sums.specs.Sums.{parent_in, value_at}

-- parents of the nodes, the node of each source, and how often each node covers
pub record CoverModel : Type 0 where
  pub parents : List ℕ
  pub leaves : List ℕ
  pub covers : List ℕ

-- how often the nodes above a node cover, and the node itself, where `often c` tells how often node c covers
unfoldable pub times_above : List ℕ → (ℕ → ℕ) → ℕ → ℕ → ℕ
times_above parents often nodes n = sum_by (λ c. cond (under (parent_in parents) n c) (often c) 0) (range_with_len 0 nodes)

-- how often a source in a node is covered: by the node, and by its ancestors
abbrev pub times_covered : CoverModel → ℕ → ℕ
times_covered m leaf = times_above m.parents (value_at m.covers) (length m.covers) leaf

-- each source is covered exactly once
abbrev pub IsCoveredOnce : CoverModel → Type 0
IsCoveredOnce m = All (λ leaf. times_covered m leaf ≡ 1) m.leaves

-- no node covers
abbrev pub no_covers : List ℕ → List ℕ → CoverModel
no_covers parents leaves = record { parents = parents; leaves = leaves; covers = replicate (length parents) 0 }

-- one node covers once more
abbrev pub covered_more : CoverModel → ℕ → CoverModel
covered_more m c = record { parents = m.parents; leaves = m.leaves; covers = slice_set m.covers c (value_at m.covers c + 1) }
