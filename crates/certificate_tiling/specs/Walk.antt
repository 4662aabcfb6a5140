-- How often the nodes cover, while one node after the other is visited.
use Rattle.std.specs.Prelude.{ℕ, ◌≡◌, ◌+◌, ◌-◌, ◌≤◌, ◌==◌, ◌&&◌, ◌↔◌, true, false, Bool, List, length, map, slice_index_or}
use Rattle.std.specs.List.{range_with_len, count_by}
use Rattle.accounting_text.specs.Given.{given_entry}
use Rattle.cert_text.specs.Certificate.{Certificate, nth_line}
use Rattle.node_sums.specs.Sums.{value_at}
use Rattle.path_cover.specs.Covers.{CoverModel}
use Rattle.soundness.specs.Accounts.{Accounting, under}
use Rattle.soundness.specs.Rules.{IsTiled}

abbrev pub parents_of : Accounting → List ℕ
parents_of A = map A.parent (range_with_len 0 A.nodes)

abbrev pub leaves_of : Accounting → List ℕ
leaves_of A = map (λ x. x.leaf) A.sources

-- how many of some entries, given by their numbers, have the node k for their c
unfoldable pub times_named : Certificate → List ℕ → ℕ → ℕ
times_named c entries k = count_by (λ e. (given_entry (nth_line c.entries e)).c == k) entries

-- how many entries have the node n under their b, and the node k for their c
unfoldable pub times_over : Accounting → ℕ → ℕ → ℕ
times_over A n k = count_by (λ e. under A.parent n e.b && (e.c == k)) A.entries

-- one cover has more than another, at each node as much as said
pub record CoversMore (m more : CoverModel) (extra : ℕ → ℕ) : Type 0 where
  pub parents : more.parents ≡ m.parents
  pub leaves : more.leaves ≡ m.leaves
  pub len : length more.covers ≡ length m.covers
  pub each : (k : ℕ) → value_at more.covers k ≡ value_at m.covers k + extra k

module _ (A : Accounting) where
  -- a cover of the accounting's sources
  pub record Covers (often : ℕ → ℕ) (m : CoverModel) : Type 0 where
    pub parents : m.parents ≡ parents_of A
    pub leaves : m.leaves ≡ leaves_of A
    pub len : length m.covers ≡ A.nodes
    pub each : (k : ℕ) → value_at m.covers k ≡ often k

  -- the c of each entry covers whose b the node n is under
  abbrev pub CoversAt : ℕ → CoverModel → Type 0
  CoversAt n = Covers (times_over A n)

  -- on the way to a node: those over `from` cover too, and those over `next` do not yet
  pub record CoversBetween (to from next : ℕ) (m : CoverModel) : Type 0 where
    pub covers : Covers (λ k. times_over A to k + times_over A from k - times_over A next k) m
    pub within : (k : ℕ) → times_over A next k ≤ times_over A to k

  -- the answer for a node
  abbrev pub Tells : List Bool → ℕ → Type 0
  Tells tiled n = slice_index_or tiled n false ≡ true ↔ IsTiled A n
