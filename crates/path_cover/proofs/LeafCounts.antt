-- Sources counted in their leaves, and under the nodes above these.
use Rattle.std.proofs.Common.{ℕ, ◌≡◌, ◌+◌, ◌<◌, List, length, get_or, take, cond, sym, ◌∙◌, arith}
use Rattle.std.specs.Prelude.{◌==◌, sum, count_by, slice_set, All}
use Rattle.std.proofs.lemmas.List.Sums.{sum_by-set, sum_by_more}
use Rattle.node_sums.specs.Sums.{parent_in, value_at, sum_under}
use Rattle.node_sums.proofs.ByLeaves.{by_leaves}
use Rattle.node_sums.proofs.RangeSums.{sum_by-filter}
use Rattle.soundness.specs.Accounts.{under}
use Rattle.path_cover.specs.Kept.{sources_under}
use Rattle.path_cover.proofs.Parents.{set_more}

abbrev pub AreCounts : List ℕ → List ℕ → Type 0
AreCounts leaves counts = (k : ℕ) → k < length counts → value_at counts k ≡ count_by (λ leaf. leaf == k) leaves

-- one more source
pub counts-more : (leaves counts : List ℕ) (i : ℕ) → i < length leaves → get_or leaves i 0 < length counts → AreCounts (take i leaves) counts
    → (k : ℕ) → k < length counts → value_at (slice_set counts (get_or leaves i 0) (value_at counts (get_or leaves i 0) + 1)) k ≡ count_by (λ leaf. leaf == k) (take (i + 1) leaves)
counts-more leaves counts i l inside are k h =
    let a = set_more counts (get_or leaves i 0) k 1 inside in
    let b = are k h in
    let d = sum_by_more (λ leaf. cond (leaf == k) 1 0) leaves i 0 l in
    omega arith

pub sum-more : (counts : List ℕ) (c : ℕ) → c < length counts → sum (slice_set counts c (value_at counts c + 1)) ≡ sum counts + 1
sum-more counts c l = let e = sum_by-set (λ x. x) counts c (value_at counts c + 1) 0 l in omega arith

-- the counts of leaves, added up
pub sums_are_sizes : (parents leaves counts : List ℕ) (n : ℕ) → All (λ leaf. leaf < length counts) leaves → AreCounts leaves counts → sum_under parents counts n ≡ sources_under parents leaves n
unfolding sources_under
sums_are_sizes parents leaves counts n inside are =
    by_leaves ℕ (λ leaf. leaf) (λ _. 1) leaves parents counts n inside (λ k l. are k l ∙ sym (sum_by-filter (λ leaf. leaf == k) (λ _. 1) leaves))
    ∙ sum_by-filter (λ leaf. under (parent_in parents) leaf n) (λ _. 1) leaves
