-- The sum under a node by the items in the leaves under it.
use Rattle.std.proofs.Common.{ℕ, ◌≡◌, ◌<◌, length, Bool, true, false, cond, refl, sym, ap, ◌∙◌, arith}
use Rattle.std.specs.Prelude.{◌==◌, sum_by}
use Rattle.std.specs.List.{range_with_len}
use Rattle.soundness.specs.Accounts.{under}
use Rattle.soundness.proofs.Sums.{sum_by-same}
use Rattle.node_sums.specs.Sums.{parent_in, value_at}
use Rattle.node_sums.specs.ByLeaves.{SumsByLeaves}
use Rattle.node_sums.proofs.RangeSums.{sum_by-each, sum_by-exchange, sum_by-filter, sum_by-cond, range-same, range-pick}

turned : (a b : Bool) (x : ℕ) → cond a (cond b x 0) 0 ≡ cond b (cond a x 0) 0
turned true true x = refl
turned true false x = refl
turned false true x = refl
turned false false x = refl

pub by_leaves : (X : Type 0) → SumsByLeaves X
by_leaves X leaf weight items parents values n inside held =
    range-same _ (λ k. sum_by (λ x. cond (leaf x == k) (cond (under (parent_in parents) k n) (weight x) 0) 0) items) 0 (length values) (λ k l h. at k (omega arith))
    ∙ sum_by-exchange (λ k x. cond (leaf x == k) (cond (under (parent_in parents) k n) (weight x) 0) 0) (range_with_len 0 (length values)) items
    ∙ sum_by-same _ (λ x. cond (under (parent_in parents) (leaf x) n) (weight x) 0) items (λ i d lt. picked _ (inside i d lt))
    ∙ sym (sum_by-filter (λ x. under (parent_in parents) (leaf x) n) weight items)
  where
    at : (k : ℕ) → k < length values → cond (under (parent_in parents) k n) (value_at values k) 0 ≡ sum_by (λ x. cond (leaf x == k) (cond (under (parent_in parents) k n) (weight x) 0) 0) items
    at k lt =
        ap (λ v. cond (under (parent_in parents) k n) v 0) (held k lt ∙ sum_by-filter (λ x. leaf x == k) weight items)
        ∙ sym (sum_by-cond (under (parent_in parents) k n) (λ x. cond (leaf x == k) (weight x) 0) items)
        ∙ sum_by-each _ _ (λ x. turned (under (parent_in parents) k n) (leaf x == k) (weight x)) items

    picked : (x : X) → leaf x < length values → sum_by (λ k. cond (leaf x == k) (cond (under (parent_in parents) k n) (weight x) 0) 0) (range_with_len 0 (length values)) ≡ cond (under (parent_in parents) (leaf x) n) (weight x) 0
    picked x lt = range-pick (λ k. cond (under (parent_in parents) k n) (weight x) 0) (leaf x) 0 (length values) (omega arith) (omega arith)
