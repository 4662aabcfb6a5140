-- On the way from a node to node 0: how often its ancestors cover, and what each of them is given.
use Rattle.std.proofs.Common.{ℕ, zero, suc, ◌≡◌, ◌+◌, ◌<◌, Bool, false, not, ◌&&◌, ◌||◌, cond, refl, sym, ap, ◌∙◌, arith}
use Rattle.std.specs.Prelude.{sum_by, ◌==◌}
use Rattle.std.specs.List.{range_with_len}
use mathlib.Core.Logic.{⊎_elim}
use Rattle.std.proofs.lemmas.Bool.{eq-eqb, ne_eqb, cases_eq}
use Rattle.soundness.specs.Accounts.{under}
use Rattle.soundness.proofs.Nodes.{under-root, under-parent, under-self, under-greater}
use Rattle.soundness.proofs.Sums.{sum_by-add}
use Rattle.node_sums.proofs.RangeSums.{sum_by-each, range-pick}

module _ (parent : ℕ → ℕ) (root : parent 0 ≡ 0) (parents : (n : ℕ) → 0 < n → parent n < n) where
  abbrev strictly : ℕ → ℕ → Bool
  strictly d n = not (d == n) && under parent d n

  -- the ancestors of node 0, and of another node
  pub strictly-root : (n : ℕ) → strictly 0 n ≡ false
  strictly-root zero = refl
  strictly-root (suc n) =
      let apart = ne_eqb 0 (suc n) (λ e. omega arith) in
      ap (λ b. not b && under parent 0 (suc n)) apart ∙ under-root parent root parents (suc n) ∙ apart

  not_own : (n : ℕ) → 0 < n → under parent (parent n) n ≡ false
  not_own n h = under-greater parent root parents (parent n) n (parents n h)

  pub strictly-parent : (n k : ℕ) → 0 < n → strictly n k ≡ under parent (parent n) k
  strictly-parent n k h = ⊎_elim
      (λ e. ap (λ b. not b && under parent n k) (eq-eqb n k e) ∙ sym (ap (λ m. under parent (parent n) m) (sym e) ∙ not_own n h))
      (λ e. ap (λ b. not b && under parent n k) (ne_eqb n k e) ∙ under-parent parent root parents n k h ∙ ap (λ b. b || under parent (parent n) k) (ne_eqb n k e))
      (cases_eq n k)

  -- a node and its strict ancestors
  pub share-strictly : (n k v : ℕ) → cond (under parent n k) v 0 ≡ cond (n == k) v 0 + cond (strictly n k) v 0
  share-strictly n k v = ⊎_elim
      (λ e.
      let all : cond (under parent n k) v 0 ≡ v = ap (λ b. cond b v 0) (ap (under parent n) (sym e) ∙ under-self parent root parents n) in
      let here : cond (n == k) v 0 ≡ v = ap (λ b. cond b v 0) (eq-eqb n k e) in
      let none : cond (strictly n k) v 0 ≡ 0 = ap (λ b. cond (not b && under parent n k) v 0) (eq-eqb n k e) in
      omega arith)
      (λ e.
      let here : cond (n == k) v 0 ≡ 0 = ap (λ b. cond b v 0) (ne_eqb n k e) in
      let rest : cond (strictly n k) v 0 ≡ cond (under parent n k) v 0 = ap (λ b. cond (not b && under parent n k) v 0) (ne_eqb n k e) in
      omega arith)
      (cases_eq n k)

  pub share-parent : (n k v : ℕ) → 0 < n → cond (strictly n k) v 0 ≡ cond (parent n == k) v 0 + cond (strictly (parent n) k) v 0
  share-parent n k v h = ap (λ b. cond b v 0) (strictly-parent n k h) ∙ share-strictly (parent n) k v

  module _ (often : ℕ → ℕ) (nodes : ℕ) where
    abbrev times : ℕ → ℕ
    times l = sum_by (λ c. cond (under parent l c) (often c) 0) (range_with_len 0 nodes)

    pub times-root : 0 < nodes → times 0 ≡ often 0
    times-root h = sum_by-each _ _ (λ c. ap (λ b. cond b (often c) 0) (under-root parent root parents c)) (range_with_len 0 nodes) ∙ range-pick often 0 0 nodes (omega arith) (omega arith)

    pub times-parent : (n : ℕ) → 0 < n → n < nodes → times n ≡ often n + times (parent n)
    times-parent n h l =
        sum_by-each _ _ (λ c. share-strictly n c (often c) ∙ ap (λ b. cond (n == c) (often c) 0 + cond b (often c) 0) (strictly-parent n c h)) (range_with_len 0 nodes)
        ∙ sum_by-add (λ c. cond (n == c) (often c) 0) (λ c. cond (under parent (parent n) c) (often c) 0) (range_with_len 0 nodes)
        ∙ ap (λ m. m + times (parent n)) (range-pick often n 0 nodes (omega arith) (omega arith))
