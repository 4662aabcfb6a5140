-- In a leaf stands what is under it.
use Rattle.std.proofs.Common.{ℕ, zero, suc, ◌≡◌, ◌<◌, true, not, get_or, filter, sym, ap, ◌∙◌, arith}
use Rattle.std.specs.Prelude.{All, ◌==◌, ◌&&◌}
use Rattle.std.specs.List.{range_with_len, list_any}
use Rattle.std.proofs.lemmas.Bool.{eq-eqb, ne_eqb, eqb-true, lt-ltb, cases_Bool, true≢false, or_cases}
use Rattle.std.proofs.lemmas.List.Folds.{list_any_at}
use Rattle.std.proofs.lemmas.List.FromFn.{get_or-range_with_len, length-range_with_len}
use mathlib.Core.Logic.{⊎_elim}
use Rattle.exact_math.proofs.Lists.{filter_same}
use Rattle.soundness.specs.Accounts.{Accounting, LeafSource, LeafTarget, is_leaf, names_parent, under, sources_under}
use Rattle.soundness.proofs.Nodes.{strong, under-root, under-parent, under-self}

module _ (A : Accounting) (root : A.parent 0 ≡ 0) (parents : (n : ℕ) → 0 < n → A.parent n < n) where
  -- a leaf is no parent
  no_child : (n m : ℕ) → is_leaf A n ≡ true → 0 < m → m < A.nodes → A.parent m ≡ n → ⊥
  no_child n m leaf positive lt e =
      let named : names_parent A n m ≡ true = ap (λ b. b && (A.parent m == n)) (lt-ltb 0 m positive) ∙ eq-eqb (A.parent m) n e in
      let at : get_or (range_with_len 0 A.nodes) m 0 ≡ m = omega (arith, get_or-range_with_len 0 A.nodes m 0 lt) in
      let some : list_any (names_parent A n) (range_with_len 0 A.nodes) ≡ true =
      list_any_at (names_parent A n) (range_with_len 0 A.nodes) m 0 (omega (arith, lt, length-range_with_len 0 A.nodes)) (ap (names_parent A n) at ∙ named) in
      true≢false (sym leaf ∙ ap not some)

  -- nothing but a leaf itself is under it
  pub only_itself : (n : ℕ) → is_leaf A n ≡ true → (m : ℕ) → m < A.nodes → under A.parent m n ≡ true → m ≡ n
  only_itself n leaf = strong (λ m. m < A.nodes → under A.parent m n ≡ true → m ≡ n) step
    where
      step : (m : ℕ) → ((k : ℕ) → k < m → k < A.nodes → under A.parent k n ≡ true → k ≡ n) → m < A.nodes → under A.parent m n ≡ true → m ≡ n
      step zero ih lt h = eqb-true 0 n (sym (under-root A.parent root parents n) ∙ h)
      step (suc m) ih lt h =
          let less = parents (suc m) (omega arith) in
          ⊎_elim (λ e. eqb-true (suc m) n e)
          (λ e. absurd (no_child n (suc m) leaf (omega arith) lt (ih (A.parent (suc m)) less (omega (arith, less, lt)) e)))
          (or_cases _ _ (sym (under-parent A.parent root parents (suc m) n (omega arith)) ∙ h))

  pub under_is_at : (n : ℕ) → is_leaf A n ≡ true → (m : ℕ) → m < A.nodes → under A.parent m n ≡ (m == n)
  under_is_at n leaf m lt = ⊎_elim
      (λ e. e ∙ sym (eq-eqb m n (only_itself n leaf m lt e)))
      (λ e. e ∙ sym (ne_eqb m n (λ same. true≢false (sym (ap (λ k. under A.parent k n) same ∙ under-self A.parent root parents n) ∙ e))))
      (cases_Bool (under A.parent m n))

  -- the sources under a leaf are those in it, and so the targets
  pub sources_in_leaf : (n : ℕ) → is_leaf A n ≡ true → All (λ x. x.leaf < A.nodes) A.sources → sources_under A n ≡ filter (λ x. x.leaf == n) A.sources
  sources_in_leaf n leaf inside = filter_same (λ (x : LeafSource). under A.parent x.leaf n) (λ x. x.leaf == n) A.sources (λ k d lt. under_is_at n leaf (get_or A.sources k d).leaf (inside k d lt))

  pub targets_in_leaf : (n : ℕ) → is_leaf A n ≡ true → All (λ t. t.leaf < A.nodes) A.targets
      → filter (λ t. under A.parent t.leaf n) A.targets ≡ filter (λ t. t.leaf == n) A.targets
  targets_in_leaf n leaf inside = filter_same (λ (t : LeafTarget). under A.parent t.leaf n) (λ t. t.leaf == n) A.targets (λ k d lt. under_is_at n leaf (get_or A.targets k d).leaf (inside k d lt))
