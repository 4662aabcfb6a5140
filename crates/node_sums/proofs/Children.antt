-- The sum under a node is its value and the sums under its children.
use Rattle.std.proofs.Common.{ℕ, zero, suc, ◌≡◌, ◌+◌, ◌-◌, ◌<◌, ◌≤◌, inl, inr, List, length, Bool, true, false, cond, refl, sym, ap, ap₂, ◌∙◌, arith}
use Rattle.std.specs.Prelude.{◌==◌, ◌||◌, sum, sum_by}
use Rattle.std.specs.List.{range_with_len}
use Rattle.std.proofs.lemmas.Bool.{eq-eqb, ne_eqb, eqb-true, cases_eq, cases_lt, false≢true}
use Rattle.std.proofs.lemmas.List.{get_or_past}
use Rattle.soundness.specs.Accounts.{under}
use Rattle.soundness.proofs.Nodes.{strong, under-root, under-parent, under-self, under-greater}
use Rattle.soundness.proofs.Sums.{sum_by-add}
use Rattle.node_sums.specs.Sums.{parent_in, value_at, sum_under, AreParents}
use Rattle.node_sums.proofs.RangeSums.{sum_by-each, sum_by-exchange, sum_by-cond, range-same, range-le, range-zero, range-pick, sum-places}

abbrev no_number : ℕ
no_number = 0

nothing : (b : Bool) → cond b 0 no_number ≡ 0
nothing true = refl
nothing false = refl

twice : (b : Bool) (x : ℕ) → cond b (cond b 0 x) 0 ≡ 0
twice true x = refl
twice false x = refl

at_most : (b : Bool) (x : ℕ) → cond b x 0 ≤ x
at_most true x = omega arith
at_most false x = omega arith

-- what is under a node is the node or under its parent
parted : (a b u : Bool) (x : ℕ) → (b ≡ true → u ≡ false) → cond a (cond (b || u) x 0) 0 ≡ cond b (cond a x 0) 0 + cond a (cond u x 0) 0
parted true true true x h = absurd (false≢true (sym (h refl)))
parted true true false x h = omega arith
parted true false true x h = omega arith
parted true false false x h = omega arith
parted false true u x h = omega arith
parted false false u x h = omega arith

joined : (e t u : Bool) (x : ℕ) → (e ≡ true → u ≡ true) → (t ≡ true → u ≡ false) → cond e x 0 + cond u (cond e 0 x) 0 ≡ cond (t || u) (cond t 0 x) 0
joined true true true x h g = absurd (false≢true (sym (g refl)))
joined true false true x h g = omega arith
joined true t false x h g = absurd (false≢true (h refl))
joined false true true x h g = absurd (false≢true (sym (g refl)))
joined false false true x h g = omega arith
joined false true false x h g = omega arith
joined false false false x h g = omega arith

module _ (parents : List ℕ) (rules : AreParents parents) where
  pub smaller : (n : ℕ) → 0 < n → parent_in parents n < n
  smaller n h = elim (cases_lt n (length parents)) [
    | inl within ↦ rules.smaller n h within
    | inr past ↦ omega (arith, get_or_past parents n 0 past)
  ]

  -- a node other than m is under m where it is under one of m's children, and then under no other
  once : (count m x k : ℕ) → k ≤ count → sum_by (λ d. cond (parent_in parents d == m) (cond (under (parent_in parents) k d) x 0) 0) (range_with_len 1 count) ≡ cond (under (parent_in parents) k m) (cond (k == m) 0 x) 0
  once count m x = strong (λ k. k ≤ count → sum_by (λ d. cond (parent_in parents d == m) (cond (under (parent_in parents) k d) x 0) 0) (range_with_len 1 count) ≡ cond (under (parent_in parents) k m) (cond (k == m) 0 x) 0) step
    where
      step : (n : ℕ) → ((k : ℕ) → k < n → k ≤ count → sum_by (λ d. cond (parent_in parents d == m) (cond (under (parent_in parents) k d) x 0) 0) (range_with_len 1 count) ≡ cond (under (parent_in parents) k m) (cond (k == m) 0 x) 0)
          → n ≤ count → sum_by (λ d. cond (parent_in parents d == m) (cond (under (parent_in parents) n d) x 0) 0) (range_with_len 1 count) ≡ cond (under (parent_in parents) n m) (cond (n == m) 0 x) 0
      step zero ih le =
          range-zero _ 1 count (λ d l h. ap (λ b. cond (parent_in parents d == m) (cond b x 0) 0) (under-root (parent_in parents) rules.root smaller d ∙ ne_eqb 0 d (λ e. omega arith)) ∙ nothing (parent_in parents d == m))
          ∙ sym (ap (λ b. cond b (cond (0 == m) 0 x) 0) (under-root (parent_in parents) rules.root smaller m) ∙ twice (0 == m) x)
      step (suc k) ih le =
          let n : ℕ = suc k in
          let p : ℕ = parent_in parents n in
          let less : p < n = smaller n (omega arith) in
          range-same _ (λ d. cond (n == d) (cond (parent_in parents d == m) x 0) 0 + cond (parent_in parents d == m) (cond (under (parent_in parents) p d) x 0) 0) 1 count
          (λ d l h. ap (λ b. cond (parent_in parents d == m) (cond b x 0) 0) (under-parent (parent_in parents) rules.root smaller n d (omega arith))
          ∙ parted (parent_in parents d == m) (n == d) (under (parent_in parents) p d) x (λ e. under-greater (parent_in parents) rules.root smaller p d (omega (arith, less, eqb-true n d e))))
          ∙ sum_by-add (λ d. cond (n == d) (cond (parent_in parents d == m) x 0) 0) (λ d. cond (parent_in parents d == m) (cond (under (parent_in parents) p d) x 0) 0) (range_with_len 1 count)
          ∙ ap₂ (λ a b. a + b) (range-pick (λ d. cond (parent_in parents d == m) x 0) n 1 count (omega arith) (omega arith)) (ih p less (omega arith))
          ∙ joined (p == m) (n == m) (under (parent_in parents) p m) x
          (λ e. ap (λ q. under (parent_in parents) p q) (sym (eqb-true p m e)) ∙ under-self (parent_in parents) rules.root smaller p)
          (λ e. under-greater (parent_in parents) rules.root smaller p m (omega (arith, less, eqb-true n m e)))
          ∙ sym (ap (λ b. cond b (cond (n == m) 0 x) 0) (under-parent (parent_in parents) rules.root smaller n m (omega arith)))

  -- its own value and what is under its children
  own : (values : List ℕ) (m k : ℕ) → cond (m == k) (value_at values k) 0 + cond (under (parent_in parents) k m) (cond (k == m) 0 (value_at values k)) 0 ≡ cond (under (parent_in parents) k m) (value_at values k) 0
  own values m k = elim (cases_eq k m) [
    | inl same ↦
        let a = ap (λ b. cond b (value_at values k) 0) (eq-eqb m k (sym same)) in
        let u = ap (λ q. under (parent_in parents) k q) (sym same) ∙ under-self (parent_in parents) rules.root smaller k in
        let b = ap (λ t. cond t (cond (k == m) 0 (value_at values k)) 0) u ∙ ap (λ t. cond t 0 (value_at values k)) (eq-eqb k m same) in
        let d = ap (λ t. cond t (value_at values k) 0) u in
        omega (arith, a, b, d)
    | inr other ↦
        let a = ap (λ b. cond b (value_at values k) 0) (ne_eqb m k (λ e. other (sym e))) in
        let b = ap (λ t. cond (under (parent_in parents) k m) (cond t 0 (value_at values k)) 0) (ne_eqb k m other) in
        omega (arith, a, b)
  ]

  pub children : (values : List ℕ) (m : ℕ) → m < length values
      → sum_under parents values m ≡ value_at values m + sum_by (λ d. cond (parent_in parents d == m) (sum_under parents values d) 0) (range_with_len 1 (length values - 1))
  children values m lt =
      let all : List ℕ = range_with_len 0 (length values) in
      let each : sum_by (λ d. cond (parent_in parents d == m) (sum_under parents values d) 0) (range_with_len 1 (length values - 1)) ≡ sum_by (λ k. cond (under (parent_in parents) k m) (cond (k == m) 0 (value_at values k)) 0) all =
      sum_by-each _ (λ d. sum_by (λ k. cond (parent_in parents d == m) (cond (under (parent_in parents) k d) (value_at values k) 0) 0) all)
      (λ d. sym (sum_by-cond (parent_in parents d == m) (λ k. cond (under (parent_in parents) k d) (value_at values k) 0) all)) (range_with_len 1 (length values - 1))
      ∙ sum_by-exchange (λ d k. cond (parent_in parents d == m) (cond (under (parent_in parents) k d) (value_at values k) 0) 0) (range_with_len 1 (length values - 1)) all
      ∙ range-same _ _ 0 (length values) (λ k l h. once (length values - 1) m (value_at values k) k (omega arith)) in
      let here : sum_by (λ k. cond (m == k) (value_at values k) 0) all ≡ value_at values m = range-pick (λ k. value_at values k) m 0 (length values) (omega arith) (omega arith) in
      let together = sum_by-add (λ k. cond (m == k) (value_at values k) 0) (λ k. cond (under (parent_in parents) k m) (cond (k == m) 0 (value_at values k)) 0) all in
      let whole = sum_by-each _ (λ k. cond (under (parent_in parents) k m) (value_at values k) 0) (own values m) all in
      sym whole ∙ together ∙ ap₂ (λ a b. a + b) here (sym each)

  pub within : (values : List ℕ) (m : ℕ) → sum_under parents values m ≤ sum values
  within values m =
      let le = range-le (λ k. cond (under (parent_in parents) k m) (value_at values k) 0) (λ k. value_at values k) 0 (length values) (λ k l h. at_most (under (parent_in parents) k m) (value_at values k)) in
      omega (arith, le, sum-places values)
