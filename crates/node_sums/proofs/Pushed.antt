-- The values once all nodes from one on are added to their parents.
use Rattle.std.proofs.Common.{ℕ, zero, suc, ◌≡◌, ◌+◌, ◌-◌, ◌<◌, ◌≤◌, inl, inr, List, length, set, cond, refl, sym, ap, ◌∙◌, arith}
use Rattle.std.specs.Prelude.{◌==◌, sum, sum_by}
use Rattle.std.specs.List.{range_with_len}
use Rattle.std.proofs.lemmas.Bool.{eq-eqb, ne_eqb, cases_eq}
use Rattle.std.proofs.lemmas.List.{get_or-set_same, get_or-set_other, length-set}
use Rattle.node_sums.specs.Sums.{parent_in, value_at, sum_under, AreParents}
use Rattle.node_sums.proofs.RangeSums.{range-front}
use Rattle.node_sums.proofs.Children.{smaller, children, within}

-- what the nodes from one on add to m: the sums under those whose parent it is
abbrev pub pushed_from : List ℕ → List ℕ → ℕ → ℕ → ℕ
pushed_from parents values m a = sum_by (λ d. cond (parent_in parents d == m) (sum_under parents values d) 0) (range_with_len a (length values - a))

-- each node has its value and what the nodes from one on add to it
pub record ArePushed (parents values : List ℕ) (from : ℕ) (now : List ℕ) : Type 0 where
  pub len : length now ≡ length values
  pub value : (m : ℕ) → m < length values → value_at now m ≡ value_at values m + pushed_from parents values m from

pub pushed_none : (parents values : List ℕ) (from : ℕ) → length values ≤ from → ArePushed parents values from values
pushed_none parents values from le = record { len = refl; value = value }
  where
    value : (m : ℕ) → m < length values → value_at values m ≡ value_at values m + pushed_from parents values m from
    value m lt =
        let e : length values - from ≡ 0 = omega arith in
        let none : pushed_from parents values m from ≡ 0 = ap (λ n. sum_by (λ d. cond (parent_in parents d == m) (sum_under parents values d) 0) (range_with_len from n)) e in
        omega (arith, none)

module _ (parents values : List ℕ) (rules : AreParents parents) where
  one_more : (m a : ℕ) → a < length values → pushed_from parents values m a ≡ cond (parent_in parents a == m) (sum_under parents values a) 0 + pushed_from parents values m (a + 1)
  one_more m a lt = range-front (λ d. cond (parent_in parents d == m) (sum_under parents values d) 0) a (length values) lt

  -- no node up to m has m for its parent
  none_before : (m a : ℕ) → 0 < a → a ≤ m → m < length values → pushed_from parents values m a ≡ pushed_from parents values m (a + 1)
  none_before m a pos le lt =
      let first : cond (parent_in parents a == m) (sum_under parents values a) 0 ≡ 0 = ap (λ b. cond b (sum_under parents values a) 0) (ne_eqb (parent_in parents a) m (λ e. omega (arith, e, smaller parents rules a pos))) in
      omega (arith, first, one_more m a (omega arith))

  whole_by : (m gap a : ℕ) → 0 < a → a + gap ≤ m + 1 → m < length values → pushed_from parents values m a ≡ pushed_from parents values m (a + gap)
  whole_by m zero a pos le lt = ap (pushed_from parents values m) (omega arith)
  whole_by m (suc gap) a pos le lt =
      none_before m a pos (omega arith) lt ∙ whole_by m gap (a + 1) (omega arith) (omega arith) lt ∙ ap (pushed_from parents values m) (omega arith)

  -- a node that all behind it are added to has its sum
  pub settled : (m from : ℕ) (now : List ℕ) → 0 < from → from ≤ m + 1 → m < length values → ArePushed parents values from now → value_at now m ≡ sum_under parents values m
  settled m from now pos le lt h =
      let same : pushed_from parents values m 1 ≡ pushed_from parents values m from = whole_by m (from - 1) 1 (omega arith) (omega arith) lt ∙ ap (pushed_from parents values m) (omega arith) in
      omega (arith, h.value m lt, same, children parents rules values m lt)

  part_by : (m gap a : ℕ) → a + gap ≤ length values → pushed_from parents values m (a + gap) ≤ pushed_from parents values m a
  part_by m zero a le = let e : pushed_from parents values m (a + zero) ≡ pushed_from parents values m a = ap (pushed_from parents values m) (omega arith) in omega (arith, e)
  part_by m (suc gap) a le =
      let e : pushed_from parents values m (a + suc gap) ≡ pushed_from parents values m ((a + 1) + gap) = ap (pushed_from parents values m) (omega arith) in
      omega (arith, e, part_by m gap (a + 1) (omega arith), one_more m a (omega arith))

  pub pushed_more : (n : ℕ) (now : List ℕ) → 0 < n → n < length values → ArePushed parents values (n + 1) now
      → ArePushed parents values n (set now (parent_in parents n) (value_at now (parent_in parents n) + value_at now n))
  pushed_more n now pos lt h = record { len = length-set now (parent_in parents n) (value_at now (parent_in parents n) + value_at now n) ∙ h.len; value = value (parent_in parents n) refl }
    where
      value : (p : ℕ) → p ≡ parent_in parents n → (m : ℕ) → m < length values → value_at (set now p (value_at now p + value_at now n)) m ≡ value_at values m + pushed_from parents values m n
      value p is m within = elim (cases_eq m p) [
        | inl same ↦
            let there : value_at (set now p (value_at now p + value_at now n)) m ≡ value_at now p + value_at now n = ap (λ k. value_at (set now p (value_at now p + value_at now n)) k) same ∙ get_or-set_same now p (value_at now p + value_at now n) 0 (omega (arith, h.len)) in
            let first : cond (parent_in parents n == m) (sum_under parents values n) 0 ≡ sum_under parents values n = ap (λ b. cond b (sum_under parents values n) 0) (eq-eqb (parent_in parents n) m (sym (same ∙ is))) in
            let was : value_at now m ≡ value_at now p = ap (value_at now) same in
            omega (arith, there, first, was, settled n (n + 1) now (omega arith) (omega arith) lt h, one_more m n lt, h.value m within)
        | inr other ↦
            let first : cond (parent_in parents n == m) (sum_under parents values n) 0 ≡ 0 = ap (λ b. cond b (sum_under parents values n) 0) (ne_eqb (parent_in parents n) m (λ e. other (sym (is ∙ e)))) in
            omega (arith, get_or-set_other now p m (value_at now p + value_at now n) 0 other, first, one_more m n lt, h.value m within)
      ]

  -- the value that is written is at most the sum of all values
  pub has_room : (n : ℕ) (now : List ℕ) → 0 < n → n < length values → ArePushed parents values (n + 1) now → value_at now (parent_in parents n) + value_at now n ≤ sum values
  has_room n now pos lt h =
      let p : ℕ = parent_in parents n in
      let less = smaller parents rules n pos in
      let is = (pushed_more n now pos lt h).value p (omega (arith, less)) in
      let there = get_or-set_same now p (value_at now p + value_at now n) 0 (omega (arith, h.len, less)) in
      let part = part_by p (n - 1) 1 (omega arith) in
      let e : pushed_from parents values p (1 + (n - 1)) ≡ pushed_from parents values p n = ap (pushed_from parents values p) (omega arith) in
      omega (arith, is, there, part, e, children parents rules values p (omega (arith, less)), within parents rules values p)
