-- What is said of walks, in the words of the contracts.
use Rattle.std.proofs.Common.{ℕ, zero, suc, ◌≡◌, ◌+◌, ◌-◌, ◌^◌, ◌<◌, ◌≤◌, List, length, Bool, true, false, not, ◌&&◌, cond, refl, sym, ap, ◌∙◌, arith}
use Rattle.std.specs.Prelude.{sum_by, sum, ◌==◌, slice_set}
use Rattle.std.specs.List.{range_with_len}
use mathlib.Core.Logic.{⊎_elim}
use Rattle.std.proofs.lemmas.Bool.{cases_lt, cases_eq, eq-eqb, ne_eqb}
use Rattle.std.proofs.lemmas.List.{get_or_past, get_or-set_same, get_or-set_other}
use Rattle.soundness.specs.Accounts.{under}
use Rattle.node_sums.specs.Sums.{parent_in, value_at, AreParents}
use Rattle.path_cover.specs.Covers.{times_above}
use Rattle.path_cover.specs.Kept.{strictly_under}
use Rattle.node_sums.proofs.RangeSums.{sum-places}
use Rattle.std.proofs.lemmas.List.Sums.{sum_by-le-sum_by}
use Rattle.path_cover.proofs.Upward.{strictly-root, share-parent, times-root, times-parent}

-- a parent has a smaller number, also past the last node
pub smaller_parent : (ps : List ℕ) → AreParents ps → (n : ℕ) → 0 < n → parent_in ps n < n
smaller_parent ps are n h = ⊎_elim (are.smaller n h) (λ l. let e : parent_in ps n ≡ 0 = get_or_past ps n 0 l in omega arith) (cases_lt n (length ps))

module _ (ps : List ℕ) (are : AreParents ps) where
  pub above-root : (often : ℕ → ℕ) (nodes : ℕ) → 0 < nodes → times_above ps often nodes 0 ≡ often 0
  unfolding times_above
  above-root often nodes h = times-root (parent_in ps) are.root (smaller_parent ps are) often nodes h

  pub above-none : (often : ℕ → ℕ) (nodes n : ℕ) → n ≤ 0 → 0 < nodes → times_above ps often nodes n ≡ often 0
  above-none often nodes zero l h = above-root often nodes h
  above-none often nodes (suc n) l h = absurd (omega arith)

  pub above-parent : (often : ℕ → ℕ) (nodes n : ℕ) → 0 < n → n < nodes → times_above ps often nodes n ≡ often n + times_above ps often nodes (parent_in ps n)
  unfolding times_above
  above-parent often nodes n h l = times-parent (parent_in ps) are.root (smaller_parent ps are) often nodes n h l

  pub no_ancestor : (n k v : ℕ) → n ≤ 0 → cond (strictly_under ps n k) v 0 ≡ 0
  no_ancestor zero k v h = ap (λ b. cond b v 0) (strictly-root (parent_in ps) are.root (smaller_parent ps are) k)
  no_ancestor (suc n) k v h = absurd (omega arith)

  pub ancestors-parent : (n k v : ℕ) → 0 < n → cond (strictly_under ps n k) v 0 ≡ cond (parent_in ps n == k) v 0 + cond (strictly_under ps (parent_in ps n) k) v 0
  ancestors-parent n k v h = share-parent (parent_in ps) are.root (smaller_parent ps are) n k v h

-- ---- bounds
share_le : (b : Bool) (v : ℕ) → cond b v 0 ≤ v
share_le true v = omega arith
share_le false v = omega arith

pub above-le : (ps covers : List ℕ) (n : ℕ) → times_above ps (value_at covers) (length covers) n ≤ sum covers
unfolding times_above
above-le ps covers n =
    let a : times_above ps (value_at covers) (length covers) n ≤ sum_by (value_at covers) (range_with_len 0 (length covers)) = sum_by-le-sum_by (λ c. cond (under (parent_in ps) n c) (value_at covers c) 0) (value_at covers) (range_with_len 0 (length covers)) (λ c. share_le (under (parent_in ps) n c) (value_at covers c)) in
    omega (arith, a, sym (sum-places covers))

-- a node isn't among its ancestors
pub no_own : (ps : List ℕ) (n v : ℕ) → cond (strictly_under ps n n) v 0 ≡ 0
no_own ps n v = ap (λ b. cond (not b && under (parent_in ps) n n) v 0) (eq-eqb n n refl)

-- ---- one value of a list
pub set_at : (xs : List ℕ) (p k v : ℕ) → p < length xs → cond (p == k) (value_at xs p) 0 + value_at (slice_set xs p v) k ≡ value_at xs k + cond (p == k) v 0
set_at xs p k v l = ⊎_elim
    (λ e.
    let one : cond (p == k) v 0 ≡ v = ap (λ b. cond b v 0) (eq-eqb p k e) in
    let was : cond (p == k) (value_at xs p) 0 ≡ value_at xs p = ap (λ b. cond b (value_at xs p) 0) (eq-eqb p k e) in
    let here : value_at (slice_set xs p v) k ≡ v = ap (value_at (slice_set xs p v)) (sym e) ∙ get_or-set_same xs p v 0 l in
    let same : value_at xs k ≡ value_at xs p = ap (value_at xs) (sym e) in
    omega arith)
    (λ ne.
    let none : cond (p == k) v 0 ≡ 0 = ap (λ b. cond b v 0) (ne_eqb p k ne) in
    let was : cond (p == k) (value_at xs p) 0 ≡ 0 = ap (λ b. cond b (value_at xs p) 0) (ne_eqb p k ne) in
    let here : value_at (slice_set xs p v) k ≡ value_at xs k = get_or-set_other xs p k v 0 (λ e. ne (sym e)) in
    omega arith)
    (cases_eq p k)

cond_add : (b : Bool) (v w : ℕ) → cond b (v + w) 0 ≡ cond b v 0 + cond b w 0
cond_add true v w = refl
cond_add false v w = refl

pub set_more : (xs : List ℕ) (p k v : ℕ) → p < length xs → value_at (slice_set xs p (value_at xs p + v)) k ≡ value_at xs k + cond (p == k) v 0
set_more xs p k v l = let a = set_at xs p k (value_at xs p + v) l in let b = cond_add (p == k) (value_at xs p) v in omega arith

pub set_less : (xs : List ℕ) (p k v : ℕ) → p < length xs → v ≤ value_at xs p → value_at (slice_set xs p (value_at xs p - v)) k + cond (p == k) v 0 ≡ value_at xs k
set_less xs p k v l h =
    let a = set_at xs p k (value_at xs p - v) l in
    let e : value_at xs p ≡ value_at xs p - v + v = omega arith in
    let b : cond (p == k) (value_at xs p) 0 ≡ cond (p == k) (value_at xs p - v) 0 + cond (p == k) v 0 = ap (λ w. cond (p == k) w 0) e ∙ cond_add (p == k) (value_at xs p - v) v in
    omega arith

-- ---- one step up
module _ (ps below old : List ℕ) (n c by : ℕ) (are : AreParents ps) (positive : 0 < n) (inside : n < length ps) (len : length below ≡ length ps) where
  parent_inside : parent_in ps n < length below
  parent_inside = let h = are.smaller n positive inside in omega arith

  at_parent : cond (strictly_under ps n (parent_in ps n)) by 0 ≡ by
  at_parent =
      let a = ancestors-parent ps are n (parent_in ps n) by positive in
      let b = no_own ps (parent_in ps n) by in
      let d : cond (parent_in ps n == parent_in ps n) by 0 ≡ by = ap (λ b. cond b by 0) (eq-eqb (parent_in ps n) (parent_in ps n) refl) in
      omega arith

  module _ (so_far : (k : ℕ) → k < length below → value_at below k + cond (strictly_under ps n k) by 0 ≡ value_at old k + cond (strictly_under ps c k) by 0) where
    pub raise_fits : value_at old (parent_in ps n) + by < 2 ^ 64 → value_at below (parent_in ps n) + by < 2 ^ 64
    raise_fits h = let e = so_far (parent_in ps n) parent_inside in let a = at_parent in let s = share_le (strictly_under ps c (parent_in ps n)) by in omega arith

    pub raise_step : (k : ℕ) → k < length below → value_at (slice_set below (parent_in ps n) (value_at below (parent_in ps n) + by)) k + cond (strictly_under ps (parent_in ps n) k) by 0 ≡ value_at old k + cond (strictly_under ps c k) by 0
    raise_step k l =
        let e = so_far k l in
        let a = ancestors-parent ps are n k by positive in
        let b = set_more below (parent_in ps n) k by parent_inside in
        omega arith

  module _ (so_far : (k : ℕ) → k < length below → value_at below k + cond (strictly_under ps c k) by 0 ≡ value_at old k + cond (strictly_under ps n k) by 0)
      (enough : (k : ℕ) → k < length below → cond (strictly_under ps c k) by 0 ≤ value_at old k) where
    pub lower_fits : by ≤ value_at below (parent_in ps n)
    lower_fits = let e = so_far (parent_in ps n) parent_inside in let a = at_parent in let s = enough (parent_in ps n) parent_inside in omega arith

    pub lower_step : (k : ℕ) → k < length below → value_at (slice_set below (parent_in ps n) (value_at below (parent_in ps n) - by)) k + cond (strictly_under ps c k) by 0 ≡ value_at old k + cond (strictly_under ps (parent_in ps n) k) by 0
    lower_step k l =
        let e = so_far k l in
        let a = ancestors-parent ps are n k by positive in
        let b = set_less below (parent_in ps n) k by parent_inside lower_fits in
        omega arith
