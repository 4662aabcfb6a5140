-- How many entries are over a node, with a node for their c.
use Rattle.std.proofs.Common.{ℕ, inl, inr, ◌≡◌, ◌+◌, ◌<◌, ◌≤◌, List, length, get_or, Bool, true, false, ◌&&◌, cond, refl, sym, ap, ap₂, ◌∙◌, arith}
use Rattle.std.specs.Prelude.{sum_by, ◌==◌, All}
use Rattle.std.specs.List.{range_with_len, count_by}
use Rattle.std.proofs.lemmas.Bool.{eq-eqb, ne_eqb, cases_eq}
use Rattle.std.proofs.lemmas.List.Sums.{count_by-le-length}
use Rattle.letters.specs.declared.Entry.{Entry}
use Rattle.node_sums.proofs.RangeSums.{sum_by-each, sum_by-exchange, sum_by-cond, range-pick}
use Rattle.path_cover.proofs.Upward.{strictly-parent, share-strictly}
use Rattle.soundness.proofs.Nodes.{under-root}
use Rattle.soundness.proofs.Sums.{sum_by-add, sum_by-same}
use Rattle.soundness.specs.Accounts.{Accounting, under}
use Rattle.certificate_tiling.specs.Walk.{times_over}

-- ---- tests in counts
pub and_cond : (a b : Bool) → ◌≡◌ {A = ℕ} (cond (a && b) 1 0) (cond a (cond b 1 0) 0)
and_cond true b = refl
and_cond false b = refl

eq_turn : (a b : ℕ) → (a == b) ≡ (b == a)
eq_turn a b = elim (cases_eq a b) [ inl e ↦ eq-eqb a b e ∙ sym (eq-eqb b a (sym e)) | inr ne ↦ ne_eqb a b ne ∙ sym (ne_eqb b a (λ e. ne (sym e))) ]

-- how many entries pass a test with a node for their c
abbrev pub with_node : (Entry → Bool) → List Entry → ℕ → ℕ
with_node p es k = count_by (λ e. p e && (e.c == k)) es

abbrev one : (ℕ → Bool) → (Entry → Bool) → ℕ → Entry → ℕ
one t p k e = cond (t k) (cond (p e && (e.c == k)) 1 0) 0

-- these counts, over all nodes that pass another test
pub sum-with_node : (t : ℕ → Bool) (p : Entry → Bool) (n : ℕ) (es : List Entry) → All (λ e. e.c < n) es → sum_by (λ k. cond (t k) (with_node p es k) 0) (range_with_len 0 n) ≡ count_by (λ e. p e && t e.c) es
sum-with_node t p n es inside =
    sum_by-each (λ k. cond (t k) (with_node p es k) 0) (λ k. sum_by (one t p k) es) (λ k. sym (sum_by-cond (t k) (λ e. cond (p e && (e.c == k)) 1 0) es)) (range_with_len 0 n)
    ∙ sum_by-exchange (one t p) (range_with_len 0 n) es
    ∙ sum_by-same (λ e. sum_by (λ k. one t p k e) (range_with_len 0 n)) (λ e. cond (p e && t e.c) 1 0) es (λ i d lt. of_entry (get_or es i d) (inside i d lt))
  where
    turned : (a b c : Bool) → ◌≡◌ {A = ℕ} (cond a (cond (b && c) 1 0) 0) (cond c (cond (b && a) 1 0) 0)
    turned true true true = refl
    turned true true false = refl
    turned true false true = refl
    turned true false false = refl
    turned false true true = refl
    turned false true false = refl
    turned false false true = refl
    turned false false false = refl

    of_entry : (e : Entry) → e.c < n → sum_by (λ k. one t p k e) (range_with_len 0 n) ≡ cond (p e && t e.c) 1 0
    of_entry e lt = sum_by-each (λ k. one t p k e) (λ k. cond (e.c == k) (cond (p e && t k) 1 0) 0) (λ k. turned (t k) (p e) (e.c == k)) (range_with_len 0 n)
        ∙ range-pick (λ k. cond (p e && t k) 1 0) e.c 0 n (omega arith) (omega arith)

module _ (A : Accounting) where
  -- the entries on a node
  abbrev pub times_on : ℕ → ℕ → ℕ
  times_on n k = with_node (λ e. e.b == n) A.entries k

  pub over-sum : (n : ℕ) → All (λ e. e.c < A.nodes) A.entries → sum_by (times_over A n) (range_with_len 0 A.nodes) ≤ length A.entries
  unfolding times_over
  over-sum n inside =
      let all = sum-with_node (λ k. true) (λ e. under A.parent n e.b) A.nodes A.entries inside in
      omega (arith, all, count_by-le-length (λ e. under A.parent n e.b && true) A.entries)

  module _ (root : A.parent 0 ≡ 0) (parents : (n : ℕ) → 0 < n → A.parent n < n) where
    -- those over a node are those on it and those over its parent
    pub over-parent : (n k : ℕ) → 0 < n → times_over A n k ≡ times_on n k + times_over A (A.parent n) k
    unfolding times_over
    over-parent n k positive =
        sum_by-each (λ e. cond (under A.parent n e.b && (e.c == k)) 1 0) (λ e. cond ((e.b == n) && (e.c == k)) 1 0 + cond (under A.parent (A.parent n) e.b && (e.c == k)) 1 0) of_entry A.entries
        ∙ sum_by-add (λ e. cond ((e.b == n) && (e.c == k)) 1 0) (λ e. cond (under A.parent (A.parent n) e.b && (e.c == k)) 1 0) A.entries
      where
        of_entry : (e : Entry) → cond (under A.parent n e.b && (e.c == k)) 1 0 ≡ cond ((e.b == n) && (e.c == k)) 1 0 + cond (under A.parent (A.parent n) e.b && (e.c == k)) 1 0
        of_entry e =
            let v : ℕ = cond (e.c == k) 1 0 in
            and_cond (under A.parent n e.b) (e.c == k)
            ∙ share-strictly A.parent root parents n e.b v
            ∙ ap₂ (λ x y. x + y) (ap (λ b. cond b v 0) (eq_turn n e.b) ∙ sym (and_cond (e.b == n) (e.c == k)))
            (ap (λ b. cond b v 0) (strictly-parent A.parent root parents n e.b positive) ∙ sym (and_cond (under A.parent (A.parent n) e.b) (e.c == k)))

    -- those over node 0 are those on it
    pub over-root : (k : ℕ) → times_over A 0 k ≡ times_on 0 k
    unfolding times_over
    over-root k = sum_by-each (λ e. cond (under A.parent 0 e.b && (e.c == k)) 1 0) (λ e. cond ((e.b == 0) && (e.c == k)) 1 0)
        (λ e. ap (λ b. cond (b && (e.c == k)) 1 0) (under-root A.parent root parents e.b ∙ eq_turn 0 e.b)) A.entries
