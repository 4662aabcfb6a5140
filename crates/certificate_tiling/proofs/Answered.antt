-- On the way to a node, and one answer more.
use Rattle.std.proofs.Common.{ℕ, inl, inr, ◌≡◌, ◌≢◌, ◌+◌, ◌*◌, ◌<◌, ◌≤◌, List, length, get_or, Bool, true, false, sym, ap, ◌∙◌, subst, arith, get_or-set_other, get_or-set_same, replicate}
use Rattle.std.specs.Prelude.{sum, sum_by, ◌↔◌, All, slice_set}
use Rattle.std.specs.List.{range_with_len}
use Rattle.std.proofs.lemmas.Bool.{cases_eq, cases_lt}
use Rattle.std.proofs.Math.ListN.{length-replicate}
use Rattle.std.proofs.lemmas.List.{get_or-replicate, get_or_past}
use Rattle.std.proofs.lemmas.List.Folds.{sum_by-replicate}
use Rattle.std.proofs.lemmas.List.FromFn.{length-map-range_with_len}
use Rattle.node_sums.specs.Sums.{value_at}
use Rattle.node_sums.proofs.RangeSums.{range-le, sum-places}
use Rattle.path_cover.specs.Covers.{CoverModel, no_covers}
use Rattle.soundness.proofs.Sums.{sum_by-add}
use Rattle.soundness.specs.Accounts.{Accounting}
use Rattle.soundness.specs.Rules.{IsTiled}
use Rattle.certificate_tiling.specs.Walk.{parents_of, leaves_of, times_over, CoversMore, CoversAt, CoversBetween, Tells}
use Rattle.certificate_tiling.proofs.Over.{times_on, over-parent, over-sum, over-root}

module _ (A : Accounting) where
  -- ---- on the way
  pub way-start : (from to : ℕ) (m : CoverModel) → CoversAt A from m → CoversBetween A to from to m
  way-start from to m at = record {
    covers = record { parents = at.parents; leaves = at.leaves; len = at.len; each = λ k. omega (arith, at.each k) };
    within = λ k. omega arith;
  }

  pub way-end : (to n : ℕ) (m : CoverModel) → CoversBetween A to n n m → CoversAt A to m
  way-end to n m way = record { parents = way.covers.parents; leaves = way.covers.leaves; len = way.covers.len; each = λ k. omega (arith, way.covers.each k) }

  pub way-room : (to from next : ℕ) (m : CoverModel) → All (λ e. e.c < A.nodes) A.entries → CoversBetween A to from next m → sum m.covers ≤ 2 * length A.entries
  way-room to from next m inside way =
      let places = range_with_len 0 A.nodes in
      let all : sum m.covers ≡ sum_by (value_at m.covers) places = sum-places m.covers ∙ ap (λ n. sum_by (value_at m.covers) (range_with_len 0 n)) way.covers.len in
      omega (
        arith,
        all,
        range-le (value_at m.covers) (λ k. times_over A to k + times_over A from k) 0 A.nodes (λ k l h. omega (arith, way.covers.each k)),
        sum_by-add (times_over A to) (times_over A from) places,
        over-sum A to inside,
        over-sum A from inside,
      )

  -- ---- at node 0
  none_at : (n k : ℕ) → value_at (replicate n 0) k ≡ 0
  none_at n k = elim (cases_lt k n) [ inl lt ↦ get_or-replicate n k 0 0 lt | inr le ↦ get_or_past (replicate n 0) k 0 (omega (arith, length-replicate {A = ℕ} n 0)) ]

  pub none-sum : (n : ℕ) → sum (replicate n 0) ≡ 0
  none-sum n = omega (arith, sum_by-replicate (λ x. x) n 0)

  pub at-root : (root : A.parent 0 ≡ 0) (parents : (n : ℕ) → 0 < n → A.parent n < n) (m : CoverModel) → CoversMore (no_covers (parents_of A) (leaves_of A)) m (times_on A 0) → CoversAt A 0 m
  at-root root parents m more = record {
    parents = more.parents;
    leaves = more.leaves;
    len = more.len ∙ length-replicate {A = ℕ} (length (parents_of A)) 0 ∙ length-map-range_with_len A.parent 0 A.nodes;
    each = λ k. omega (arith, more.each k, none_at (length (parents_of A)) k, over-root A root parents k);
  }

  module _ (root : A.parent 0 ≡ 0) (parents : (n : ℕ) → 0 < n → A.parent n < n) where
    pub way-enough : (to from next : ℕ) (m : CoverModel) → 0 < from → CoversBetween A to from next m → (k : ℕ) → times_on A from k ≤ value_at m.covers k
    way-enough to from next m positive way k = omega (arith, way.covers.each k, way.within k, over-parent A root parents from k positive)

    pub way-left : (to from next : ℕ) (m new : CoverModel) → 0 < from → CoversBetween A to from next m → CoversMore new m (times_on A from) → CoversBetween A to (A.parent from) next new
    way-left to from next m new positive way less = record {
      covers = record {
        parents = sym less.parents ∙ way.covers.parents;
        leaves = sym less.leaves ∙ way.covers.leaves;
        len = sym less.len ∙ way.covers.len;
        each = λ k. omega (arith, way.covers.each k, way.within k, less.each k, over-parent A root parents from k positive);
      };
      within = way.within;
    }

    pub way-entered : (to from next : ℕ) (m new : CoverModel) → 0 < next → CoversBetween A to from next m → CoversMore m new (times_on A next) → CoversBetween A to from (A.parent next) new
    way-entered to from next m new positive way more = record {
      covers = record {
        parents = more.parents ∙ way.covers.parents;
        leaves = more.leaves ∙ way.covers.leaves;
        len = more.len ∙ way.covers.len;
        each = λ k. omega (arith, way.covers.each k, way.within k, more.each k, over-parent A root parents next k positive);
      };
      within = λ k. omega (arith, way.within k, over-parent A root parents next k positive);
    }

  -- ---- one answer more
  pub told-more : (tiled : List Bool) (ns : List ℕ) (i n : ℕ) (answer : Bool) → n < length tiled → get_or ns i 0 ≡ n → (answer ≡ true ↔ IsTiled A n) → ((k : ℕ) → k < i → Tells A tiled (get_or ns k 0))
      → (k : ℕ) → k < i + 1 → Tells A (slice_set tiled n answer) (get_or ns k 0)
  told-more tiled ns i n answer inside is tells before k lt = elim (cases_eq (get_or ns k 0) n) [
    | inl e ↦ subst (Tells A (slice_set tiled n answer)) (sym e) (subst (λ b. b ≡ true ↔ IsTiled A n) (sym (get_or-set_same tiled n answer false inside)) tells)
    | inr ne ↦ subst (λ b. b ≡ true ↔ IsTiled A (get_or ns k 0)) (sym (get_or-set_other tiled n (get_or ns k 0) answer false ne)) (before k (earlier ne))
  ]
    where
      earlier : (get_or ns k 0 ≢ n) → k < i
      earlier ne = elim (cases_lt k i) [ inl less ↦ less | inr le ↦ absurd (ne (ap (λ j. get_or ns j 0) (omega arith) ∙ is)) ]
