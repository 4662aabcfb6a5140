-- What is under a leaf is in it.
use Rattle.std.proofs.Common.{ℕ, zero, suc, ◌≡◌, ◌<◌, get_or, Bool, true, false, not, ◌&&◌, ◌||◌, ◌==◌, filter, refl, sym, ap, ap₂, ◌∙◌, arith}
use Rattle.std.specs.Prelude.{All}
use Rattle.std.specs.List.{range_with_len, list_any}
use Rattle.std.proofs.lemmas.Bool.{false≢true, eq-eqb, ne_eqb, lt-ltb}
use Rattle.std.proofs.lemmas.List.Folds.{list_any_at}
use Rattle.std.proofs.lemmas.List.FromFn.{length-range_with_len, get_or-range_with_len}
use Rattle.exact_math.specs.Gaussian.{Gaussian}
use Rattle.exact_math.proofs.Lists.{filter_same}
use Rattle.certificate_nodes.specs.AtNodes.{sources_at}
use Rattle.near_field.specs.Pair.{pair_box}
use Rattle.soundness.specs.Accounts.{Accounting, LeafSource, is_leaf, names_parent, sources_under, under}
use Rattle.soundness.specs.Computed.{point_of, total_box}
use Rattle.soundness.proofs.Nodes.{strong, under-root, under-parent}
use Rattle.soundness.proofs.Sums.{total_box-map}

or_nothing : (b : Bool) → (b || false) ≡ b
or_nothing true = refl
or_nothing false = refl

module _ (A : Accounting) (root : A.parent 0 ≡ 0) (parents : (n : ℕ) → 0 < n → A.parent n < n) (c : ℕ) (leaf : is_leaf A c ≡ true) where
  no_child : (d : ℕ) → 0 < d → d < A.nodes → A.parent d ≡ c → ⊥
  no_child d some lt e =
      let numbers = range_with_len 0 A.nodes in
      let same : get_or numbers d d ≡ d = omega (arith, get_or-range_with_len 0 A.nodes d d lt) in
      let named : names_parent A c d ≡ true = ap₂ (λ a b. a && b) (lt-ltb 0 d some) (eq-eqb (A.parent d) c e) in
      let any : list_any (names_parent A c) numbers ≡ true = list_any_at (names_parent A c) numbers d d (omega (arith, lt, length-range_with_len 0 A.nodes)) (ap (names_parent A c) same ∙ named) in
      false≢true (sym (ap not any) ∙ leaf)

  under_leaf : (n : ℕ) → n < A.nodes → under A.parent n c ≡ (n == c)
  under_leaf = strong (λ n. n < A.nodes → under A.parent n c ≡ (n == c)) step
    where
      step : (n : ℕ) → ((m : ℕ) → m < n → m < A.nodes → under A.parent m c ≡ (m == c)) → n < A.nodes → under A.parent n c ≡ (n == c)
      step zero ih lt = under-root A.parent root parents c
      step (suc n) ih lt =
          let less = parents (suc n) (omega arith) in
          under-parent A.parent root parents (suc n) c (omega arith)
          ∙ ap (λ b. (suc n == c) || b) (ih (A.parent (suc n)) less (omega (arith, less, lt)) ∙ ne_eqb _ _ (no_child (suc n) (omega arith) lt))
          ∙ or_nothing (suc n == c)

  -- so its pairs are those with the sources in it
  pub pairs_in_leaf : (z : Gaussian) → All (λ (x : LeafSource). x.leaf < A.nodes) A.sources → total_box (pair_box z) (sources_at A c) ≡ total_box (λ x. pair_box z (point_of x)) (sources_under A c)
  pairs_in_leaf z below =
      total_box-map (pair_box z) point_of (filter (λ (x : LeafSource). x.leaf == c) A.sources)
      ∙ ap (total_box (λ x. pair_box z (point_of x)))
      (sym (filter_same (λ (x : LeafSource). under A.parent x.leaf c) (λ (x : LeafSource). x.leaf == c) A.sources (λ k d lt. under_leaf (get_or A.sources k d).leaf (below k d lt))))
