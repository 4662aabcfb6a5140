-- Where the lines of all entries hold, an entry reaches the leaves under its b, and the covers at a leaf tell whether it is tiled.
use Rattle.std.proofs.Common.{ℕ, zero, suc, inl, inr, ◌≡◌, ◌<◌, get_or, Bool, true, false, not, ◌&&◌, ◌||◌, cond, refl, sym, ap, ap₂, ◌∙◌, subst, arith}
use Rattle.std.specs.Prelude.{◌==◌, ◌↔◌, All}
use Rattle.std.specs.List.{range_with_len, count_by}
use Rattle.std.proofs.lemmas.Bool.{lt-ltb, cases_lt, cases_Bool, true≢false}
use Rattle.std.proofs.lemmas.List.{get_or-map, get_or_past, length-map}
use Rattle.std.proofs.lemmas.List.Elements.{All-map}
use Rattle.std.proofs.lemmas.List.Folds.{list_any_at}
use Rattle.std.proofs.lemmas.List.FromFn.{get_or-map-range_with_len, get_or-range_with_len, length-range_with_len, length-map-range_with_len}
use Rattle.letters.specs.declared.Letter.{Letter}
use Rattle.letters.specs.declared.Letter.TheVariants.{U, V, W, X}
use Rattle.node_sums.specs.Sums.{AreParents, value_at, parent_in}
use Rattle.node_sums.proofs.RangeSums.{range-same}
use Rattle.path_cover.specs.Covers.{CoverModel, times_above, times_covered, IsCoveredOnce}
use Rattle.soundness.proofs.Nodes.{strong, under-root, under-parent}
use Rattle.soundness.proofs.Sums.{sum_by-same}
use Rattle.soundness.specs.Accounts.{Accounting, LeafSource, under, under_within, is_leaf, names_parent, reaches, accounts}
use Rattle.soundness.specs.Rules.{IsTiled}
use Rattle.certificate_tiling.specs.Walk.{parents_of, leaves_of, times_over, CoversAt}
use Rattle.certificate_tiling.proofs.Over.{with_node, sum-with_node}

-- b is a leaf in an entry whose b alone is reached
abbrev pub NamesLeaf : Accounting → Letter → ℕ → Type 0
NamesLeaf A U b = is_leaf A b ≡ true
NamesLeaf A V b = Unit {0}
NamesLeaf A W b = is_leaf A b ≡ true
NamesLeaf A X b = Unit {0}

module _ (A : Accounting) (root : A.parent 0 ≡ 0) (parents : (n : ℕ) → 0 < n → A.parent n < n) where
  -- ---- what is under a leaf is the leaf
  no_child : (b d : ℕ) → is_leaf A b ≡ true → 0 < d → d < A.nodes → (A.parent d == b) ≡ false
  no_child b d leaf positive lt = elim (cases_Bool (A.parent d == b)) [
    | inl e ↦ absurd (true≢false (sym leaf ∙ ap not (list_any_at (names_parent A b) (range_with_len 0 A.nodes) d 0 (omega (arith, length-range_with_len 0 A.nodes)) (named e))))
    | inr e ↦ e
  ]
    where
      here : get_or (range_with_len 0 A.nodes) d 0 ≡ d
      here = get_or-range_with_len 0 A.nodes d 0 lt ∙ omega arith

      named : (A.parent d == b) ≡ true → names_parent A b (get_or (range_with_len 0 A.nodes) d 0) ≡ true
      named e = ap (names_parent A b) here ∙ ap₂ (λ x y. x && y) (lt-ltb 0 d positive) e

  pub under-leaf : (b : ℕ) → is_leaf A b ≡ true → (n : ℕ) → n < A.nodes → under A.parent n b ≡ (n == b)
  under-leaf b leaf = strong (λ n. n < A.nodes → under A.parent n b ≡ (n == b)) step
    where
      or_none : (x y : Bool) → y ≡ false → (x || y) ≡ x
      or_none true y e = refl
      or_none false y e = e

      step : (n : ℕ) → ((m : ℕ) → m < n → m < A.nodes → under A.parent m b ≡ (m == b)) → n < A.nodes → under A.parent n b ≡ (n == b)
      step zero ih lt = under-root A.parent root parents b
      step (suc n) ih lt =
          let less = parents (suc n) (omega arith) in
          under-parent A.parent root parents (suc n) b (omega arith)
          ∙ or_none (suc n == b) (under A.parent (A.parent (suc n)) b) (ih (A.parent (suc n)) less (omega arith) ∙ no_child b (suc n) leaf (omega arith) lt)

  pub reaches-is : (letter : Letter) (b n : ℕ) → NamesLeaf A letter b → n < A.nodes → reaches A letter b n ≡ under A.parent n b
  reaches-is U b n leaf lt = sym (under-leaf b leaf n lt)
  reaches-is V b n leaf lt = refl
  reaches-is W b n leaf lt = sym (under-leaf b leaf n lt)
  reaches-is X b n leaf lt = refl

  -- ---- the list of parents
  parent_is : (n : ℕ) → n < A.nodes → parent_in (parents_of A) n ≡ A.parent n
  parent_is n lt = get_or-map-range_with_len A.parent 0 A.nodes n n 0 lt (omega arith)

  pub parent_inside : (n : ℕ) → n < A.nodes → A.parent n < A.nodes
  parent_inside zero lt = omega (arith, root)
  parent_inside (suc n) lt = let less = parents (suc n) (omega arith) in omega arith

  pub are_parents : AreParents (parents_of A)
  are_parents = record { root = first; smaller = λ n positive lt. less n positive (omega (arith, length-map-range_with_len A.parent 0 A.nodes)) }
    where
      first : parent_in (parents_of A) 0 ≡ 0
      first = elim (cases_lt 0 A.nodes) [ inl lt ↦ parent_is 0 lt ∙ root | inr le ↦ get_or_past (parents_of A) 0 0 (omega (arith, length-map-range_with_len A.parent 0 A.nodes)) ]

      less : (n : ℕ) → 0 < n → n < A.nodes → parent_in (parents_of A) n < n
      less n positive lt = omega (arith, parent_is n lt, parents n positive)

  within_same : (steps n c : ℕ) → n < A.nodes → under_within steps (parent_in (parents_of A)) n c ≡ under_within steps A.parent n c
  within_same zero n c lt = refl
  within_same (suc steps) n c lt = ap (λ b. (n == c) || b)
      (ap (λ m. under_within steps (parent_in (parents_of A)) m c) (parent_is n lt) ∙ within_same steps (A.parent n) c (parent_inside n lt))

  pub under-list : (n c : ℕ) → n < A.nodes → under (parent_in (parents_of A)) n c ≡ under A.parent n c
  unfolding under
  under-list n c lt = within_same n n c lt

  -- ---- how often a source is covered at a node
  module _ (fit : All (λ e. NamesLeaf A e.letter e.b) A.entries) (inside : All (λ e. e.c < A.nodes) A.entries) (stand : All (λ x. x.leaf < A.nodes) A.sources) where
    times-are : (m : CoverModel) (n : ℕ) → n < A.nodes → CoversAt A n m → (x : LeafSource) → x.leaf < A.nodes → times_covered m x.leaf ≡ count_by (accounts A n x) A.entries
    unfolding times_above times_over
    times-are m n lt at x x_lt =
        ap₂ (λ ps l. times_above ps (value_at m.covers) l x.leaf) at.parents at.len
        ∙ range-same (λ c. cond (under (parent_in (parents_of A)) x.leaf c) (value_at m.covers c) 0) (λ c. cond (under A.parent x.leaf c) (with_node (λ e. under A.parent n e.b) A.entries c) 0) 0 A.nodes
        (λ c l h. ap₂ (λ b v. cond b v 0) (under-list x.leaf c x_lt) (at.each c))
        ∙ sum-with_node (under A.parent x.leaf) (λ e. under A.parent n e.b) A.nodes A.entries inside
        ∙ sum_by-same (λ e. cond (under A.parent n e.b && under A.parent x.leaf e.c) 1 0) (λ e. cond (accounts A n x e) 1 0) A.entries
        (λ i d h. let e = get_or A.entries i d in ap (λ b. cond (b && under A.parent x.leaf e.c) 1 0) (sym (reaches-is e.letter e.b n (fit i d h) lt)))

    pub once_is_tiled : (m : CoverModel) (n : ℕ) → n < A.nodes → CoversAt A n m → IsCoveredOnce m ↔ IsTiled A n
    once_is_tiled m n lt at = (there, back)
      where
        there : IsCoveredOnce m → IsTiled A n
        there once k d h =
            let x = get_or A.sources k d in
            let listed : All (λ l. times_covered m l ≡ 1) (leaves_of A) = subst (All (λ l. times_covered m l ≡ 1)) at.leaves once in
            sym (times-are m n lt at x (stand k d h)) ∙ subst (λ l. times_covered m l ≡ 1) (get_or-map (λ y. y.leaf) A.sources k d 0 h) (listed k 0 (omega (arith, length-map A.sources (λ y. y.leaf))))

        back : IsTiled A n → IsCoveredOnce m
        back tiled = subst (All (λ l. times_covered m l ≡ 1)) (sym at.leaves)
            (All-map (λ l. times_covered m l ≡ 1) (λ y. y.leaf) A.sources (λ k d h. times-are m n lt at (get_or A.sources k d) (stand k d h) ∙ tiled k d h))
