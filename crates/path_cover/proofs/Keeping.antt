-- What a cover keeps, where no node covers, and where one covers once more or once less.
use Rattle.std.proofs.Common.{ℕ, ◌≡◌, ◌+◌, ◌*◌, ◌^◌, ◌<◌, ◌≤◌, List, ◌++◌, length, take, Bool, true, false, cond, refl, sym, ap, ap₂, subst, subst₂, ◌∙◌, arith}
use Rattle.std.specs.Prelude.{sum_by, sum, replicate}
use Rattle.std.specs.List.{range_with_len}
use Rattle.std.proofs.Math.ListN.{length-set}
use Rattle.std.proofs.Math.Seq.{take-append_seam}
use mathlib.Core.Logic.{⊎_elim}
use Rattle.std.proofs.lemmas.Bool.{cases_lt}
use Rattle.std.proofs.lemmas.List.{get_or_past, get_or-replicate, length-replicate}
use Rattle.std.proofs.lemmas.List.Sums.{sum_by-set}
use Rattle.std.proofs.lemmas.List.Folds.{sum_by-replicate}
use Rattle.node_sums.specs.Sums.{parent_in, value_at, AreParents}
use Rattle.path_cover.specs.Covers.{CoverModel, times_above, times_covered, covered_more, no_covers}
use Rattle.path_cover.specs.Kept.{strictly_under, sources_under, covered_below, total_times, total_squares, IsKept}
use Rattle.path_cover.proofs.Parents.{smaller_parent, no_own, set_more}
use Rattle.path_cover.proofs.Raised.{total-raised, squares-raised, below-raised}
use Rattle.node_sums.proofs.RangeSums.{sum_by-each, sum_by-zero}

-- ---- one more
same_nodes : (m : CoverModel) (c : ℕ) → length (covered_more m c).covers ≡ length m.covers
same_nodes m c = length-set m.covers c (value_at m.covers c + 1)

pub sum-covered_more : (m : CoverModel) (c : ℕ) → c < length m.covers → sum (covered_more m c).covers ≡ sum m.covers + 1
sum-covered_more m c inside = let e = sum_by-set (λ x. x) m.covers c (value_at m.covers c + 1) 0 inside in omega arith

module _ (m : CoverModel) (c : ℕ) (are : AreParents m.parents) (inside : c < length m.covers) where
  pub total-more : total_times (covered_more m c) ≡ total_times m + sources_under m.parents m.leaves c
  unfolding total_times times_above sources_under
  total-more =
      ap (λ n. sum_by (times_above m.parents (value_at (covered_more m c).covers) n) m.leaves) (same_nodes m c)
      ∙ total-raised (parent_in m.parents) are.root (smaller_parent m.parents are) m.leaves (length m.covers) (value_at m.covers) (value_at (covered_more m c).covers) c (λ d. set_more m.covers c d 1 inside) inside

  pub squares-more : total_squares (covered_more m c) ≡ total_squares m + (2 * (sources_under m.parents m.leaves c * times_covered m c + covered_below m.parents m.leaves (value_at m.covers) (length m.covers) c) + sources_under m.parents m.leaves c)
  unfolding total_squares times_above sources_under covered_below
  squares-more =
      ap (λ n. sum_by (λ l. times_above m.parents (value_at (covered_more m c).covers) n l * times_above m.parents (value_at (covered_more m c).covers) n l) m.leaves) (same_nodes m c)
      ∙ squares-raised (parent_in m.parents) are.root (smaller_parent m.parents are) m.leaves (length m.covers) (value_at m.covers) (value_at (covered_more m c).covers) c (λ d. set_more m.covers c d 1 inside) inside

  pub below-more : (n : ℕ) → covered_below m.parents m.leaves (value_at (covered_more m c).covers) (length (covered_more m c).covers) n
      ≡ covered_below m.parents m.leaves (value_at m.covers) (length m.covers) n + cond (strictly_under m.parents c n) (sources_under m.parents m.leaves c) 0
  unfolding sources_under covered_below
  below-more n =
      ap (λ k. covered_below m.parents m.leaves (value_at (covered_more m c).covers) k n) (same_nodes m c)
      ∙ below-raised (parent_in m.parents) are.root (smaller_parent m.parents are) m.leaves (length m.covers) (value_at m.covers) (value_at (covered_more m c).covers) c (λ d. set_more m.covers c d 1 inside) inside n

pub kept-more : (m : CoverModel) (sizes below raised : List ℕ) (total squares c : ℕ) → IsKept m sizes below total squares → c < length m.parents → sum m.covers < 2 ^ 31
    → length raised ≡ length below → ((n : ℕ) → n < length below → value_at raised n ≡ value_at below n + cond (strictly_under m.parents c n) (value_at sizes c) 0)
    → IsKept (covered_more m c) sizes raised (total + value_at sizes c) (squares + (2 * (value_at sizes c * times_covered m c + value_at below c) + value_at sizes c))
kept-more m sizes below raised total squares c kept l room len each = record {
  parents = kept.parents;
  covers_len = same_nodes m c ∙ kept.covers_len;
  sizes_len = kept.sizes_len;
  below_len = len ∙ kept.below_len;
  few = kept.few;
  room = let e = sum-covered_more m c inside in omega arith;
  each_size = kept.each_size;
  each_below = λ n h. let t : n < length below = in_below n h in
      each n t ∙ ap₂ (λ x y. x + y) (kept.each_below n h) (ap (λ v. cond (strictly_under m.parents c n) v 0) (kept.each_size c l)) ∙ sym (below-more m c kept.parents inside n);
  all = ap₂ (λ x y. x + y) kept.all (kept.each_size c l) ∙ sym (total-more m c kept.parents inside);
  all_squares =
      ap₂ (λ x y. x + y) kept.all_squares (ap₂ (λ s b. 2 * (s * times_covered m c + b) + s) (kept.each_size c l) (kept.each_below c l))
      ∙ sym (squares-more m c kept.parents inside);
}
  where
    inside : c < length m.covers
    inside = let e = kept.covers_len in omega arith

    in_below : (n : ℕ) → n < length m.parents → n < length below
    in_below n h = let e = kept.below_len in omega arith

-- ---- one less
module _ (m : CoverModel) (sizes below : List ℕ) (total squares c : ℕ) (kept : IsKept (covered_more m c) sizes below total squares) (inside : c < length m.covers) where
  inside_parents : c < length m.parents
  inside_parents = let e = sym (same_nodes m c) ∙ kept.covers_len in omega arith

  size_is : value_at sizes c ≡ sources_under m.parents m.leaves c
  size_is = kept.each_size c inside_parents

  below_is : (n : ℕ) → n < length m.parents → value_at below n ≡ covered_below m.parents m.leaves (value_at m.covers) (length m.covers) n + cond (strictly_under m.parents c n) (value_at sizes c) 0
  below_is n h = kept.each_below n h ∙ below-more m c kept.parents inside n ∙ ap (λ v. covered_below m.parents m.leaves (value_at m.covers) (length m.covers) n + cond (strictly_under m.parents c n) v 0) (sym size_is)

  own_below_is : value_at below c ≡ covered_below m.parents m.leaves (value_at m.covers) (length m.covers) c
  own_below_is = let b = below_is c inside_parents in let n = no_own m.parents c (value_at sizes c) in omega arith

  total_is : total ≡ total_times m + value_at sizes c
  total_is = kept.all ∙ total-more m c kept.parents inside ∙ ap (λ s. total_times m + s) (sym size_is)

  squares_is : squares ≡ total_squares m + (2 * (value_at sizes c * times_covered m c + value_at below c) + value_at sizes c)
  squares_is = kept.all_squares ∙ squares-more m c kept.parents inside ∙ ap₂ (λ s b. total_squares m + (2 * (s * times_covered m c + b) + s)) (sym size_is) (sym own_below_is)

  -- what the node's sources add is in what is kept
  pub size-below : value_at sizes c ≤ total
  size-below = let e = total_is in omega arith

  pub squares-below : 2 * (value_at sizes c * times_covered m c + value_at below c) + value_at sizes c ≤ squares
  squares-below = part _ _ _ squares_is
    where
      part : (squares old v : ℕ) → squares ≡ old + v → v ≤ squares
      part squares old v e = omega arith

  pub each-below : (n : ℕ) → n < length below → cond (strictly_under m.parents c n) (value_at sizes c) 0 ≤ value_at below n
  each-below n h = let e = below_is n (let l = kept.below_len in omega arith) in omega arith

  pub kept-less : (lowered : List ℕ) (fewer less : ℕ) → length lowered ≡ length below
      → ((n : ℕ) → n < length below → value_at below n ≡ value_at lowered n + cond (strictly_under m.parents c n) (value_at sizes c) 0)
      → total ≡ fewer + value_at sizes c → squares ≡ less + (2 * (value_at sizes c * times_covered m c + value_at below c) + value_at sizes c)
      → IsKept m sizes lowered fewer less
  kept-less lowered fewer less len each total_less squares_less = record {
    parents = kept.parents;
    covers_len = sym (same_nodes m c) ∙ kept.covers_len;
    sizes_len = kept.sizes_len;
    below_len = len ∙ kept.below_len;
    few = kept.few;
    room = let e = sum-covered_more m c inside in let r = kept.room in omega arith;
    each_size = kept.each_size;
    each_below = λ n h. let a = each n (let l = kept.below_len in omega arith) in let b = below_is n h in omega arith;
    all = same _ _ _ _ total_is total_less;
    all_squares = same _ _ _ _ squares_is squares_less;
  }
    where
      same : (whole old less v : ℕ) → whole ≡ old + v → whole ≡ less + v → less ≡ old
      same whole old less v a b = omega arith

-- ---- none
none_at : (n d : ℕ) → value_at (replicate n 0) d ≡ 0
none_at n d = ⊎_elim (λ l. get_or-replicate n d 0 0 l) (λ l. get_or_past (replicate n 0) d 0 (let e : length (replicate {A = ℕ} n 0) ≡ n = length-replicate n 0 in omega arith)) (cases_lt d n)

nothing : (b : Bool) (v : ℕ) → v ≡ 0 → cond b v 0 ≡ 0
nothing true v e = e
nothing false v e = refl

no_product : (v s : ℕ) → v ≡ 0 → v * s ≡ 0
no_product v s e = ap (λ n. n * s) e ∙ none s
  where
    none : (s : ℕ) → 0 * s ≡ 0
    none s = omega arith

module _ (ps leaves : List ℕ) where
  never : (n leaf : ℕ) → times_above ps (value_at (replicate n 0)) n leaf ≡ 0
  unfolding times_above
  never n leaf = sum_by-each _ (λ c. 0) (λ c. nothing _ _ (none_at n c)) (range_with_len 0 n) ∙ sum_by-zero (range_with_len 0 n)

  never_below : (n k c : ℕ) → covered_below ps leaves (value_at (replicate k 0)) n c ≡ 0
  unfolding covered_below
  never_below n k c = sum_by-each _ (λ d. 0) (λ d. nothing _ _ (no_product _ _ (none_at k d))) (range_with_len 0 n) ∙ sum_by-zero (range_with_len 0 n)

  covers_never : (leaf : ℕ) → times_covered (no_covers ps leaves) leaf ≡ 0
  covers_never leaf = ap (λ n. times_above ps (value_at (replicate (length ps) 0)) n leaf) (length-replicate (length ps) 0) ∙ never (length ps) leaf

  no_total : total_times (no_covers ps leaves) ≡ 0
  unfolding total_times
  no_total = sum_by-each _ (λ l. 0) covers_never leaves ∙ sum_by-zero leaves

  no_squares : total_squares (no_covers ps leaves) ≡ 0
  unfolding total_squares
  no_squares = sum_by-each _ (λ l. 0) (λ l. ap (λ n. n * n) (covers_never l)) leaves ∙ sum_by-zero leaves

  pub kept-none : (sizes : List ℕ) → AreParents ps → length leaves < 2 ^ 32 → length sizes ≡ length ps → ((n : ℕ) → n < length ps → value_at sizes n ≡ sources_under ps leaves n)
      → IsKept (no_covers ps leaves) sizes (replicate (length ps) 0) 0 0
  kept-none sizes are few len each = record {
    parents = are;
    covers_len = length-replicate (length ps) 0;
    sizes_len = len;
    below_len = length-replicate (length ps) 0;
    few = few;
    room = let e = sum_by-replicate (λ x. x) (length ps) 0 in omega arith;
    each_size = each;
    each_below = λ n h. none_at (length ps) n ∙ sym (never_below (length (replicate (length ps) 0)) (length ps) n);
    all = sym no_total;
    all_squares = sym no_squares;
  }

-- ---- the same, in other words
pub same_kept : (ps leaves sizes : List ℕ) {covers changed below written : List ℕ} {total new_total squares new_squares : ℕ} → IsKept (record { parents = ps; leaves = leaves; covers = covers }) sizes below total squares
    → covers ≡ changed → below ≡ written → total ≡ new_total → squares ≡ new_squares → IsKept (record { parents = ps; leaves = leaves; covers = changed }) sizes written new_total new_squares
same_kept ps leaves sizes {covers} {changed} {below} {written} {total} {new_total} {squares} {new_squares} kept e f g h =
    subst (λ x. IsKept (record { parents = ps; leaves = leaves; covers = x }) sizes written new_total new_squares) e
    (subst (λ x. IsKept (record { parents = ps; leaves = leaves; covers = covers }) sizes x new_total new_squares) f
    (subst₂ (λ x y. IsKept (record { parents = ps; leaves = leaves; covers = covers }) sizes below x y) g h kept))

-- a vector after its slice was written
pub written_is : (n : ℕ) (xs ys : List ℕ) → length xs ≡ n → xs ≡ take n (xs ++ ys)
written_is n xs ys e = sym (take-append_seam xs ys) ∙ ap (λ k. take k (xs ++ ys)) e
