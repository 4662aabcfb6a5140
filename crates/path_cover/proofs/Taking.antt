-- Where a node covers once less: what was read of it, and what was kept before.
use Rattle.std.proofs.Common.{ℕ, zero, suc, ◌≡◌, ◌+◌, ◌-◌, ◌<◌, ◌≤◌, List, [], ◌∷◌, length, get_or, refl, sym, ap, subst, ◌∙◌, arith}
use Rattle.std.specs.Prelude.{slice_set}
use Rattle.std.proofs.Math.ListN.{set, length-set}
use mathlib.Core.Logic.{⊎_elim}
use Rattle.std.proofs.lemmas.Bool.{cases_lt}
use Rattle.std.proofs.lemmas.List.{get_or_past, get_or_read, get_or-set_same, set-get_or}
use Rattle.node_sums.specs.Sums.{value_at}
use Rattle.path_cover.specs.Covers.{covered_more}
use Rattle.path_cover.specs.Kept.{IsKept}

set_twice : (xs : List ℕ) (c v w : ℕ) → set (set xs c v) c w ≡ set xs c w
set_twice [] c v w = refl
set_twice (x ∷ xs) zero v w = refl
set_twice (x ∷ xs) (suc c) v w = ap (λ l. x ∷ l) (set_twice xs c v w)

listed : (xs : List ℕ) (c : ℕ) → 0 < value_at xs c → c < length xs
listed xs c h = ⊎_elim (λ l. l) (λ l. absurd (let e = get_or_past xs c 0 l in omega arith)) (cases_lt c (length xs))

-- once less, and once more again
set_back : (xs : List ℕ) (c cover : ℕ) → cover ≡ value_at xs c → 0 < value_at xs c → slice_set (slice_set xs c (cover - 1)) c (value_at (slice_set xs c (cover - 1)) c + 1) ≡ xs
set_back xs c cover e h =
    let here : value_at (set xs c (cover - 1)) c ≡ cover - 1 = get_or-set_same xs c (cover - 1) 0 (listed xs c h) in
    let again : value_at (set xs c (cover - 1)) c + 1 ≡ value_at xs c = omega arith in
    set_twice xs c _ _ ∙ ap (set xs c) again ∙ set-get_or xs c 0

pub taken_back : (a b d : ℕ) → b ≡ d → d ≤ a → a ≡ (a - b) + d
taken_back a b d e h = omega arith

-- a node with its cover, its size and what stands below it, as they were read
pub record Taking (ps leaves covers sizes below : List ℕ) (total squares c cover size beneath : ℕ) : Type 0 where
  pub size_is : size ≡ value_at sizes c
  pub below_is : beneath ≡ value_at below c
  pub back : slice_set (slice_set covers c (cover - 1)) c (value_at (slice_set covers c (cover - 1)) c + 1) ≡ covers
  pub inside : c < length (slice_set covers c (cover - 1))
  pub before : IsKept (covered_more (record { parents = ps; leaves = leaves; covers = slice_set covers c (cover - 1) }) c) sizes below total squares

pub taking : (ps leaves covers sizes below : List ℕ) (total squares c cover size beneath : ℕ) → IsKept (record { parents = ps; leaves = leaves; covers = covers }) sizes below total squares → 0 < value_at covers c
    → cover ≡ get_or covers c cover → size ≡ get_or sizes c size → beneath ≡ get_or below c beneath → Taking ps leaves covers sizes below total squares c cover size beneath
taking ps leaves covers sizes below total squares c cover size beneath kept positive cover_read size_read below_read = record {
  size_is = get_or_read sizes c size (let e = kept.sizes_len in let f = kept.covers_len in omega (arith, node)) size_read 0;
  below_is = get_or_read below c beneath (let e = kept.below_len in let f = kept.covers_len in omega (arith, node)) below_read 0;
  back = returned;
  inside = let e = length-set covers c (cover - 1) in omega (arith, node);
  before = subst (λ xs. IsKept (record { parents = ps; leaves = leaves; covers = xs }) sizes below total squares) (sym returned) kept;
}
  where
    node : c < length covers
    node = listed covers c positive

    returned : slice_set (slice_set covers c (cover - 1)) c (value_at (slice_set covers c (cover - 1)) c + 1) ≡ covers
    returned = set_back covers c cover (get_or_read covers c cover node cover_read 0) positive
