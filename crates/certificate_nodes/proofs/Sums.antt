-- Sums over the nodes under each node, of what items weigh in the nodes that they stand in.
use Rattle.std.proofs.Common.{ℕ, zero, suc, ◌+◌, ◌≡◌, ◌<◌, ◌≤◌, ◌==◌, ◌||◌, Bool, true, false, not, cond, List, [], ◌∷◌, ◌++◌, length, get_or, map, filter, take, sum, refl, sym, ap, ◌∙◌, subst, arith}
use Rattle.std.specs.Prelude.{All, sum_by}
use Rattle.std.specs.List.{range_with_len}
use Rattle.std.proofs.lemmas.List.{take_all, take-append-le}
use Rattle.std.proofs.lemmas.List.Filters.{sum_by-filter_both}
use Rattle.std.proofs.lemmas.List.FromFn.{length-map-range_with_len, get_or-map-range_with_len, fill_by_all}
use Rattle.std.proofs.lemmas.List.Sums.{sum_by-cons, sum_by-le-sum_by, sum_by_more_le}
use Rattle.exact_math.proofs.Lists.{filter_whole}
use Rattle.exact_math.specs.Sizes.{weight_at}
use Rattle.limits.specs.Limits.{most_weight, widest_grid}
use Rattle.node_sums.proofs.ByLeaves.{by_leaves}
use Rattle.node_sums.proofs.RangeSums.{range-same, sum-places}
use Rattle.node_sums.specs.ByLeaves.{HoldWeights}
use Rattle.node_sums.specs.Sums.{parent_in, value_at, sum_under}
use Rattle.points.proofs.Slices.{first_point}
use Rattle.points.specs.Limits.{weight64, total_weight}
use Rattle.points.specs.Points.{pole, dipole}
use Rattle.points.specs.declared.Point.{Point}
use Rattle.row_recursions.proofs.Points.{weight-le-weight64}
use Rattle.soundness.specs.Accounts.{under, under_within}
use Rattle.certificate_nodes.specs.UnderNodes.{points_weight, sums_under}

-- ---- as they are computed
pub summed : (parents vs old values : List ℕ) (n : ℕ) (rest : List ℕ) → old ≡ values → n ≡ length old → length vs ≡ length old → ((k : ℕ) → k < length old → value_at vs k ≡ sum_under parents old k)
    → take n (vs ++ rest) ≡ sums_under parents values
summed parents vs old values n rest e m len sums =
    take-append-le n vs rest (omega (arith, m, len)) ∙ take_all n vs (omega (arith, m, len)) ∙ fill_by_all (sum_under parents old) vs (length old) 0 len sums ∙ ap (sums_under parents) e

pub light_so_far : (order : ℕ) (points : List Point) (k : ℕ) → order ≤ 32 → total_weight points ≤ most_weight widest_grid → k < length points
    → points_weight order (take k points) + weight_at order (pole (get_or points k first_point).kind) (dipole (get_or points k first_point).kind) ≤ most_weight widest_grid
light_so_far order points k few light lt =
    let weighs : Point → ℕ = λ p. weight_at order (pole p.kind) (dipole p.kind) in
    let so_far = sum_by_more_le weighs points k first_point lt in
    let each = sum_by-le-sum_by weighs weight64 points (λ p. weight-le-weight64 order p few) in
    omega (arith, so_far, each, light)

-- ---- what a filter keeps is no heavier
pub sum_by-kept : {X : Type 0} (p : X → Bool) (f : X → ℕ) (xs : List X) → sum_by f (filter p xs) ≤ sum_by f xs
sum_by-kept p f xs = omega (arith, sum_by-filter_both p (λ x. not (p x)) (λ x. refl) f xs)

-- how many there are
pub count_is : {X : Type 0} (xs : List X) → sum_by (λ (x : X). 1) xs ≡ length xs
count_is [] = refl
count_is {X} (x ∷ xs) = let one : X → ℕ = λ x. 1 in omega (arith, sum_by-cons one x xs, count_is xs)

-- ---- where no node but the root has children, all are under the root
root_within : (n : ℕ) → under_within n (parent_in []) 0 0 ≡ true
root_within zero = refl
root_within (suc n) = refl

under_root : (n : ℕ) → under (parent_in []) n 0 ≡ true
unfolding under
under_root zero = refl
under_root (suc n) = ap (λ b. (suc n == 0) || b) (root_within n) ∙ either (suc n == 0)
  where
    either : (b : Bool) → (b || true) ≡ true
    either true = refl
    either false = refl

-- ---- items in nodes
module _ {X : Type 0} (leaf weight : X → ℕ) (items : List X) (own : ℕ → ℕ) (count : ℕ) (held : (k : ℕ) → k < count → own k ≡ sum_by weight (filter (λ x. leaf x == k) items)) (inside : All (λ x. leaf x < count) items) where
  abbrev pub values : List ℕ
  values = map own (range_with_len 0 count)

  len : length values ≡ count
  len = length-map-range_with_len own 0 count

  hold : HoldWeights leaf weight items values
  hold k lt = let below : k < count = omega (arith, lt, len) in get_or-map-range_with_len own 0 count k k 0 below (omega arith) ∙ held k below

  pub sum_under_is : (parents : List ℕ) (n : ℕ) → sum_under parents values n ≡ sum_by weight (filter (λ x. under (parent_in parents) (leaf x) n) items)
  sum_under_is parents n = by_leaves X leaf weight items parents values n (subst (λ m. All (λ x. leaf x < m) items) (sym len) inside) hold

  pub sum_is : sum values ≡ sum_by weight items
  sum_is =
      sum-places values
      ∙ range-same (λ k. value_at values k) (λ k. cond (under (parent_in []) k 0) (value_at values k) 0) 0 (length values) (λ k le lt. ap (λ b. cond b (value_at values k) 0) (sym (under_root k)))
      ∙ sum_under_is [] 0
      ∙ ap (sum_by weight) (filter_whole (λ x. under (parent_in []) (leaf x) 0) items (λ k d lt. under_root (leaf (get_or items k d))))

  -- and so under each node
  pub sums_are : (parents : List ℕ) (f : ℕ → ℕ) → ((n : ℕ) → n < count → sum_by weight (filter (λ x. under (parent_in parents) (leaf x) n) items) ≡ f n) → sums_under parents values ≡ map f (range_with_len 0 count)
  sums_are parents f each =
      fill_by_all f (sums_under parents values) count 0 (length-map-range_with_len (sum_under parents values) 0 (length values) ∙ len)
      (λ n lt. get_or-map-range_with_len (sum_under parents values) 0 (length values) n n 0 (omega (arith, lt, len)) (omega arith) ∙ sum_under_is parents n ∙ each n lt)
