-- What the members of a cell weigh together.
use Rattle.std.proofs.Common.{ℕ, ◌≡◌, ◌+◌, ◌≤◌, ◌<◌, ℤ, pos, ◌+ℤ◌, SFits, to_z, of_z, List, [], ◌∷◌, length, get_or, map, take, Bool, true, false, cond, not, filter, refl, sym, ap, ◌∙◌, subst, arith}
use Rattle.std.specs.Int.{w128}
use Rattle.std.specs.Prelude.{Contains, sum_by}
use Rattle.std.specs.List.{range_with_len}
use Rattle.std.proofs.Math.ListN.{set}
use Rattle.std.proofs.lemmas.Bool.{cases_lt}
use Rattle.std.proofs.lemmas.Int.{ints}
use Rattle.std.proofs.lemmas.List.{get_or-set_same, get_or-set_other}
use mathlib.Core.Logic.{⊎_elim}
use Rattle.std.proofs.lemmas.List.Elements.{Contains-get_or}
use Rattle.std.proofs.lemmas.List.Filters.{sum_by-filter_both}
use Rattle.std.proofs.lemmas.List.Sums.{sum_by-cons, sum_by-le-sum_by, sum_by_more_le}
use Rattle.cell_name.specs.Square.{Square}
use Rattle.points.proofs.Slices.{first_point}
use Rattle.points.specs.Points.{is_source}
use Rattle.limits.proofs.Grids.{within_widest}
use Rattle.limits.specs.Limits.{most_weight, widest_grid}
use Rattle.points.specs.Limits.{weight64, total_weight}
use Rattle.points.specs.declared.Point.{Point}
use Rattle.quadtree.proofs.Limits.{in_grid}
use Rattle.quadtree.specs.Members.{holds_position, members_of}
use Rattle.quadtree.specs.TreeModel.{TreeModel, size, square_of, node_of}
use Rattle.quadtree.proofs.Distinct.{Contains-filter}
use Rattle.row_recursions.proofs.Points.{weight-le-weight64, weight-nothing}
use Rattle.tree_field.specs.Field.{weight_in}
use Rattle.exact_math.proofs.Lists.{range_below}
use Rattle.tree_field.proofs.Program.{nodes_of_tree}
use Rattle.soundness.proofs.Sums.{sum_by-map}
use Rattle.tree_field.proofs.CellWeights.{weighs}
use Rattle.field_basis.specs.Trees.{IsTreeOfPoints}
use Rattle.field_basis.specs.Weights.{IsWeight}
use Rattle.quadtree.specs.Tree.{is_source_in}

-- the weight of the point at a position
abbrev pub weighs_at : ℕ → List Point → ℕ → ℕ
weighs_at P points k = weighs P (get_or points k first_point)

pub cell_light : (points : List Point) (P : ℕ) (c : Square) → P ≤ 32 → weight_in points P c ≤ total_weight points
cell_light points P c few =
    let a = sum_by-filter_both (is_source_in c) (λ p. not (is_source_in c p)) (λ p. refl) (weighs P) points in
    let b = sum_by-le-sum_by (weighs P) weight64 points (λ p. weight-le-weight64 P p few) in
    omega (arith, a, b)

sum_of_kept : {X : Type 0} (f : X → ℕ) (p : X → Bool) (xs : List X) → ((x : X) → p x ≡ false → f x ≡ 0) → sum_by f (filter p xs) ≡ sum_by f xs
sum_of_kept f p [] none = refl
sum_of_kept {X} f p (x ∷ xs) none = step (p x) refl (sum_of_kept f p xs none)
  where
    step : (b : Bool) → p x ≡ b → sum_by f (filter p xs) ≡ sum_by f xs → sum_by f (cond b (x ∷ filter p xs) (filter p xs)) ≡ sum_by f (x ∷ xs)
    step true e rest = omega (arith, sum_by-cons f x (filter p xs), sum_by-cons f x xs, rest)
    step false e rest = omega (arith, sum_by-cons f x xs, none x e, rest)

-- ---- sums of weights, as they are computed
pub light_fits : (total w : ℤ) (a b : ℕ) → total ≡ pos a → w ≡ pos b → a + b ≤ most_weight widest_grid → SFits w128 (total +ℤ to_z w128 (of_z w128 w))
light_fits total w a b t e small =
    let i : to_z w128 (of_z w128 w) ≡ pos b = omega (arith, ints, e, small) in
    omega (arith, ints, i, t, small)

pub light_sum : (total w : ℤ) (a b : ℕ) → total ≡ pos a → w ≡ pos b → a + b ≤ most_weight widest_grid → to_z w128 (of_z w128 (total +ℤ to_z w128 (of_z w128 w))) ≡ pos (a + b)
light_sum total w a b t e small =
    let i : to_z w128 (of_z w128 w) ≡ pos b = omega (arith, ints, e, small) in
    omega (arith, ints, i, t, small)

-- ---- a weight is written
pub weight_kept : (w : ℤ) → IsWeight w → to_z w128 (of_z w128 w) ≡ w
weight_kept w h = omega (arith, ints, h.least, h.most)

pub one_more : (p : ℕ → ℤ → Type 0) (weights : List ℤ) (n : ℕ) (w : ℤ) → n < length weights → p n w → ((m : ℕ) → m < n → p m (get_or weights m (pos 0))) → (m : ℕ) → m < n + 1 → p m (get_or (set weights n w) m (pos 0))
one_more p weights n w lt here before m below =
    ⊎_elim (λ less. subst (p m) (sym (get_or-set_other weights n m w (pos 0) (λ e. omega (arith, less, e)))) (before m less))
    (λ ge. let e : n ≡ m = omega (arith, ge, below) in subst (λ j. p j (get_or (set weights n w) j (pos 0))) e (subst (p n) (sym (get_or-set_same weights n w (pos 0) lt)) here))
    (cases_lt m n)

-- ---- the members of a cell
member_inside : (points : List Point) (c : Square) (k : ℕ) → Contains (members_of points c) k → k < length points
member_inside points c k h = range_below (length points) k (Contains-filter (λ j. holds_position c points j) (range_with_len 0 (length points)) k h).0

module _ (points : List Point) (tree : TreeModel) (h : IsTreeOfPoints points tree) (n : ℕ) (lt : n < size tree) where
  pub position_inside : (i : ℕ) → i < length (node_of tree n).members → get_or (node_of tree n).members i 0 < length points
  position_inside i inside =
      member_inside points (square_of tree n) (get_or (node_of tree n).members i 0)
      (subst (λ l. Contains l (get_or (node_of tree n).members i 0)) (h.is_tree.nodes_are n lt).members_are (Contains-get_or (node_of tree n).members i 0 inside))

  pub members_weigh : (P : ℕ) → sum_by (weighs_at P points) (node_of tree n).members ≡ weight_in points P (square_of tree n)
  members_weigh P =
      let inside = in_grid tree.grid points h.within.range in
      sym (sum_by-map (weighs P) (λ k. get_or points k first_point) (node_of tree n).members)
      ∙ sym (sum_of_kept (weighs P) (λ p. is_source p.kind) (map (λ k. get_or points k first_point) (node_of tree n).members) (weight-nothing P))
      ∙ ap (sum_by (weighs P)) ((nodes_of_tree tree points h.cap inside h.is_tree n lt).members first_point)

  -- all points weigh no more than a list of the widest grid may
  pub all_light : total_weight points ≤ most_weight widest_grid
  all_light = let w = (within_widest tree.grid h.is_tree.known_grid).weight in omega (arith, w, h.within.weight)

  -- the members so far and the next one weigh no more than a list may
  pub members_light : (P i : ℕ) → P ≤ 32 → i < length (node_of tree n).members → sum_by (weighs_at P points) (take i (node_of tree n).members) + weighs_at P points (get_or (node_of tree n).members i 0) ≤ most_weight widest_grid
  members_light P i few inside =
      let a = sum_by_more_le (weighs_at P points) (node_of tree n).members i 0 inside in
      omega (arith, a, members_weigh P, cell_light points P (square_of tree n) few, all_light)
