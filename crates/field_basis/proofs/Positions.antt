-- The positions of the targets of a list, and their leaves.
use Rattle.std.proofs.Common.{ℕ, ◌≡◌, ◌∙◌, ◌+◌, ◌<◌, ◌≤◌, Bool, not, true, false, cond, List, [], ◌∷◌, ◌++◌, length, map, get_or, filter, refl, sym, ap, subst, arith, append-nil}
use Rattle.std.specs.Prelude.{All, Contains, IsTrue}
use Rattle.std.specs.List.{range_with_len}
use Rattle.std.proofs.lemmas.Bool.{not-true}
use Rattle.std.proofs.lemmas.List.{get_or_default}
use Rattle.std.proofs.lemmas.List.Elements.{Contains-get_or}
use Rattle.std.proofs.lemmas.List.Folds.{map_fixed}
use Rattle.std.proofs.lemmas.List.FromFn.{fill_by_all, filter_of_map_range_with_len_more, length-range_with_len}
use Rattle.std.proofs.lemmas.List.Sums.{length-filter, count_by-le-length}
use Rattle.std.proofs.lemmas.Option.{slice_get-get_or}
use Rattle.points.proofs.Slices.{first_point}
use Rattle.points.specs.Points.{is_source}
use Rattle.points.specs.declared.Point.{Point}
use Rattle.quadtree.specs.TreeModel.{TreeModel, IsTreeOf, IsLeafOf, size, square_of, leaf_of}
use Rattle.quadtree.proofs.Distinct.{Contains-filter}
use Rattle.tree_field.specs.Field.{targets}
use Rattle.exact_math.proofs.Lists.{All-from_members, filter-map, range_below}
use Rattle.field_basis.specs.Targets.{no_point, point_at, target_positions}
use Rattle.quadtree.specs.Tree.{has_target}
use Rattle.quadtree.proofs.Occupants.{target_there}

pub points_at : (points : List Point) → points ≡ map (point_at points) (range_with_len 0 (length points))
points_at points = fill_by_all (point_at points) points (length points) no_point refl (λ k lt. refl)

pub targets_at : (points : List Point) → map (point_at points) (target_positions points) ≡ targets points
targets_at points = sym (filter-map (λ p. not (is_source p.kind)) (point_at points) (range_with_len 0 (length points))) ∙ sym (ap (filter (λ p. not (is_source p.kind))) (points_at points))

pub positions_more : (p : ℕ → Bool) (n : ℕ) → filter p (range_with_len 0 (n + 1)) ≡ filter p (range_with_len 0 n) ++ cond (p n) (n ∷ []) []
positions_more p n =
    ap (filter p) (sym (map_fixed (λ k. k) (range_with_len 0 (n + 1)) (λ k d lt. refl)))
    ∙ filter_of_map_range_with_len_more p (λ k. k) 0 n n (omega arith)
    ∙ ap (λ l. filter p l ++ cond (p n) (n ∷ []) []) (map_fixed (λ k. k) (range_with_len 0 n) (λ k d lt. refl))

-- the point at one position more
module _ (points : List Point) (k : ℕ) (lt : k < length points) where
  abbrev found : ℕ → List ℕ
  found n = filter (λ k. not (is_source (point_at points k).kind)) (range_with_len 0 n)

  kind_at : {b : Bool} → is_source (get_or points k first_point).kind ≡ b → is_source (point_at points k).kind ≡ b
  kind_at e = ap (λ p. is_source p.kind) (sym (get_or_default points k first_point no_point lt)) ∙ e

  pub target_added : {was now : List ℕ} → is_source (get_or points k first_point).kind ≡ false → was ≡ found k → now ≡ was ++ k ∷ [] → now ≡ found (k + 1)
  target_added e old new =
      new ∙ ap (λ l. l ++ k ∷ []) old
      ∙ sym (positions_more (λ k. not (is_source (point_at points k).kind)) k ∙ ap (λ (b : Bool). found k ++ cond (not b) (k ∷ []) []) (kind_at e))

  pub source_left : {was now : List ℕ} → is_source (get_or points k first_point).kind ≡ true → was ≡ found k → now ≡ was → now ≡ found (k + 1)
  source_left e old new =
      new ∙ old
      ∙ sym (positions_more (λ k. not (is_source (point_at points k).kind)) k ∙ ap (λ (b : Bool). found k ++ cond (not b) (k ∷ []) []) (kind_at e) ∙ append-nil (found k))

-- the position of a target
pub record IsTargetPosition (points : List Point) (k : ℕ) : Type 0 where
  pub inside : k < length points
  pub is_target : is_source (point_at points k).kind ≡ false

pub position_is : (points : List Point) (k : ℕ) → Contains (target_positions points) k → IsTargetPosition points k
position_is points k h =
    let kept = Contains-filter (λ k. not (is_source (point_at points k).kind)) (range_with_len 0 (length points)) k h in
    record { inside = range_below (length points) k kept.0; is_target = not-true (is_source (point_at points k).kind) kept.1 }

pub positions_are : (points : List Point) → All (IsTargetPosition points) (target_positions points)
positions_are points = All-from_members (IsTargetPosition points) (target_positions points) (position_is points)

pub position_at : (points : List Point) (positions : List ℕ) → positions ≡ target_positions points → (i : ℕ) → i < length positions → IsTargetPosition points (get_or positions i 0)
position_at points positions e i lt = subst (All (IsTargetPosition points)) (sym e) (positions_are points) i 0 lt

pub few_positions : (points : List Point) → length (target_positions points) ≤ length points
few_positions points =
    let p = λ (k : ℕ). not (is_source (point_at points k).kind) in
    omega (arith, length-filter p (range_with_len 0 (length points)), count_by-le-length p (range_with_len 0 (length points)), length-range_with_len 0 (length points))

-- ---- the leaf of a target
pub leaf_at_position : (tree : TreeModel) (points : List Point) (cap : ℕ) → IsTreeOf tree points cap → (k : ℕ) (d : Point) → k < length points → IsLeafOf tree points cap (leaf_of tree k) (get_or points k d)
leaf_at_position tree points cap h k d lt = h.leaves_are k (get_or points k d) (slice_get-get_or points k d lt)

module _ (points : List Point) (cap : ℕ) (tree : TreeModel) (h : IsTreeOf tree points cap) (k : ℕ) (is : IsTargetPosition points k) where
  pub target_has_leaf : IsTrue (has_target points (square_of tree (leaf_of tree k)))
  target_has_leaf = target_there points (square_of tree (leaf_of tree k)) (record {
    point = point_at points k;
    listed = Contains-get_or points k no_point is.inside;
    held = (leaf_at_position tree points cap h k no_point is.inside).held;
    passes = ap not is.is_target;
  })
