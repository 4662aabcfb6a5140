-- The points of a cell by their positions.
use Rattle.std.proofs.Common.{ℕ, zero, suc, ◌≡◌, ◌+◌, ◌<◌, ◌≤◌, List, [], ◌∷◌, ◌++◌, length, get_or, take, drop, map, filter, Bool, true, false, cond, ◌&&◌, refl, sym, ap, ap₂, ◌∙◌, subst, arith, append_assoc, append-nil, length-append}
use Rattle.std.specs.Prelude.{Some, Contains, All, sum_by}
use Rattle.std.specs.List.{range_with_len}
use Rattle.std.proofs.lemmas.List.{map-append, take_more, take-append-drop, get_or-map, length-map}
use Rattle.std.proofs.lemmas.List.Elements.{filter-append, All-filter, All-take, Contains-get_or}
use Rattle.std.proofs.lemmas.List.Sums.{sum_by-append}
use Rattle.std.proofs.lemmas.Option.{slice_get-get_or, slice_get_within, get_or_from_slice_get}
use Rattle.cell_name.specs.Square.{Square, holds_test}
use Rattle.points.proofs.Slices.{first_point}
use Rattle.points.specs.Points.{is_source}
use Rattle.points.specs.declared.Point.{Point}
use Rattle.points.specs.Limits.{weight64, total_weight}
use Rattle.quadtree.specs.Members.{holds_point, holds_position, members_of}
use Rattle.quadtree.proofs.PointKinds.{member_point}
use Rattle.tree_field.specs.Field.{sources_in}
use Rattle.exact_math.proofs.Lists.{filter-filter, filter_same}
use Rattle.tree_field.proofs.CellSources.{IsHeld, sum_by-filter}
use Rattle.quadtree.specs.Tree.{is_source_in}

abbrev pub points_at : List Point → List ℕ → List Point
points_at points order = map (λ k. get_or points k first_point) order

abbrev pub source_test : Point → Bool
source_test p = is_source p.kind

-- the sources among the points at some positions
abbrev pub sources_at : List Point → List ℕ → List Point
sources_at points order = filter source_test (points_at points order)

abbrev pub points_in : List Point → Square → List Point
points_in points c = filter (λ p. holds_test c p.x p.y) points

-- ---- all members
at_front : (front : List Point) (x d : Point) (xs : List Point) → get_or (front ++ x ∷ xs) (length front) d ≡ x
at_front [] x d xs = refl
at_front (y ∷ front) x d xs = at_front front x d xs

one_step : (f : ℕ → Point) (b v : Bool) (x : ℕ) (y : Point) (rest : List ℕ) (others : List Point) → b ≡ v → f x ≡ y → map f rest ≡ others → map f (cond b (x ∷ rest) rest) ≡ cond v (y ∷ others) others
one_step f true v x y rest others e h r = ap₂ (λ u l. u ∷ l) h r ∙ ap (λ t. cond t (y ∷ others) others) e
one_step f false v x y rest others e h r = r ∙ ap (λ t. cond t (y ∷ others) others) e

from_front : (c : Square) (front points : List Point) → map (λ k. get_or (front ++ points) k first_point) (filter (λ k. holds_position c (front ++ points) k) (range_with_len (length front) (length points))) ≡ points_in points c
from_front c front [] = refl
from_front c front (p ∷ ps) =
    let all : List Point = front ++ p ∷ ps in
    let shift : (front ++ p ∷ []) ++ ps ≡ all = append_assoc front (p ∷ []) ps in
    let long : length (front ++ p ∷ []) ≡ length front + 1 = omega (arith, length-append front (p ∷ [])) in
    let P : List Point → Type 0 = λ xs. map (λ k. get_or xs k first_point) (filter (λ k. holds_position c xs k) (range_with_len (length (front ++ p ∷ [])) (length ps))) ≡ points_in ps c in
    let Q : ℕ → Type 0 = λ n. map (λ k. get_or all k first_point) (filter (λ k. holds_position c all k) (range_with_len n (length ps))) ≡ points_in ps c in
    let rest = subst Q long (subst P shift (from_front c (front ++ p ∷ []) ps)) in
    let inside : length front < length all = omega (arith, length-append front (p ∷ ps)) in
    let here : holds_position c all (length front) ≡ holds_test c p.x p.y = ap (holds_point c) (slice_get-get_or all (length front) p inside ∙ ap Some (at_front front p p ps)) in
    one_step (λ k. get_or all k first_point) (holds_position c all (length front)) (holds_test c p.x p.y) (length front) p (filter (λ k. holds_position c all k) (range_with_len (length front + 1) (length ps))) (points_in ps c) here (at_front front p first_point ps) rest

pub points_at-members : (points : List Point) (c : Square) → points_at points (members_of points c) ≡ points_in points c
points_at-members points c = from_front c [] points

and_swap : (a b : Bool) → a && b ≡ b && a
and_swap true true = refl
and_swap true false = refl
and_swap false true = refl
and_swap false false = refl

pub sources_among : (points : List Point) (c : Square) → filter source_test (points_in points c) ≡ sources_in points c
sources_among points c =
    filter-filter source_test (λ p. holds_test c p.x p.y) points
    ∙ filter_same (λ p. holds_test c p.x p.y && source_test p) (is_source_in c) points (λ k d lt. and_swap (holds_test c (get_or points k d).x (get_or points k d).y) (source_test (get_or points k d)))

pub sources_at-members : (points : List Point) (c : Square) → sources_at points (members_of points c) ≡ sources_in points c
sources_at-members points c = ap (filter source_test) (points_at-members points c) ∙ sources_among points c

-- ---- weights
pub sum_by-take : (f : Point → ℕ) (points : List Point) (order : List ℕ) (i : ℕ) → sum_by f (points_at points (take i order)) ≤ sum_by f (points_at points order)
sum_by-take f points order i =
    let at : ℕ → Point = λ k. get_or points k first_point in
    let e : map at order ≡ map at (take i order) ++ map at (drop i order) = ap (map at) (sym (take-append-drop i order)) ∙ map-append at (take i order) (drop i order) in
    omega (arith, ap (sum_by f) e, sum_by-append f (map at (take i order)) (map at (drop i order)))

pub weight_so_far : (points : List Point) (c : Square) (order : List ℕ) (i : ℕ) → order ≡ members_of points c → sum_by weight64 (sources_at points (take i order)) ≤ total_weight points
weight_so_far points c order i e =
    let a = sum_by-filter weight64 source_test (points_at points (take i order)) in
    let b = sum_by-take weight64 points order i in
    let d = ap (λ l. sum_by weight64 (points_at points l)) e ∙ ap (sum_by weight64) (points_at-members points c) in
    let f = sum_by-filter weight64 (λ p. holds_test c p.x p.y) points in
    omega arith

-- ---- one position more
pub sources_more : (points : List Point) (order : List ℕ) (i : ℕ) (p : Point) → i < length order → p ≡ get_or points (get_or order i 0) first_point → sources_at points (take (i + 1) order) ≡ sources_at points (take i order) ++ cond (source_test p) (p ∷ []) []
sources_more points order i p lt e =
    let at : ℕ → Point = λ k. get_or points k first_point in
    ap (sources_at points) (take_more order i 0 lt)
    ∙ ap (filter source_test) (map-append at (take i order) (get_or order i 0 ∷ []))
    ∙ filter-append source_test (map at (take i order)) (at (get_or order i 0) ∷ [])
    ∙ ap (λ q. sources_at points (take i order) ++ cond (source_test q) (q ∷ []) []) (sym e)

pub more_yes : (points : List Point) (order : List ℕ) (i : ℕ) (p : Point) → i < length order → p ≡ get_or points (get_or order i 0) first_point → source_test p ≡ true → sources_at points (take (i + 1) order) ≡ sources_at points (take i order) ++ p ∷ []
more_yes points order i p lt e t = sources_more points order i p lt e ∙ ap (λ b. sources_at points (take i order) ++ cond b (p ∷ []) []) t

pub more_no : (points : List Point) (order : List ℕ) (i : ℕ) (p : Point) → i < length order → p ≡ get_or points (get_or order i 0) first_point → source_test p ≡ false → sources_at points (take (i + 1) order) ≡ sources_at points (take i order)
more_no points order i p lt e t = sources_more points order i p lt e ∙ ap (λ b. sources_at points (take i order) ++ cond b (p ∷ []) []) t ∙ append-nil (sources_at points (take i order))

-- ---- a member is the position of a point that the cell holds
pub record IsMemberAt (points : List Point) (c : Square) (k : ℕ) : Type 0 where
  pub inside : k < length points
  pub held : IsHeld c (get_or points k first_point)

pub member_at : (points : List Point) (c : Square) (order : List ℕ) (i : ℕ) → order ≡ members_of points c → i < length order → IsMemberAt points c (get_or order i 0)
member_at points c order i e lt =
    let k : ℕ = get_or order i 0 in
    let h : Contains (members_of points c) k = subst (λ l. Contains l k) e (Contains-get_or order i 0 lt) in
    let m = member_point points c k h in
    record {
      inside = slice_get_within points k m.0 m.1.point_is;
      held = subst (IsHeld c) (sym (get_or_from_slice_get points k m.0 first_point m.1.point_is)) m.1.held;
    }

all_map : (f : ℕ → Point) (P : Point → Type 0) (xs : List ℕ) → ((i : ℕ) → i < length xs → P (f (get_or xs i 0))) → All P (map f xs)
all_map f P xs h i d lt = let l : i < length xs = omega (arith, length-map xs f) in subst P (sym (get_or-map f xs i 0 d l)) (h i l)

pub held_so_far : (points : List Point) (c : Square) (order : List ℕ) (i : ℕ) → order ≡ members_of points c → All (IsHeld c) (sources_at points (take i order))
held_so_far points c order i e =
    All-filter source_test (IsHeld c) (points_at points (take i order))
    (subst (All (IsHeld c)) (cut order i) (All-take (IsHeld c) i (points_at points order) (all_map (λ k. get_or points k first_point) (IsHeld c) order (λ j lt. (member_at points c order j e lt).held))))
  where
    cut : (order : List ℕ) (i : ℕ) → take i (points_at points order) ≡ points_at points (take i order)
    cut order zero = refl
    cut [] (suc i) = refl
    cut (k ∷ order) (suc i) = ap (λ l. get_or points k first_point ∷ l) (cut order i)
