-- The positions of a cell's points among all positions, and among those of a cell that contains it.
use Rattle.std.proofs.Common.{ℕ, ◌≡◌, ◌+◌, ◌<◌, ◌≤◌, arith, refl, sym, ap, ◌∙◌, subst, Bool, true, false, cond, List, [], ◌∷◌, ◌++◌, length, get_or, append_assoc, length-append}
use Rattle.std.specs.Prelude.{Some, None, Option, slice_get, filter, count_by}
use Rattle.std.specs.List.{range_with_len}
use Rattle.std.proofs.lemmas.Bool.{false≢true}
use Rattle.std.proofs.lemmas.List.Sums.{sum_by-cons, length-filter}
use Rattle.std.proofs.lemmas.Option.{slice_get-get_or}
use Rattle.points.specs.declared.Point.{Point}
use Rattle.cell_name.specs.Square.{Square, holds_test, parent}
use Rattle.cell_name.proofs.Cells.{Holds-parent}
use Rattle.quadtree.specs.Members.{holds_point, holds_position, members_among, members_of}
use Rattle.quadtree.specs.Tree.{count_in}
use Rattle.cell_name.proofs.HoldsTest.{Holds-from_test, test-from_Holds}

-- one step of the next lemma, by what the two tests say
filter_step : {A : Type 0} (p q : A → Bool) (x : A) (xs : List A) → filter p (filter q xs) ≡ filter p xs → (p x ≡ true → q x ≡ true) → (a b : Bool) → q x ≡ a → p x ≡ b → filter p (cond a (x ∷ filter q xs) (filter q xs)) ≡ cond b (x ∷ filter p xs) (filter p xs)
filter_step p q x xs ih h true b e f = ap (λ v. cond v (x ∷ filter p (filter q xs)) (filter p (filter q xs))) f ∙ ap (λ ys. cond b (x ∷ ys) ys) ih
filter_step p q x xs ih h false false e f = ih
filter_step p q x xs ih h false true e f = absurd (false≢true (sym e ∙ h f))

-- what passes the narrower of two tests passes the wider first
pub filter-filter : {A : Type 0} (p q : A → Bool) → ((x : A) → p x ≡ true → q x ≡ true) → (xs : List A) → filter p (filter q xs) ≡ filter p xs
filter-filter p q h [] = refl
filter-filter p q h (x ∷ xs) = filter_step p q x xs (filter-filter p q h xs) (h x) (q x) (p x) refl refl

-- the element behind a front
at_front : {A : Type 0} (front : List A) (x : A) (xs : List A) → get_or (front ++ x ∷ xs) (length front) x ≡ x
at_front [] x xs = refl
at_front (y ∷ front) x xs = at_front front x xs

-- as many positions from `start` on as points
count_from : (c : Square) (front points : List Point) → count_by (λ k. holds_position c (front ++ points) k) (range_with_len (length front) (length points)) ≡ count_in points c
count_from c front [] = refl
count_from c front (p ∷ ps) =
    let all : List Point = front ++ p ∷ ps in
    let test : ℕ → Bool = λ k. holds_position c all k in
    let shift : (front ++ p ∷ []) ++ ps ≡ all = append_assoc front (p ∷ []) ps in
    let long : length (front ++ p ∷ []) ≡ length front + 1 = omega (arith, length-append front (p ∷ [])) in
    let P : List Point → Type 0 = λ xs. count_by (λ k. holds_position c xs k) (range_with_len (length (front ++ p ∷ [])) (length ps)) ≡ count_in ps c in
    let Q : ℕ → Type 0 = λ n. count_by test (range_with_len n (length ps)) ≡ count_in ps c in
    let rest : count_by test (range_with_len (length front + 1) (length ps)) ≡ count_in ps c = subst Q long (subst P shift (count_from c (front ++ p ∷ []) ps)) in
    let inside : length front < length all = omega (arith, length-append front (p ∷ ps)) in
    let here : test (length front) ≡ holds_test c p.x p.y = ap (holds_point c) (slice_get-get_or all (length front) p inside ∙ ap Some (at_front front p ps)) in
    let one : cond {A = ℕ} (test (length front)) 1 0 ≡ cond (holds_test c p.x p.y) 1 0 = ap (λ (b : Bool). cond {A = ℕ} b 1 0) here in
    rw (sum_by-cons (λ k. cond (test k) 1 0) (length front) (range_with_len (length front + 1) (length ps)), sum_by-cons (λ (q : Point). cond (holds_test c q.x q.y) 1 0) p ps) (omega (arith, one, rest))

-- a cell has as many points as positions
pub length-members : (points : List Point) (c : Square) → length (members_of points c) ≡ count_in points c
length-members points c = length-filter (λ k. holds_position c points k) (range_with_len 0 (length points)) ∙ count_from c [] points

narrower : (c : Square) → 0 < c.level → c.level ≤ c.grid → (o : Option Point) → holds_point c o ≡ true → holds_point (parent c) o ≡ true
narrower c lo hi (Some p) e = test-from_Holds (parent c) p.x p.y (Holds-parent c p.x p.y lo hi (Holds-from_test c p.x p.y e))
narrower c lo hi None e = e

-- a child's members are found among its parent's: what a split of the parent's positions gives
pub members-parent : (points : List Point) (c : Square) (order : List ℕ) → 0 < c.level → c.level ≤ c.grid → members_among points c (members_among points (parent c) order) ≡ members_among points c order
members-parent points c order lo hi =
    filter-filter (λ k. holds_position c points k) (λ k. holds_position (parent c) points k) (λ k e. narrower c lo hi (slice_get points k) e) order
