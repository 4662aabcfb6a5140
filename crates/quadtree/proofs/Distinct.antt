-- Lists of different elements, joined end to end and put in another order.
use Rattle.std.proofs.Common.{ℕ, ◌≡◌, ◌≢◌, ◌<◌, ◌≤◌, zero, suc, List, [], ◌∷◌, ◌++◌, length, get_or, Bool, true, false, cond, filter, Decides, inl, inr, refl, sym, ap, ◌∙◌, subst, arith}
use Rattle.std.specs.Prelude.{All, AllPairs, Contains}
use Rattle.std.specs.List.{flat_map, remove}
use Rattle.std.specs.List.Sorted.{IsPermutation}
use Rattle.std.proofs.lemmas.Bool.{false≢true}
use Rattle.std.proofs.lemmas.List.Elements.{All-append, All-contains, All-contains_itself, All-filter, filter_passes, Contains-append_left, Contains-append_right, Contains-append_cases}
use Rattle.std.proofs.lemmas.List.Kept.{AllPairs-cons}
use Rattle.std.proofs.lemmas.List.Sorted.{IsPermutation-remove, Contains-permutation, length_permutation}
use Rattle.std.proofs.lemmas.Map.Keys.{IsDistinct-IsPermutation}
use Rattle.std.proofs.lemmas.Map.Made.{AllPairs-from_IsDistinct, IsDistinct-from_AllPairs}
use Rattle.exact_math.proofs.Lists.{All-from_members, rest_differ}

AllPairs-head : {X : Type 0} (R : X → X → Type 0) (x : X) (xs : List X) → AllPairs R (x ∷ xs) → All (R x) xs
AllPairs-head R x xs h k d lt = h 0 (suc k) d (omega arith) (omega arith)

pub AllPairs-append : {X : Type 0} (R : X → X → Type 0) (xs ys : List X) → AllPairs R xs → AllPairs R ys → ((x : X) → Contains xs x → All (R x) ys) → AllPairs R (xs ++ ys)
AllPairs-append R [] ys p q across = q
AllPairs-append R (x ∷ xs) ys p q across =
    AllPairs-cons R x (xs ++ ys) (All-append (R x) xs ys (AllPairs-head R x xs p) (across x (0, omega arith, refl)))
    (AllPairs-append R xs ys (rest_differ R x xs p) q (λ y h. across y (suc h.0, omega (arith, h.1), h.2)))

pub Contains-flat_map : {X A : Type 0} (f : X → List A) (xs : List X) (x : X) (a : A) → Contains xs x → Contains (f x) a → Contains (flat_map f xs) a
Contains-flat_map f xs x a h inner = at f xs h.0 x a h.1 h.2 inner
  where
    at : {X A : Type 0} (f : X → List A) (xs : List X) (k : ℕ) (x : X) (a : A) → k < length xs → get_or xs k x ≡ x → Contains (f x) a → Contains (flat_map f xs) a
    at f [] k x a lt e inner = absurd (omega arith)
    at {X} {A} f (y ∷ xs) zero x a lt e inner = let P : X → Type 0 = λ v. Contains (f v) a in Contains-append_left (f y) (flat_map f xs) a (subst P (sym e) inner)
    at f (y ∷ xs) (suc k) x a lt e inner = Contains-append_right (f y) (flat_map f xs) a (at f xs k x a (omega arith) e inner)

-- an element of pieces joined end to end is in the piece of some element
pub record ComesFrom {X A : Type 0} (f : X → List A) (xs : List X) (a : A) : Type 0 where
  pub source : X
  pub listed : Contains xs source
  pub inside : Contains (f source) a

pub comes_from : {X A : Type 0} (f : X → List A) (xs : List X) (a : A) → Contains (flat_map f xs) a → ComesFrom f xs a
comes_from f [] a h = absurd (omega (arith, h.1))
comes_from f (x ∷ xs) a h =
    elim (Contains-append_cases (f x) (flat_map f xs) a h) [
      | inl here ↦ record { source = x; listed = (0, omega arith, refl); inside = here }
      | inr there ↦ let c = comes_from f xs a there in record { source = c.source; listed = (suc c.listed.0, omega (arith, c.listed.1), c.listed.2); inside = c.inside }
    ]

pub All-flat_map : {X A : Type 0} (P : A → Type 0) (f : X → List A) (xs : List X) → ((x : X) → Contains xs x → All P (f x)) → All P (flat_map f xs)
All-flat_map P f [] h = λ k d lt. absurd (omega arith)
All-flat_map P f (x ∷ xs) h = All-append P (f x) (flat_map f xs) (h x (0, omega arith, refl)) (All-flat_map P f xs (λ y c. h y (suc c.0, omega (arith, c.1), c.2)))

-- different elements have pieces of different elements, where the element of a piece tells whose it is
pub different-flat_map : {X A : Type 0} (f : X → List A) (of : A → X) (xs : List X) → AllPairs (λ x y. x ≢ y) xs → ((x : X) → Contains xs x → AllPairs (λ a b. a ≢ b) (f x)) → ((x : X) (a : A) → Contains xs x → Contains (f x) a → of a ≡ x) → AllPairs (λ a b. a ≢ b) (flat_map f xs)
different-flat_map f of [] p each owner = λ i j d lt inside. absurd (omega arith)
different-flat_map {X} {A} f of (x ∷ xs) p each owner =
    AllPairs-append (λ a b. a ≢ b) (f x) (flat_map f xs) (each x (0, omega arith, refl))
    (different-flat_map f of xs (rest_differ (λ x y. x ≢ y) x xs p) (λ y c. each y (suc c.0, omega (arith, c.1), c.2)) (λ y a c h. owner y a (suc c.0, omega (arith, c.1), c.2) h))
    (λ a here. All-from_members (λ b. a ≢ b) (flat_map f xs) (λ b there e.
    let c = comes_from f xs b there in
    let mine : of a ≡ x = owner x a (0, omega arith, refl) here in
    let other : of b ≡ c.source = owner c.source b (suc c.listed.0, omega (arith, c.listed.1), c.listed.2) c.inside in
    let apart : x ≢ get_or xs c.listed.0 c.source = AllPairs-head (λ x y. x ≢ y) x xs p c.listed.0 c.source c.listed.1 in
    apart (sym mine ∙ ap of e ∙ other ∙ sym c.listed.2)))

-- what a filter keeps
pub Contains-filter : {X : Type 0} (p : X → Bool) (xs : List X) (a : X) → Contains (filter p xs) a → Contains xs a × (p a ≡ true)
Contains-filter p xs a h =
    (All-contains (Contains xs) (filter p xs) a (All-filter p (Contains xs) xs (All-contains_itself xs)) h, All-contains (λ x. p x ≡ true) (filter p xs) a (filter_passes p xs) h)

pub Contains-into_filter : {X : Type 0} (p : X → Bool) (xs : List X) (a : X) → Contains xs a → p a ≡ true → Contains (filter p xs) a
Contains-into_filter {X} p xs a h t = at xs h.0 h.1 h.2
  where
    further : (b : Bool) (x : X) (ys : List X) → Contains ys a → Contains (cond b (x ∷ ys) ys) a
    further true x ys h = (suc h.0, omega (arith, h.1), h.2)
    further false x ys h = h

    first : (b : Bool) (x : X) (ys : List X) → b ≡ true → x ≡ a → Contains (cond b (x ∷ ys) ys) a
    first true x ys e f = (0, omega arith, f)
    first false x ys e f = absurd (false≢true e)

    at : (xs : List X) (k : ℕ) → k < length xs → get_or xs k a ≡ a → Contains (filter p xs) a
    at [] k lt e = absurd (omega arith)
    at (x ∷ xs) zero lt e = first (p x) x (filter p xs) (ap p e ∙ t) e
    at (x ∷ xs) (suc k) lt e = further (p x) x (filter p xs) (at xs k (omega arith) e)

-- in another order they are different still
pub different-permutation : {X : Type 0} (same : X → X → Bool) → ((a b : X) → Decides (same a b) (a ≡ b)) → (xs ys : List X) → IsPermutation xs ys → AllPairs (λ a b. a ≢ b) xs → AllPairs (λ a b. a ≢ b) ys
different-permutation same decides xs ys moved p =
    AllPairs-from_IsDistinct decides ys (IsDistinct-IsPermutation same (flips same decides) xs ys moved (IsDistinct-from_AllPairs decides xs p))
  where
    same_bool : (a b : Bool) → (a ≡ true → b ≡ true) → (b ≡ true → a ≡ true) → a ≡ b
    same_bool true b f g = sym (f refl)
    same_bool false true f g = g refl
    same_bool false false f g = refl

    flips : {X : Type 0} (same : X → X → Bool) → ((a b : X) → Decides (same a b) (a ≡ b)) → (a b : X) → same a b ≡ same b a
    flips same decides a b = same_bool (same a b) (same b a) (λ h. (decides b a).1 (sym ((decides a b).0 h))) (λ h. (decides a b).1 (sym ((decides b a).0 h)))

-- different elements of a list are at most as many as it has
pub length-le_from_different : {X : Type 0} (xs ys : List X) → AllPairs (λ a b. a ≢ b) xs → ((x : X) → Contains xs x → Contains ys x) → length xs ≤ length ys
length-le_from_different [] ys p sub = omega arith
length-le_from_different {X} (x ∷ xs) ys p sub =
    let h = sub x (0, omega arith, refl) in
    let rest : List X = remove ys h.0 in
    let moved : IsPermutation ys (x ∷ rest) = IsPermutation-remove ys h.0 x h.1 (sym h.2) in
    let shorter : length (x ∷ rest) ≡ length ys = length_permutation ys (x ∷ rest) moved in
    let apart = AllPairs-head (λ a b. a ≢ b) x xs p in
    let fewer = length-le_from_different xs rest (rest_differ (λ a b. a ≢ b) x xs p)
    (λ a c. other x rest a (λ e. apart c.0 a c.1 (e ∙ sym c.2)) (Contains-permutation ys (x ∷ rest) a moved (sub a (suc c.0, omega (arith, c.1), c.2)))) in
    omega arith
  where
    other : {X : Type 0} (x : X) (zs : List X) (a : X) → x ≢ a → Contains (x ∷ zs) a → Contains zs a
    other x zs a ne (zero, lt, e) = absurd (ne e)
    other x zs a ne (suc n, lt, e) = (n, omega arith, e)
