-- Members of lists, of their images and of what filters keep.
use Rattle.std.proofs.Common.{ℕ, ◌≡◌, ◌≢◌, ◌<◌, zero, suc, List, [], ◌∷◌, get_or, map, Bool, true, false, cond, ◌&&◌, filter, refl, sym, ap, ◌∙◌, subst, arith}
use Rattle.std.specs.Prelude.{All, AllPairs, Contains}
use Rattle.std.specs.List.{range_with_len}
use Rattle.std.proofs.lemmas.List.{get_or-map, length-map}
use Rattle.std.proofs.lemmas.List.Elements.{All-tail, Contains-get_or}
use Rattle.std.proofs.lemmas.List.FromFn.{length-range_with_len, get_or-range_with_len}

pub All-from_members : {X : Type 0} (P : X → Type 0) (xs : List X) → ((x : X) → Contains xs x → P x) → All P xs
All-from_members P xs h k d lt = h (get_or xs k d) (Contains-get_or xs k d lt)

pub later : {X : Type 0} (x y : X) (xs : List X) → Contains xs y → Contains (x ∷ xs) y
later x y xs h = (suc h.0, omega (arith, h.1), h.2)

-- ---- images
pub Contains-into_map : {A B : Type 0} (f : A → B) (xs : List A) (x : A) → Contains xs x → Contains (map f xs) (f x)
Contains-into_map f xs x h = (h.0, omega (arith, h.1, length-map xs f), get_or-map f xs h.0 x (f x) h.1 ∙ ap f h.2)

-- a member of the images is the image of a member
pub record IsImage {A B : Type 0} (f : A → B) (xs : List A) (b : B) : Type 0 where
  pub source : A
  pub listed : Contains xs source
  pub gives : f source ≡ b

pub image_of : {A B : Type 0} (f : A → B) (xs : List A) (b : B) → Contains (map f xs) b → IsImage f xs b
image_of f [] b h = absurd (omega (arith, h.1))
image_of f (x ∷ xs) b (zero, lt, e) = record { source = x; listed = (0, omega arith, refl); gives = e }
image_of f (x ∷ xs) b (suc k, lt, e) = let c = image_of f xs b (k, omega arith, e) in record { source = c.source; listed = later x c.source xs c.listed; gives = c.gives }

pub AllPairs-map : {A B : Type 0} (R : B → B → Type 0) (f : A → B) (xs : List A) → AllPairs (λ a b. R (f a) (f b)) xs → AllPairs R (map f xs)
AllPairs-map R f [] h i j d lt inside = absurd (omega arith)
AllPairs-map {A} {B} R f (x ∷ xs) h i j d lt inside =
    let n = length-map (x ∷ xs) f in
    let P : B → Type 0 = λ b. R b (get_or (map f (x ∷ xs)) j d) in
    let Q : B → Type 0 = λ b. R (f (get_or (x ∷ xs) i x)) b in
    subst P (sym (get_or-map f (x ∷ xs) i x d (omega arith))) (subst Q (sym (get_or-map f (x ∷ xs) j x d (omega arith))) (h i j x lt (omega arith)))

-- a relation of members that follows from another
pub AllPairs-both : {X : Type 0} (P : X → Type 0) (R S : X → X → Type 0) (xs : List X) → All P xs → AllPairs R xs → ((a b : X) → P a → P b → R a b → S a b) → AllPairs S xs
AllPairs-both P R S xs each up w i j d lt inside = w (get_or xs i d) (get_or xs j d) (each i d (omega arith)) (each j d inside) (up i j d lt inside)

pub first_differs : {X : Type 0} (x y : X) (xs : List X) → AllPairs (λ a b. a ≢ b) (x ∷ xs) → Contains xs y → x ≢ y
first_differs x y xs apart h e = apart 0 (suc h.0) y (omega arith) (omega (arith, h.1)) (e ∙ sym h.2)

pub rest_differ : {X : Type 0} (R : X → X → Type 0) (x : X) (xs : List X) → AllPairs R (x ∷ xs) → AllPairs R xs
rest_differ R x xs h i j d lt inside = h (suc i) (suc j) d (omega arith) (omega arith)

-- ---- a range
pub Contains-range : (n d : ℕ) → d < n → Contains (range_with_len 0 n) d
Contains-range n d lt = (d, omega (arith, length-range_with_len 0 n), omega (arith, get_or-range_with_len 0 n d d lt))

pub range_below : (n d : ℕ) → Contains (range_with_len 0 n) d → d < n
range_below n d h = let l : h.0 < n = omega (arith, h.1, length-range_with_len 0 n) in omega (arith, h.2, get_or-range_with_len 0 n h.0 d l)

-- numbers of a range, in their order
pub AllPairs-range : (n : ℕ) → AllPairs (λ a b. (a < b) × (b < n)) (range_with_len 0 n)
AllPairs-range n i j d lt inside =
    let l : j < n = omega (arith, length-range_with_len 0 n) in
    (omega (arith, lt, get_or-range_with_len 0 n i d (omega arith), get_or-range_with_len 0 n j d l), omega (arith, get_or-range_with_len 0 n j d l))

-- ---- filters
pub filter-map : {A B : Type 0} (p : B → Bool) (f : A → B) (xs : List A) → filter p (map f xs) ≡ map f (filter (λ x. p (f x)) xs)
filter-map p f [] = refl
filter-map {A} {B} p f (x ∷ xs) = step (p (f x)) (filter p (map f xs)) (filter (λ x. p (f x)) xs) (filter-map p f xs)
  where
    step : (b : Bool) (u : List B) (v : List A) → u ≡ map f v → cond b (f x ∷ u) u ≡ map f (cond b (x ∷ v) v)
    step true u v e = ap (λ l. f x ∷ l) e
    step false u v e = e

pub filter-filter : {X : Type 0} (p q : X → Bool) (xs : List X) → filter p (filter q xs) ≡ filter (λ x. q x && p x) xs
filter-filter p q [] = refl
filter-filter {X} p q (x ∷ xs) = step (q x) (filter q xs) (filter (λ x. q x && p x) xs) (filter-filter p q xs)
  where
    step : (b : Bool) (u v : List X) → filter p u ≡ v → filter p (cond b (x ∷ u) u) ≡ cond (b && p x) (x ∷ v) v
    step true u v e = ap (λ l. cond (p x) (x ∷ l) l) e
    step false u v e = e

pub filter_same : {X : Type 0} (p q : X → Bool) (xs : List X) → All (λ x. p x ≡ q x) xs → filter p xs ≡ filter q xs
filter_same p q [] h = refl
filter_same p q (x ∷ xs) h = ap (λ b. cond b (x ∷ filter p xs) (filter p xs)) (h 0 x (omega arith)) ∙ ap (λ l. cond (q x) (x ∷ l) l) (filter_same p q xs (All-tail (λ x. p x ≡ q x) x xs h))

pub filter_none : {X : Type 0} (p : X → Bool) (xs : List X) → All (λ x. p x ≡ false) xs → filter p xs ≡ []
filter_none p [] h = refl
filter_none p (x ∷ xs) h = ap (λ b. cond b (x ∷ filter p xs) (filter p xs)) (h 0 x (omega arith)) ∙ filter_none p xs (All-tail (λ x. p x ≡ false) x xs h)

pub filter_whole : {X : Type 0} (p : X → Bool) (xs : List X) → All (λ x. p x ≡ true) xs → filter p xs ≡ xs
filter_whole p [] h = refl
filter_whole p (x ∷ xs) h = ap (λ b. cond b (x ∷ filter p xs) (filter p xs)) (h 0 x (omega arith)) ∙ ap (λ l. x ∷ l) (filter_whole p xs (All-tail (λ x. p x ≡ true) x xs h))
