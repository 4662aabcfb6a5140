-- Sums over two lists, over what a filter keeps, and with one term that counts.
use Rattle.std.proofs.Common.{ℕ, zero, suc, ◌≡◌, ◌≢◌, ◌+◌, List, [], ◌∷◌, Bool, true, false, cond, filter, refl, sym, ap, ap₂, ◌∙◌, arith}
use Rattle.std.specs.Prelude.{All, AllPairs, Contains, sum_by}
use Rattle.std.proofs.lemmas.List.Elements.{All-tail}
use Rattle.std.proofs.lemmas.List.Sums.{sum_by-cons}
use Rattle.exact_math.proofs.Lists.{All-from_members, later, first_differs, rest_differ}
use Rattle.soundness.proofs.Sums.{sum_by-add, sum_by-same}

sum_by-zero : {A : Type 0} (f : A → ℕ) (xs : List A) → All (λ x. f x ≡ 0) xs → sum_by f xs ≡ 0
sum_by-zero f [] h = refl
sum_by-zero f (x ∷ xs) h = sum_by-cons f x xs ∙ ap₂ (λ m n. m + n) (h 0 x (omega arith)) (sum_by-zero f xs (All-tail (λ x. f x ≡ 0) x xs h))

pub sum_by-exchange : {A B : Type 0} (f : A → B → ℕ) (xs : List A) (ys : List B) → sum_by (λ a. sum_by (f a) ys) xs ≡ sum_by (λ b. sum_by (λ a. f a b) xs) ys
sum_by-exchange f [] ys = sym (sum_by-zero (λ b. 0) ys (λ k d lt. refl))
sum_by-exchange f (x ∷ xs) ys =
    sum_by-cons (λ a. sum_by (f a) ys) x xs
    ∙ ap (λ n. sum_by (f x) ys + n) (sum_by-exchange f xs ys)
    ∙ sym (sum_by-add (f x) (λ b. sum_by (λ a. f a b) xs) ys)
    ∙ sum_by-same (λ b. f x b + sum_by (λ a. f a b) xs) (λ b. sum_by (λ a. f a b) (x ∷ xs)) ys (λ k d lt. sym (sum_by-cons (λ a. f a _) x xs))

pub sum_by-filter : {A : Type 0} (p : A → Bool) (f : A → ℕ) (xs : List A) → sum_by f (filter p xs) ≡ sum_by (λ x. cond (p x) (f x) 0) xs
sum_by-filter p f [] = refl
sum_by-filter {A} p f (x ∷ xs) = step (p x) (filter p xs) (sum_by-filter p f xs) ∙ sym (sum_by-cons (λ y. cond (p y) (f y) 0) x xs)
  where
    step : (b : Bool) (kept : List A) {n : ℕ} → sum_by f kept ≡ n → sum_by f (cond b (x ∷ kept) kept) ≡ cond b (f x) 0 + n
    step true kept e = sum_by-cons f x kept ∙ ap (λ m. f x + m) e
    step false kept e = omega (arith, e)

-- the list has x once, and no other member counts
pub sum_by-one : {A : Type 0} (f : A → ℕ) (xs : List A) (x : A) → AllPairs (λ a b. a ≢ b) xs → Contains xs x → ((y : A) → Contains xs y → y ≢ x → f y ≡ 0) → sum_by f xs ≡ f x
sum_by-one f [] x apart h none = absurd (omega (arith, h.1))
sum_by-one f (y ∷ ys) x apart (zero, lt, e) none =
    let rest = sum_by-zero f ys (All-from_members (λ z. f z ≡ 0) ys (λ z m. none z (later y z ys m) (λ same. first_differs y z ys apart m (e ∙ sym same)))) in
    omega (arith, sum_by-cons f y ys, rest, ap f e)
sum_by-one f (y ∷ ys) x apart (suc k, lt, e) none =
    let first = none y (0, omega arith, refl) (first_differs y x ys apart (k, omega arith, e)) in
    omega (arith, sum_by-cons f y ys, first, sum_by-one f ys x (rest_differ (λ a b. a ≢ b) y ys apart) (k, omega arith, e) (λ z m. none z (later y z ys m)))
