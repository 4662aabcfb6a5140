-- Sums over numbers in a row, and over two lists.
use Rattle.std.proofs.Common.{ℕ, zero, suc, ◌≡◌, ◌≢◌, ◌+◌, ◌-◌, ◌<◌, ◌≤◌, inl, inr, List, [], ◌∷◌, length, get_or, Bool, true, false, cond, filter, refl, sym, ap, ap₂, ◌∙◌, arith}
use Rattle.std.specs.Prelude.{◌==◌, sum, sum_by}
use Rattle.std.specs.List.{range_with_len}
use Rattle.std.proofs.lemmas.Bool.{eq-eqb, ne_eqb, cases_eq}
use Rattle.std.proofs.lemmas.List.FromFn.{fill_by_all}
use Rattle.std.proofs.lemmas.List.Sums.{sum_by-cons, sum-map}
use Rattle.soundness.proofs.Sums.{sum_by-add, sum_by-same}

pub sum_by-zero : {A : Type 0} (xs : List A) → sum_by (λ (x : A). 0) xs ≡ 0
sum_by-zero [] = refl
sum_by-zero {A} (x ∷ xs) = omega (arith, sum_by-cons (λ (y : A). 0) x xs, sum_by-zero xs)

pub sum_by-each : {A : Type 0} (f g : A → ℕ) → ((x : A) → f x ≡ g x) → (xs : List A) → sum_by f xs ≡ sum_by g xs
sum_by-each f g same xs = sum_by-same f g xs (λ k d lt. same (get_or xs k d))

-- a double sum, either list first
pub sum_by-exchange : {A B : Type 0} (f : A → B → ℕ) (xs : List A) (ys : List B) → sum_by (λ a. sum_by (f a) ys) xs ≡ sum_by (λ b. sum_by (λ a. f a b) xs) ys
sum_by-exchange f [] ys = sym (sum_by-zero ys)
sum_by-exchange f (x ∷ xs) ys =
    sum_by-cons (λ a. sum_by (f a) ys) x xs
    ∙ ap (λ n. sum_by (f x) ys + n) (sum_by-exchange f xs ys)
    ∙ sym (sum_by-add (f x) (λ b. sum_by (λ a. f a b) xs) ys)
    ∙ sum_by-each (λ b. f x b + sum_by (λ a. f a b) xs) (λ b. sum_by (λ a. f a b) (x ∷ xs)) (λ b. sym (sum_by-cons (λ a. f a b) x xs)) ys

pub sum_by-filter : {A : Type 0} (p : A → Bool) (f : A → ℕ) (xs : List A) → sum_by f (filter p xs) ≡ sum_by (λ x. cond (p x) (f x) 0) xs
sum_by-filter p f [] = refl
sum_by-filter {A} p f (x ∷ xs) = step (p x) (filter p xs) (sum_by-filter p f xs) ∙ sym (sum_by-cons (λ y. cond (p y) (f y) 0) x xs)
  where
    step : (b : Bool) (kept : List A) {n : ℕ} → sum_by f kept ≡ n → sum_by f (cond b (x ∷ kept) kept) ≡ cond b (f x) 0 + n
    step true kept e = sum_by-cons f x kept ∙ ap (λ m. f x + m) e
    step false kept e = omega (arith, e)

-- a test that all terms share
pub sum_by-cond : {A : Type 0} (b : Bool) (f : A → ℕ) (xs : List A) → sum_by (λ x. cond b (f x) 0) xs ≡ cond b (sum_by f xs) 0
sum_by-cond true f xs = refl
sum_by-cond false f xs = sum_by-zero xs

-- ---- over numbers in a row
pub range-same : (f g : ℕ → ℕ) (a n : ℕ) → ((k : ℕ) → a ≤ k → k < a + n → f k ≡ g k) → sum_by f (range_with_len a n) ≡ sum_by g (range_with_len a n)
range-same f g a zero same = refl
range-same f g a (suc n) same =
    sum_by-cons f a (range_with_len (a + 1) n) ∙ ap₂ (λ x y. x + y) (same a (omega arith) (omega arith)) (range-same f g (a + 1) n (λ k l h. same k (omega arith) (omega arith)))
    ∙ sym (sum_by-cons g a (range_with_len (a + 1) n))

pub range-le : (f g : ℕ → ℕ) (a n : ℕ) → ((k : ℕ) → a ≤ k → k < a + n → f k ≤ g k) → sum_by f (range_with_len a n) ≤ sum_by g (range_with_len a n)
range-le f g a zero le = omega arith
range-le f g a (suc n) le =
    let first = le a (omega arith) (omega arith) in
    let rest = range-le f g (a + 1) n (λ k l h. le k (omega arith) (omega arith)) in
    omega (arith, first, rest, sum_by-cons f a (range_with_len (a + 1) n), sum_by-cons g a (range_with_len (a + 1) n))

pub range-zero : (f : ℕ → ℕ) (a n : ℕ) → ((k : ℕ) → a ≤ k → k < a + n → f k ≡ 0) → sum_by f (range_with_len a n) ≡ 0
range-zero f a n none = range-same f (λ k. 0) a n none ∙ sum_by-zero (range_with_len a n)

-- the first number apart
pub range-front : (f : ℕ → ℕ) (a m : ℕ) → a < m → sum_by f (range_with_len a (m - a)) ≡ f a + sum_by f (range_with_len (a + 1) (m - (a + 1)))
range-front f a m lt =
    let e : m - a ≡ suc (m - (a + 1)) = omega arith in
    ap (λ n. sum_by f (range_with_len a n)) e ∙ sum_by-cons f a (range_with_len (a + 1) (m - (a + 1)))

at_one : (f : ℕ → ℕ) (k d : ℕ) → k ≡ d → cond (k == d) (f d) 0 ≡ f k
at_one f k d e = ap (λ b. cond b (f d) 0) (eq-eqb k d e) ∙ ap f (sym e)

at_others : (f : ℕ → ℕ) (k d : ℕ) → k ≢ d → cond (k == d) (f d) 0 ≡ 0
at_others f k d e = ap (λ b. cond b (f d) 0) (ne_eqb k d e)

-- one number picked out
pub range-pick : (f : ℕ → ℕ) (k a n : ℕ) → a ≤ k → k < a + n → sum_by (λ d. cond (k == d) (f d) 0) (range_with_len a n) ≡ f k
range-pick f k a zero le lt = absurd (omega arith)
range-pick f k a (suc n) le lt = sum_by-cons (λ d. cond (k == d) (f d) 0) a (range_with_len (a + 1) n) ∙ elim (cases_eq k a) [
  | inl here ↦
      let first = at_one f k a here in
      let rest = range-zero (λ d. cond (k == d) (f d) 0) (a + 1) n (λ d l h. at_others f k d (λ e. omega arith)) in
      omega (arith, first, rest)
  | inr later ↦
      let first = at_others f k a later in
      let rest = range-pick f k (a + 1) n (omega arith) (omega arith) in
      omega (arith, first, rest)
]

-- a list's sum, by its places
pub sum-places : (xs : List ℕ) → sum xs ≡ sum_by (λ k. get_or xs k 0) (range_with_len 0 (length xs))
sum-places xs = ap sum (fill_by_all (λ k. get_or xs k 0) xs (length xs) 0 refl (λ k lt. refl)) ∙ sum-map (λ k. get_or xs k 0) (range_with_len 0 (length xs))
