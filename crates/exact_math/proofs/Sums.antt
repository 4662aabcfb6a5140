-- Finite sums in a commutative ring: over the numbers below n, and over a list.
use mathlib.Core.Path.{◌≡◌, refl, sym, ap, ap₂, ◌∙◌}
use mathlib.Core.List.{List, [], ◌∷◌, ◌++◌}
use Prim.Native.Nat.{ℕ, zero, suc, ◌<◌}
use native.Mathlib.Omega.{arith}
use lib.IntN.{pos}
use Rattle.exact_math.proofs.Ring.{CommutativeRing}
use Rattle.exact_math.proofs.RingTactic.{quotes, ring1, ring4}

module _ (R : CommutativeRing) where
  -- f 0 + f 1 + .. + f (n - 1)
  abbrev pub sum_below : ℕ → (ℕ → R.carrier) → R.carrier
  sum_below zero f = R.of_int (pos 0)
  sum_below (suc n) f = R.add (sum_below n f) (f n)

  -- the terms of all members of a list
  abbrev pub sum_list : {A : Type 0} → (A → R.carrier) → List A → R.carrier
  sum_list f [] = R.of_int (pos 0)
  sum_list f (x ∷ xs) = R.add (f x) (sum_list f xs)

  -- equal terms give equal sums
  pub sum_below-congruence : (n : ℕ) (f g : ℕ → R.carrier) → ((k : ℕ) → k < n → f k ≡ g k) → sum_below n f ≡ sum_below n g
  sum_below-congruence zero f g h = refl
  sum_below-congruence (suc n) f g h = ap₂ R.add (sum_below-congruence n f g (λ k l. h k (omega arith))) (h n (omega arith))

  -- a sum of zeros
  pub sum_below-zero : (n : ℕ) → sum_below n (λ k. R.of_int (pos 0)) ≡ R.of_int (pos 0)
  sum_below-zero zero = refl
  sum_below-zero (suc n) = R.add_zero _ ∙ sum_below-zero n

  -- a sum of sums
  pub sum_below-add : (n : ℕ) (f g : ℕ → R.carrier) → sum_below n (λ k. R.add (f k) (g k)) ≡ R.add (sum_below n f) (sum_below n g)
  sum_below-add zero f g = sym (R.add_zero _)
  sum_below-add (suc n) f g =
      ap (λ s. R.add s (R.add (f n) (g n))) (sum_below-add n f g)
      ∙ ring4 R (sum_below n f) (sum_below n g) (f n) (g n) (λ a b c d. search quotes depth 9) tt

  -- a common factor
  pub sum_below-mul : (c : R.carrier) (n : ℕ) (f : ℕ → R.carrier) → sum_below n (λ k. R.mul c (f k)) ≡ R.mul c (sum_below n f)
  sum_below-mul c zero f = ring1 R c (λ c. search quotes depth 9) tt
  sum_below-mul c (suc n) f = ap (λ s. R.add s (R.mul c (f n))) (sum_below-mul c n f) ∙ sym (R.mul_add c _ _)

  -- the first term apart
  pub sum_below-first : (n : ℕ) (f : ℕ → R.carrier) → sum_below (suc n) f ≡ R.add (f 0) (sum_below n (λ k. f (suc k)))
  sum_below-first zero f = R.add_comm _ _
  sum_below-first (suc n) f = ap (λ s. R.add s (f (suc n))) (sum_below-first n f) ∙ R.add_assoc _ _ _

  -- equal terms give equal sums
  pub sum_list-congruence : {A : Type 0} (f g : A → R.carrier) (xs : List A) → ((x : A) → f x ≡ g x) → sum_list f xs ≡ sum_list g xs
  sum_list-congruence f g [] h = refl
  sum_list-congruence f g (x ∷ xs) h = ap₂ R.add (h x) (sum_list-congruence f g xs h)

  -- a sum of sums
  pub sum_list-add : {A : Type 0} (f g : A → R.carrier) (xs : List A) → sum_list (λ x. R.add (f x) (g x)) xs ≡ R.add (sum_list f xs) (sum_list g xs)
  sum_list-add f g [] = sym (R.add_zero _)
  sum_list-add f g (x ∷ xs) =
      ap (R.add (R.add (f x) (g x))) (sum_list-add f g xs)
      ∙ ring4 R (f x) (g x) (sum_list f xs) (sum_list g xs) (λ a b c d. search quotes depth 9) tt

  -- a common factor
  pub sum_list-mul : {A : Type 0} (c : R.carrier) (f : A → R.carrier) (xs : List A) → sum_list (λ x. R.mul c (f x)) xs ≡ R.mul c (sum_list f xs)
  sum_list-mul c f [] = ring1 R c (λ c. search quotes depth 9) tt
  sum_list-mul c f (x ∷ xs) = ap (R.add (R.mul c (f x))) (sum_list-mul c f xs) ∙ sym (R.mul_add c _ _)

  -- over two lists, one after the other
  pub sum_list-append : {A : Type 0} (f : A → R.carrier) (xs ys : List A) → sum_list f (xs ++ ys) ≡ R.add (sum_list f xs) (sum_list f ys)
  sum_list-append f [] ys = ring1 R (sum_list f ys) (λ a. search quotes depth 9) tt
  sum_list-append f (x ∷ xs) ys = ap (R.add (f x)) (sum_list-append f xs ys) ∙ sym (R.add_assoc _ _ _)

  -- a sum of zeros
  pub sum_list-zero : {A : Type 0} (xs : List A) → sum_list (λ x. R.of_int (pos 0)) xs ≡ R.of_int (pos 0)
  sum_list-zero [] = refl
  sum_list-zero (x ∷ xs) = ap (R.add _) (sum_list-zero xs) ∙ R.add_zero _

  -- a sum over a list of sums below n
  pub sum_list-exchange : {A : Type 0} (n : ℕ) (f : A → ℕ → R.carrier) (xs : List A) → sum_list (λ x. sum_below n (f x)) xs ≡ sum_below n (λ k. sum_list (λ x. f x k) xs)
  sum_list-exchange n f [] = sym (sum_below-zero n)
  sum_list-exchange n f (x ∷ xs) = ap (R.add (sum_below n (f x))) (sum_list-exchange n f xs) ∙ sym (sum_below-add n _ _)
