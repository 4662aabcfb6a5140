-- Sums over a list in a commutative ring: over what a test selects, and over its classes.
use mathlib.Core.Path.{◌≡◌, refl, sym, ap, ap₂, ◌∙◌}
use mathlib.Core.Bool.{Bool, true, false, cond}
use mathlib.Core.List.{List, [], ◌∷◌, map}
use Prim.Native.Nat.{suc}
use native.Mathlib.Omega.{arith}
use lib.IntN.{pos}
use lib.ListN.{length}
use Rattle.std.specs.Prelude.{All, filter}
use Rattle.exact_math.proofs.Ring.{CommutativeRing}
use Rattle.exact_math.proofs.RingTactic.{quotes, ring1}
use Rattle.exact_math.proofs.Sums.{sum_list, sum_list-add, sum_list-zero, sum_list-congruence}

module _ (R : CommutativeRing) where
  -- equal where the terms of the list's members are equal
  pub sum_list-congruence_all : {A : Type 0} (f g : A → R.carrier) (xs : List A) → All (λ x. f x ≡ g x) xs → sum_list R f xs ≡ sum_list R g xs
  sum_list-congruence_all f g [] each = refl
  sum_list-congruence_all f g (x ∷ xs) each = ap₂ R.add (each 0 x (omega arith)) (sum_list-congruence_all f g xs (λ k d l. each (suc k) d (omega arith)))

  -- over the images of the members
  pub sum_list-map : {A B : Type 0} (f : B → R.carrier) (g : A → B) (xs : List A) → sum_list R f (map g xs) ≡ sum_list R (λ x. f (g x)) xs
  sum_list-map f g [] = refl
  sum_list-map f g (x ∷ xs) = ap (R.add (f (g x))) (sum_list-map f g xs)

  -- ---- parts
  -- a sum over what a test selects, over all members
  pub sum_list-filter : {A : Type 0} (test : A → Bool) (f : A → R.carrier) (xs : List A) → sum_list R f (filter test xs) ≡ sum_list R (λ x. cond (test x) (f x) (R.of_int (pos 0))) xs
  sum_list-filter test f [] = refl
  sum_list-filter {A} test f (x ∷ xs) = step (test x) (filter test xs) ∙ ap (R.add (cond (test x) (f x) (R.of_int (pos 0)))) (sum_list-filter test f xs)
    where
      step : (b : Bool) (u : List A) → sum_list R f (cond b (x ∷ u) u) ≡ R.add (cond b (f x) (R.of_int (pos 0))) (sum_list R f u)
      step true u = refl
      step false u = ring1 R (sum_list R f u) (λ s. search quotes depth 9) tt

  -- a double sum, either list first
  pub sum_list-exchange_lists : {A B : Type 0} (f : A → B → R.carrier) (xs : List A) (ys : List B) → sum_list R (λ x. sum_list R (f x) ys) xs ≡ sum_list R (λ y. sum_list R (λ x. f x y) xs) ys
  sum_list-exchange_lists f [] ys = sym (sum_list-zero R ys)
  sum_list-exchange_lists f (x ∷ xs) ys = ap (R.add (sum_list R (f x) ys)) (sum_list-exchange_lists f xs ys) ∙ sym (sum_list-add R (f x) (λ y. sum_list R (λ x. f x y) xs) ys)

  single : {B : Type 0} (a : R.carrier) (ys : List B) → length ys ≡ 1 → sum_list R (λ y. a) ys ≡ a
  single a [] e = absurd (omega arith)
  single a (y ∷ []) e = R.add_zero a
  single a (y ∷ z ∷ ys) e = absurd (omega arith)

  -- each member of the list lies in exactly one of the classes
  pub sum_list-classes : {A B : Type 0} (member : B → A → Bool) (classes : List B) (f : A → R.carrier) (xs : List A) → All (λ x. length (filter (λ c. member c x) classes) ≡ 1) xs
      → sum_list R f xs ≡ sum_list R (λ c. sum_list R f (filter (member c) xs)) classes
  sum_list-classes {A} member classes f xs once =
      sum_list-congruence_all f (λ x. sum_list R (λ c. cond (member c x) (f x) (R.of_int (pos 0))) classes) xs (λ k d l. one _ (once k d l))
      ∙ sum_list-exchange_lists (λ x c. cond (member c x) (f x) (R.of_int (pos 0))) xs classes
      ∙ sum_list-congruence R _ _ classes (λ c. sym (sum_list-filter (member c) f xs))
    where
      one : (x : A) → length (filter (λ c. member c x) classes) ≡ 1 → f x ≡ sum_list R (λ c. cond (member c x) (f x) (R.of_int (pos 0))) classes
      one x e = sym (single (f x) (filter (λ c. member c x) classes) e) ∙ sum_list-filter (λ c. member c x) (λ c. f x) classes
