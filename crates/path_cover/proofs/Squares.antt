-- All terms are 1 exactly where their sum and the sum of their squares are both their number.
use Rattle.std.proofs.Common.{ℕ, zero, suc, ◌≡◌, ◌+◌, ◌*◌, ◌≤◌, List, [], ◌∷◌, length, refl, sym, ap, ◌∙◌, arith}
use Rattle.std.specs.Prelude.{sum_by, All}
use Rattle.std.proofs.lemmas.List.Sums.{sum_by-cons}
use Rattle.std.proofs.lemmas.List.Elements.{All-tail}
use Rattle.soundness.proofs.Sums.{sum_by-same}

square_next : (m : ℕ) → suc m * suc m ≡ m * m + 2 * m + 1
square_next m = grind arith

square_least : (n : ℕ) → 2 * n ≤ n * n + 1
square_least zero = omega arith
square_least (suc m) = omega (arith, square_next m)

zero_square : (m : ℕ) → m * m ≤ 0 → m ≡ 0
zero_square zero h = refl
zero_square (suc m) h = absurd (omega (arith, square_next m))

one_only : (n : ℕ) → n * n + 1 ≤ 2 * n → n ≡ 1
one_only zero h = absurd (omega arith)
one_only (suc m) h = ap suc (zero_square m (omega (arith, square_next m)))

module _ {A : Type 0} (f : A → ℕ) where
  squares_least : (xs : List A) → 2 * sum_by f xs ≤ sum_by (λ x. f x * f x) xs + length xs
  squares_least [] = omega arith
  squares_least (x ∷ xs) = omega (arith, square_least (f x), sum_by-cons f x xs, sum_by-cons (λ x. f x * f x) x xs, squares_least xs)

  ones_from : (xs : List A) → sum_by (λ x. f x * f x) xs + length xs ≤ 2 * sum_by f xs → All (λ x. f x ≡ 1) xs
  ones_from [] h k d l = absurd (omega arith)
  ones_from (x ∷ xs) h zero d l = one_only (f x) (omega (arith, sum_by-cons f x xs, sum_by-cons (λ x. f x * f x) x xs, squares_least xs))
  ones_from (x ∷ xs) h (suc k) d l = ones_from xs (omega (arith, square_least (f x), sum_by-cons f x xs, sum_by-cons (λ x. f x * f x) x xs)) k d (omega arith)

  pub ones_from_sums : (xs : List A) → sum_by f xs ≡ length xs → sum_by (λ x. f x * f x) xs ≡ length xs → All (λ x. f x ≡ 1) xs
  ones_from_sums xs total squares = ones_from xs (omega arith)

  pub sum-from_ones : (xs : List A) → All (λ x. f x ≡ 1) xs → sum_by f xs ≡ length xs
  sum-from_ones [] h = refl
  sum-from_ones (x ∷ xs) h = omega (arith, h 0 x (omega arith), sum_by-cons f x xs, sum-from_ones xs (All-tail (λ x. f x ≡ 1) x xs h))

  pub squares-from_ones : (xs : List A) → All (λ x. f x ≡ 1) xs → sum_by (λ x. f x * f x) xs ≡ length xs
  squares-from_ones xs h = sum_by-same (λ x. f x * f x) f xs (λ k d l. ap (λ n. n * n) (h k d l) ∙ sym (h k d l)) ∙ sum-from_ones xs h
