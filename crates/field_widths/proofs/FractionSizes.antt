-- The size |re| + |im| of sums, products and powers of complex fractions.
use Rattle.std.proofs.Common.{ℕ, zero, suc, ◌+◌, ◌*◌, ◌≤◌, List, [], ◌∷◌, arith, ℤ, pos, negsuc, ◌+ℤ◌, ◌-ℤ◌, ◌*ℤ◌, ◌≤ℤ◌, ◌<ℤ◌}
use Rattle.std.specs.Prelude.{All, fold, sum_by, unsigned_abs}
use Rattle.std.proofs.Math.Nat.{mul-le-mul, mul-le-mul_left, mul-le-mul_right}
use Rattle.std.proofs.lemmas.Int.{ints}
use Rattle.std.proofs.lemmas.List.Elements.{All-tail}
use Rattle.std.proofs.lemmas.List.Sums.{sum_by-cons}
use Rattle.exact_math.specs.Gaussian.{Gaussian}
use Rattle.exact_math.specs.Ratio.{ComplexRatio, zero_complex, whole_complex, over_complex, ◌+ᶜ◌, ◌*ᶜ◌}
use Rattle.exact_math.specs.Sizes.{abs_gaussian}
use Rattle.exact_math.specs.Sums.{natural_complex, pow_complex, slope_complex, sum_terms}
use Rattle.exact_math.proofs.Integers.{*-positive}
use Rattle.exact_math.proofs.WholeSizes.{unsigned_abs-within, within-size, within-add, within-sub, within-mul}
use Rattle.row_recursions.proofs.RowSizes.{number_within}

-- x is a fraction of at most A in size
pub record SizeAtMost (A : ℕ) (x : ComplexRatio) : Type 0 where
  pub fraction : pos 0 <ℤ x.denominator
  pub small : pos (unsigned_abs x.re + unsigned_abs x.im) ≤ℤ (pos A *ℤ x.denominator)

pub size-wider : (A B : ℕ) (x : ComplexRatio) → A ≤ B → SizeAtMost A x → SizeAtMost B x
size-wider A B x le h = record { fraction = h.fraction; small = wider (unsigned_abs x.re + unsigned_abs x.im) x.denominator h.fraction h.small }
  where
    wider : (n : ℕ) (d : ℤ) → pos 0 <ℤ d → pos n ≤ℤ (pos A *ℤ d) → pos n ≤ℤ (pos B *ℤ d)
    wider n (pos d) p s = let m = mul-le-mul_right d le in omega (arith, ints, s, m)
    wider n (negsuc d) p s = absurd (omega (arith, ints, p))

-- ---- sums and products
-- of two products
sum_size : (r s : ℤ) (m n : ℕ) → unsigned_abs (r *ℤ pos n +ℤ s *ℤ pos m) ≤ unsigned_abs r * n + unsigned_abs s * m
sum_size r s m n = unsigned_abs-within _ _ (within-add (within-mul (unsigned_abs r) n r (pos n) (within-size r) (number_within n)) (within-mul (unsigned_abs s) m s (pos m) (within-size s) (number_within m)))

products_add : (a b c d : ℤ) → unsigned_abs (a *ℤ b +ℤ c *ℤ d) ≤ unsigned_abs a * unsigned_abs b + unsigned_abs c * unsigned_abs d
products_add a b c d = unsigned_abs-within _ _ (within-add (within-mul (unsigned_abs a) (unsigned_abs b) a b (within-size a) (within-size b)) (within-mul (unsigned_abs c) (unsigned_abs d) c d (within-size c) (within-size d)))

products_less : (a b c d : ℤ) → unsigned_abs (a *ℤ b -ℤ c *ℤ d) ≤ unsigned_abs a * unsigned_abs b + unsigned_abs c * unsigned_abs d
products_less a b c d = unsigned_abs-within _ _ (within-sub (within-mul (unsigned_abs a) (unsigned_abs b) a b (within-size a) (within-size b)) (within-mul (unsigned_abs c) (unsigned_abs d) c d (within-size c) (within-size d)))

pub size-add : (A B : ℕ) (x y : ComplexRatio) → SizeAtMost A x → SizeAtMost B y → SizeAtMost (A + B) (x +ᶜ y)
size-add A B x y h k = record { fraction = *-positive _ _ h.fraction k.fraction; small = both x.denominator y.denominator h.fraction k.fraction h.small k.small }
  where
    counts : (r i s j m n : ℕ) → r + i ≤ A * m → s + j ≤ B * n → (r * n + s * m) + (i * n + j * m) ≤ (A + B) * (m * n)
    counts r i s j m n h k =
        let a = mul-le-mul_right n h in
        let b = mul-le-mul_right m k in
        omega (arith, a, b)

    both : (d e : ℤ) → pos 0 <ℤ d → pos 0 <ℤ e → pos (unsigned_abs x.re + unsigned_abs x.im) ≤ℤ (pos A *ℤ d) → pos (unsigned_abs y.re + unsigned_abs y.im) ≤ℤ (pos B *ℤ e)
        → pos (unsigned_abs (x.re *ℤ e +ℤ y.re *ℤ d) + unsigned_abs (x.im *ℤ e +ℤ y.im *ℤ d)) ≤ℤ (pos (A + B) *ℤ (d *ℤ e))
    both (pos m) (pos n) p q s t =
        let c = counts (unsigned_abs x.re) (unsigned_abs x.im) (unsigned_abs y.re) (unsigned_abs y.im) m n (omega (arith, ints, s)) (omega (arith, ints, t)) in
        omega (arith, ints, c, sum_size x.re y.re m n, sum_size x.im y.im m n)
    both (negsuc m) e p q s t = absurd (omega (arith, ints, p))
    both (pos m) (negsuc n) p q s t = absurd (omega (arith, ints, q))

pub size-mul : (A B : ℕ) (x y : ComplexRatio) → SizeAtMost A x → SizeAtMost B y → SizeAtMost (A * B) (x *ᶜ y)
size-mul A B x y h k = record { fraction = *-positive _ _ h.fraction k.fraction; small = both x.denominator y.denominator h.fraction k.fraction h.small k.small }
  where
    counts : (r i s j m n : ℕ) → r + i ≤ A * m → s + j ≤ B * n → (r * s + i * j) + (r * j + i * s) ≤ (A * B) * (m * n)
    counts r i s j m n h k = let a : (r + i) * (s + j) ≤ (A * m) * (B * n) = mul-le-mul h k in omega (arith, a)

    both : (d e : ℤ) → pos 0 <ℤ d → pos 0 <ℤ e → pos (unsigned_abs x.re + unsigned_abs x.im) ≤ℤ (pos A *ℤ d) → pos (unsigned_abs y.re + unsigned_abs y.im) ≤ℤ (pos B *ℤ e)
        → pos (unsigned_abs (x.re *ℤ y.re -ℤ x.im *ℤ y.im) + unsigned_abs (x.re *ℤ y.im +ℤ x.im *ℤ y.re)) ≤ℤ (pos (A * B) *ℤ (d *ℤ e))
    both (pos m) (pos n) p q s t =
        let c = counts (unsigned_abs x.re) (unsigned_abs x.im) (unsigned_abs y.re) (unsigned_abs y.im) m n (omega (arith, ints, s)) (omega (arith, ints, t)) in
        omega (arith, ints, c, products_less x.re y.re x.im y.im, products_add x.re y.im x.im y.re)
    both (negsuc m) e p q s t = absurd (omega (arith, ints, p))
    both (pos m) (negsuc n) p q s t = absurd (omega (arith, ints, q))

-- ---- whole numbers, and over a whole number
pub size-whole : (g : Gaussian) → SizeAtMost (abs_gaussian g) (whole_complex g)
size-whole g = record { fraction = omega (arith, ints); small = omega (arith, ints) }

pub size-zero : SizeAtMost 0 zero_complex
size-zero = record { fraction = omega (arith, ints); small = omega (arith, ints) }

pub size-natural : (n : ℕ) → SizeAtMost n (natural_complex n)
size-natural n = record { fraction = omega (arith, ints); small = omega (arith, ints) }

pub size-over : (A s : ℕ) (x : ComplexRatio) → 1 ≤ s → SizeAtMost A x → SizeAtMost A (over_complex x (pos s))
size-over A s x one h = record { fraction = *-positive _ _ h.fraction (omega (arith, ints, one)); small = larger (unsigned_abs x.re + unsigned_abs x.im) x.denominator h.fraction h.small }
  where
    larger : (n : ℕ) (d : ℤ) → pos 0 <ℤ d → pos n ≤ℤ (pos A *ℤ d) → pos n ≤ℤ (pos A *ℤ (d *ℤ pos s))
    larger n (pos d) p t = let m : A * d * 1 ≤ A * d * s = mul-le-mul_left (A * d) one in omega (arith, ints, t, m)
    larger n (negsuc d) p t = absurd (omega (arith, ints, p))

-- ---- powers of what is at most 1 in size
pub size-pow : (x : ComplexRatio) → SizeAtMost 1 x → (n : ℕ) → SizeAtMost 1 (pow_complex x n)
size-pow x h zero = size-natural 1
size-pow x h (suc n) = size-mul 1 1 x (pow_complex x n) h (size-pow x h n)

pub size-slope : (x : ComplexRatio) → SizeAtMost 1 x → (n : ℕ) → SizeAtMost n (slope_complex x n)
size-slope x h zero = size-natural 0
size-slope x h (suc n) = size-wider (suc n * 1) (suc n) _ (omega arith) (size-mul (suc n) 1 (natural_complex (suc n)) (pow_complex x n) (size-natural (suc n)) (size-pow x h n))

-- ---- sums over lists
module _ {X : Type 0} (term : X → ComplexRatio) (w : X → ℕ) where
  size_from : (A : ℕ) (s : ComplexRatio) (xs : List X) → SizeAtMost A s → All (λ x. SizeAtMost (w x) (term x)) xs → SizeAtMost (A + sum_by w xs) (fold (λ s x. s +ᶜ term x) s xs)
  size_from A s [] h each = size-wider A (A + 0) s (omega arith) h
  size_from A s (x ∷ xs) h each =
      size-wider (A + w x + sum_by w xs) (A + sum_by w (x ∷ xs)) _ (omega (arith, sum_by-cons w x xs))
      (size_from (A + w x) (s +ᶜ term x) xs (size-add A (w x) s (term x) h (each 0 x (omega arith))) (All-tail (λ x. SizeAtMost (w x) (term x)) x xs each))

  pub size-sum_terms : (xs : List X) → All (λ x. SizeAtMost (w x) (term x)) xs → SizeAtMost (sum_by w xs) (sum_terms term xs)
  size-sum_terms xs each = size-wider (0 + sum_by w xs) (sum_by w xs) _ (omega arith) (size_from 0 zero_complex xs size-zero each)
