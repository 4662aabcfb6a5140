-- The finite identity of the two-variable kernel: 1 - (1 - x - y) T = N, in any commutative ring. Orders are written p + 1.
use mathlib.Core.Path.{◌≡◌, refl, sym, ap, ap₂, ◌∙◌}
use Prim.Native.Nat.{ℕ, zero, suc, ◌+◌}
use native.Mathlib.Omega.{arith}
use lib.IntN.{pos, negsuc}
use Rattle.exact_math.specs.Binomials.{choose}
use Rattle.exact_math.proofs.Ring.{CommutativeRing, sub, pow}
use Rattle.exact_math.proofs.RingTactic.{quotes, combine, ring1, ring3, ring5, ring6, ring7}
use Rattle.exact_math.proofs.Sums.{sum_below, sum_below-congruence, sum_below-add, sum_below-mul}
use Rattle.exact_math.proofs.Binomials.{choose-all, choose-symmetric}

module _ (R : CommutativeRing) where
  -- C(k + l, k)
  abbrev pub binomial : ℕ → ℕ → R.carrier
  binomial k l = R.of_int (pos (choose (k + l) k))

  binomial-right_zero : (k : ℕ) → binomial k 0 ≡ R.of_int (pos 1)
  binomial-right_zero k = ap (λ n. R.of_int (pos n)) (ap (λ n. choose n k) {x = k + 0} {y = k} (omega arith) ∙ choose-all k)

  binomial-pascal : (k l : ℕ) → binomial (suc k) (suc l) ≡ R.add (binomial k (suc l)) (binomial (suc k) l)
  binomial-pascal k l =
      ap (λ n. R.of_int (pos n)) (ap (λ n. choose n (suc k)) {x = suc k + suc l} {y = suc (k + suc l)} (omega arith)
      ∙ ap (λ n. choose (k + suc l) k + choose n (suc k)) {x = k + suc l} {y = suc k + l} (omega arith))
      ∙ R.of_int-add (pos (choose (k + suc l) k)) (pos (choose (suc k + l) (suc k)))

  module _ (x y : R.carrier) where
    -- C(k + l, k) x^k y^l
    abbrev pub kernel_term : ℕ → ℕ → R.carrier
    kernel_term k l = R.mul (binomial k l) (R.mul (pow R x k) (pow R y l))

    -- the sum of the row l over k < n
    abbrev pub kernel_row : ℕ → ℕ → R.carrier
    kernel_row n l = sum_below R n (λ k. kernel_term k l)

    term-right_zero : (k : ℕ) → kernel_term k 0 ≡ pow R x k
    term-right_zero k = ap (λ b. R.mul b (R.mul (pow R x k) (R.of_int (pos 1)))) (binomial-right_zero k) ∙ ring1 R (pow R x k) (λ a. search quotes depth 9) tt

    term-pascal : (k l : ℕ) → kernel_term (suc k) (suc l) ≡ R.add (R.mul x (kernel_term k (suc l))) (R.mul y (kernel_term (suc k) l))
    term-pascal k l =
        ap (λ b. R.mul b (R.mul (pow R x (suc k)) (pow R y (suc l)))) (binomial-pascal k l)
        ∙ ring6 R x y (pow R x k) (pow R y l) (binomial k (suc l)) (binomial (suc k) l) (λ x y p q b c. search quotes depth 12) tt

    -- (1 - x) A_0 = 1 - x^n, and (1 - x) A_(l + 1) = y A_l - x a(n - 1, l + 1), without subtraction
    row-zero : (n : ℕ) → R.add (kernel_row n 0) (pow R x n) ≡ R.add (R.of_int (pos 1)) (R.mul x (kernel_row n 0))
    row-zero zero = ring1 R x (λ x. search quotes depth 9) tt
    row-zero (suc n) =
        let s = kernel_row n 0 in
        let p = pow R x n in
        ap (λ t. R.add (R.add s t) (R.mul x p)) (term-right_zero n)
        ∙ combine R (R.of_int (pos 1)) (row-zero n) (ring3 R s p x (λ s p x. search quotes depth 12) tt)
        ∙ ap (λ t. R.add (R.of_int (pos 1)) (R.mul x (R.add s t))) (sym (term-right_zero n))

    row-suc : (n l : ℕ) → R.add (kernel_row (suc n) (suc l)) (R.mul x (kernel_term n (suc l))) ≡ R.add (R.mul x (kernel_row (suc n) (suc l))) (R.mul y (kernel_row (suc n) l))
    row-suc zero l =
        let z = R.of_int (pos 0) in
        ring3 R x y (pow R y l) (λ x y q. search quotes depth 12) tt
    row-suc (suc n) l =
        let s = kernel_row (suc n) (suc l) in
        let r = kernel_row (suc n) l in
        let t = kernel_term n (suc l) in
        let t' = kernel_term (suc n) (suc l) in
        let u = kernel_term (suc n) l in
        combine R (R.of_int (pos 1)) (row-suc n l)
        (combine R (R.of_int (pos 1)) (term-pascal n l) (ring7 R x y s r t t' u (λ x y s r t v u. search quotes depth 12) tt))

    -- T: all rows l < m
    abbrev pub kernel_sum : ℕ → ℕ → R.carrier
    kernel_sum n m = sum_below R m (kernel_row n)

    -- 1 - (1 - x - y) T = x (a(n - 1, 0) + .. + a(n - 1, m - 1)) + y A_(m - 1)
    kernel_sum-telescopes : (n m : ℕ) → sub R (R.of_int (pos 1)) (R.mul (sub R (sub R (R.of_int (pos 1)) x) y) (kernel_sum (suc n) (suc m)))
        ≡ R.add (R.mul x (sum_below R (suc m) (kernel_term n))) (R.mul y (kernel_row (suc n) m))
    kernel_sum-telescopes n zero =
        let s = kernel_row (suc n) 0 in
        let t = kernel_term n 0 in
        combine R (R.of_int (negsuc 0)) (row-zero (suc n))
        (combine R (R.neg x) (term-right_zero n) (ring5 R x y s t (pow R x n) (λ x y s t p. search quotes depth 12) tt))
    kernel_sum-telescopes n (suc m) =
        let s = kernel_sum (suc n) (suc m) in
        let a = kernel_row (suc n) m in
        let a' = kernel_row (suc n) (suc m) in
        let c = sum_below R (suc m) (kernel_term n) in
        let t = kernel_term n (suc m) in
        combine R (R.of_int (pos 1)) (kernel_sum-telescopes n m)
        (combine R (R.of_int (negsuc 0)) (row-suc n m) (ring7 R x y s a a' c t (λ x y s a b c t. search quotes depth 12) tt))

  -- N: the sum of C(p + l, l) (x^(p + 1) y^l + y^(p + 1) x^l) over l <= p, which is what the tail of the square of side p + 1 leaves
  abbrev pub kernel_remainder : R.carrier → R.carrier → ℕ → R.carrier
  kernel_remainder x y p = sum_below R (suc p) (λ l. R.mul (R.of_int (pos (choose (p + l) l))) (R.add (R.mul (pow R x (suc p)) (pow R y l)) (R.mul (pow R y (suc p)) (pow R x l))))

  -- 1 - (1 - x - y) T_(p + 1) = N_(p + 1)
  pub kernel_identity : (x y : R.carrier) (p : ℕ)
      → sub R (R.of_int (pos 1)) (R.mul (sub R (sub R (R.of_int (pos 1)) x) y) (kernel_sum x y (suc p) (suc p))) ≡ kernel_remainder x y p
  kernel_identity x y p =
      kernel_sum-telescopes x y p p
      ∙ ap₂ R.add (sym (sum_below-mul R x (suc p) (kernel_term x y p))) (sym (sum_below-mul R y (suc p) (λ k. kernel_term x y k p)))
      ∙ sym (sum_below-add R (suc p) _ _)
      ∙ sum_below-congruence R (suc p) _ _ (λ l h. one l)
    where
      one : (l : ℕ) → R.add (R.mul x (kernel_term x y p l)) (R.mul y (kernel_term x y l p))
          ≡ R.mul (R.of_int (pos (choose (p + l) l))) (R.add (R.mul (pow R x (suc p)) (pow R y l)) (R.mul (pow R y (suc p)) (pow R x l)))
      one l =
          ap₂ (λ b c. R.add (R.mul x (R.mul b (R.mul (pow R x p) (pow R y l)))) (R.mul y (R.mul c (R.mul (pow R x l) (pow R y p)))))
          (ap (λ n. R.of_int (pos n)) (choose-symmetric (p + l) p l refl))
          (ap (λ n. R.of_int (pos (choose n l))) {x = l + p} {y = p + l} (omega arith))
          ∙ ring7 R x y (pow R x p) (pow R y l) (pow R x l) (pow R y p) (R.of_int (pos (choose (p + l) l))) (λ x y a b c d n. search quotes depth 12) tt
