-- The laws of powers in a commutative ring.
use mathlib.Core.Path.{◌≡◌, refl, sym, ap, ◌∙◌}
use Prim.Native.Nat.{ℕ, zero, suc, ◌+◌}
use native.Mathlib.Omega.{arith}
use lib.IntN.{pos}
use Rattle.exact_math.proofs.Ring.{CommutativeRing, pow}
use Rattle.exact_math.proofs.RingTactic.{quotes, ring1, ring4}

module _ (R : CommutativeRing) where
  -- x^(m + n) = x^m x^n
  pub pow-add : (x : R.carrier) (m n : ℕ) → pow R x (m + n) ≡ R.mul (pow R x m) (pow R x n)
  pow-add x zero n = ap (pow R x) {x = 0 + n} {y = n} (omega arith) ∙ ring1 R (pow R x n) (λ p. search quotes depth 9) tt
  pow-add x (suc m) n =
      ap (pow R x) {x = suc m + n} {y = suc (m + n)} (omega arith) ∙ ap (R.mul x) (pow-add x m n)
      ∙ sym (R.mul_assoc _ _ _)

  -- (x y)^n = x^n y^n
  pub pow-mul : (x y : R.carrier) (n : ℕ) → pow R (R.mul x y) n ≡ R.mul (pow R x n) (pow R y n)
  pow-mul x y zero = sym (R.mul_one _)
  pow-mul x y (suc n) = ap (R.mul (R.mul x y)) (pow-mul x y n) ∙ ring4 R x y (pow R x n) (pow R y n) (λ a b c d. search quotes depth 9) tt

  -- 1^n = 1
  pub pow-one : (n : ℕ) → pow R (R.of_int (pos 1)) n ≡ R.of_int (pos 1)
  pow-one zero = refl
  pow-one (suc n) = ap (R.mul _) (pow-one n) ∙ R.mul_one _
