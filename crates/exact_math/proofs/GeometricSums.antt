-- The finite geometric sum with its remainder, and its derivative, in any commutative ring.
use Rattle.exact_math.proofs.Common.{◌≡◌, ap, ◌∙◌, ℕ, zero, suc, pos, CommutativeRing, sub, pow, quotes, combine, ring1, ring3, ring4, ring6, sum_below}
use Rattle.exact_math.proofs.QuadraticExtension.{pow_slope, of_int-suc}

module _ (R : CommutativeRing) (q : R.carrier) where
  -- 1 + q + .. + q^(n - 1)
  abbrev pub power_sum : ℕ → R.carrier
  power_sum n = sum_below R n (pow R q)

  -- 1 + 2 q + .. + (n - 1) q^(n - 2)
  abbrev pub power_slope_sum : ℕ → R.carrier
  power_slope_sum n = sum_below R n (pow_slope R q)

  -- 1 - (1 - q) (1 + .. + q^(n - 1)) = q^n
  pub geometric_identity : (n : ℕ) → sub R (R.of_int (pos 1)) (R.mul (sub R (R.of_int (pos 1)) q) (power_sum n)) ≡ pow R q n
  geometric_identity zero = ring1 R q (λ q. search quotes depth 9) tt
  geometric_identity (suc n) = combine R (R.of_int (pos 1)) (geometric_identity n) (ring3 R q (power_sum n) (pow R q n) (λ q s p. search quotes depth 12) tt)

  -- q k q^(k - 1) = k q^k
  pub times_slope : (k : ℕ) → R.mul q (pow_slope R q k) ≡ R.mul (R.of_int (pos k)) (pow R q k)
  times_slope zero = ring1 R q (λ q. search quotes depth 9) tt
  times_slope (suc k) = ring3 R q (R.of_int (pos (suc k))) (pow R q k) (λ q n p. search quotes depth 9) tt

  -- (k + 1) q^k = q k q^(k - 1) + q^k
  slope-suc : (k : ℕ) → pow_slope R q (suc k) ≡ R.add (R.mul q (pow_slope R q k)) (pow R q k)
  slope-suc k =
      ap (λ n. R.mul n (pow R q k)) (of_int-suc R k)
      ∙ combine R (R.neg (R.of_int (pos 1))) (times_slope k) (ring4 R q (R.of_int (pos k)) (pow R q k) (pow_slope R q k) (λ q n p s. search quotes depth 12) tt)

  -- the derivative: (1 + .. + q^(n - 1)) - (1 - q) (1 + 2 q + ..) = n q^(n - 1)
  pub geometric_slope_identity : (n : ℕ) → sub R (power_sum n) (R.mul (sub R (R.of_int (pos 1)) q) (power_slope_sum n)) ≡ pow_slope R q n
  geometric_slope_identity zero = ring1 R q (λ q. search quotes depth 9) tt
  geometric_slope_identity (suc n) =
      combine R (R.of_int (pos 1)) (geometric_slope_identity n)
      (combine R (R.neg (R.of_int (pos 1))) (slope-suc n)
      (ring6 R q (power_sum n) (power_slope_sum n) (pow R q n) (pow_slope R q n) (R.of_int (pos (suc n))) (λ q s t p d m. search quotes depth 12) tt))
