-- The two tails, and that they dominate the powers of 17/31 and of 17/36.
use Rattle.exact_math.proofs.Common.{◌≡◌, refl, sym, ap, ◌∙◌, neg_ℤ, subst₂, ℕ, zero, suc, arith, ints, pos, quotes, combine, ring1, ring6, pow, ℚ, rational_ring, of_int, of_int-mul, of_int-≤, ◌*ℚ◌, ◌≤ℚ◌, ≤ℚ-trans, le_equal, le_using, cancel_mul, nonneg_int, int-<}
use Rattle.exact_math.specs.Rounding.{ceil_div}
pub use Rattle.truncation.specs.Tails.{pair_tail, single_tail}
use Rattle.std.specs.Int.{div_ceil}
use Rattle.std.proofs.lemmas.Grind.{div_ceil_times}
use Prim.Native.Nat.{◌+◌, ◌*◌, ◌/◌, ◌^◌, ◌≤◌, ◌<◌}

-- a <= n ceil(a/n)
pub div_ceil-ge : (a n : ℕ) → 0 < n → a ≤ n * div_ceil a n
div_ceil-ge a n h = let b = (div_ceil_times a n h).0 in omega arith

-- and ceil(a/n) is at most a
pub div_ceil-le : (a n : ℕ) → 0 < n → div_ceil a n ≤ a
div_ceil-le a n h = at_most (div_ceil a n) (div_ceil_times a n h).1
  where
    larger : (d : ℕ) → d ≤ d * n
    larger d = grind arith

    at_most : (c : ℕ) → c * n < a + n → c ≤ a
    at_most zero k = omega arith
    at_most (suc d) k = let l = larger d in omega arith

-- in the words of rounding
pub div_ceil-is : (a n : ℕ) → 0 < n → pos (div_ceil a n) ≡ ceil_div (pos a) (pos n)
div_ceil-is zero n h = ap pos (none n h) ∙ sym (ap (λ z. neg_ℤ (pos z)) (zero_over n h))
  where
    none : (n : ℕ) → 0 < n → div_ceil 0 n ≡ 0
    none n h = grind arith

    zero_over : (n : ℕ) → 0 < n → 0 / n ≡ 0
    zero_over n h = grind arith
div_ceil-is (suc a) n h = ap pos (next a n h)
  where
    next : (a n : ℕ) → 0 < n → div_ceil (suc a) n ≡ suc (a / n)
    next a n h = grind arith

-- the next values, as code computes them, and that the tails fall
pub pair_tail-next : (k : ℕ) → pair_tail (k + 1) ≡ div_ceil (17 * pair_tail k) 31
unfolding pair_tail
pair_tail-next k = ap pair_tail {x = k + 1} {y = suc k} (omega arith)

-- the next value of the single tail, as code computes it
pub single_tail-next : (k : ℕ) → single_tail (k + 1) ≡ div_ceil (17 * single_tail k) 36
unfolding single_tail
single_tail-next k = ap single_tail {x = k + 1} {y = suc k} (omega arith)

-- no tail is above its start
pub pair_tail_le : (k : ℕ) → pair_tail k ≤ 2 ^ 41
unfolding pair_tail
pair_tail_le zero = omega arith
pair_tail_le (suc k) = let h = pair_tail_le k in omega arith

-- nor the single one
pub single_tail_le : (k : ℕ) → single_tail k ≤ 2 ^ 40
unfolding single_tail
single_tail_le zero = omega arith
single_tail_le (suc k) = let h = single_tail_le k in omega arith

-- m rho = n, and t goes on with at least n/m times its value, so t P >= t 0 rho^P
module _ (n m : ℕ) (positive : 0 < m) (rho : ℚ) (is : of_int (pos m) *ℚ rho ≡ of_int (pos n)) (t : ℕ → ℕ) (step : (k : ℕ) → n * t k ≤ m * t (suc k)) where
  -- so t P is at least t 0 times rho^P
  pub tail_dominates : (P : ℕ) → of_int (pos (t 0)) *ℚ pow rational_ring rho P ≤ℚ of_int (pos (t P))
  tail_dominates zero = le_equal (ring1 rational_ring (of_int (pos (t 0))) (λ t. search quotes depth 9) tt)
  tail_dominates (suc P) = cancel_mul (of_int (pos m)) (int-< _ _ (omega (arith, ints)))
      (≤ℚ-trans _ _ _ (one (of_int (pos m)) (of_int (pos n)) rho (of_int (pos (t 0))) (pow rational_ring rho P) (of_int (pos (t P))) is (nonneg_int n) (tail_dominates P)) (next (step P)))
    where
      one : (m n r a p t : ℚ) → m *ℚ r ≡ n → of_int (pos 0) ≤ℚ n → a *ℚ p ≤ℚ t → m *ℚ (a *ℚ (r *ℚ p)) ≤ℚ n *ℚ t
      one m n r a p t e low h = le_using n low h (le_equal (combine rational_ring (a *ℚ p) e (ring6 rational_ring m n r a p t (λ m n r a p t. search quotes depth 12) tt)))

      next : n * t P ≤ m * t (suc P) → of_int (pos n) *ℚ of_int (pos (t P)) ≤ℚ of_int (pos m) *ℚ of_int (pos (t (suc P)))
      next h = subst₂ (λ a b. a ≤ℚ b) (of_int-mul (pos n) (pos (t P))) (of_int-mul (pos m) (pos (t (suc P)))) ((of_int-≤ _ _).1 (omega (arith, ints)))

-- 17/31 of a tail is at most the next
pub pair_tail-step : (k : ℕ) → 17 * pair_tail k ≤ 31 * pair_tail (suc k)
unfolding pair_tail
pair_tail-step k = div_ceil-ge (17 * pair_tail k) 31 (omega arith)

-- 17/36 of a tail is at most the next
pub single_tail-step : (k : ℕ) → 17 * single_tail k ≤ 36 * single_tail (suc k)
unfolding single_tail
single_tail-step k = div_ceil-ge (17 * single_tail k) 36 (omega arith)

-- the pair tail begins at 2 2^40
pub pair_tail-start : pair_tail 0 ≡ 2 * 2 ^ 40
unfolding pair_tail
pair_tail-start = refl

-- the single tail begins at 2^40
pub single_tail-start : single_tail 0 ≡ 2 ^ 40
unfolding single_tail
single_tail-start = refl
