-- A ring with a square root adjoined: pairs (re, im) for re + im t, where t^2 = c.
-- c = -1 gives the complex numbers over R, and c = 0 the dual numbers, where `re` is the value and `im` the derivative.
use mathlib.Core.Path.{◌≡◌, refl, sym, ap, ◌∙◌}
use Prim.Native.Nat.{ℕ, zero, suc, ◌+◌}
use native.Mathlib.Omega.{arith}
use lib.IntN.{ℤ, pos, negsuc, ◌+ℤ◌, ◌*ℤ◌}
use Rattle.exact_math.proofs.Ring.{CommutativeRing, pow}
use Rattle.exact_math.proofs.RingTactic.{quotes, ring1, ring2, ring3, ring5, ring7}
use Rattle.exact_math.proofs.Sums.{sum_below}

-- re + im t
pub record Pair (R : CommutativeRing) : Type 0 where
  pub re : R.carrier
  pub im : R.carrier

module _ (R : CommutativeRing) where
  -- equal where both parts are
  pub same_pair : (p q : Pair R) → p.re ≡ q.re → p.im ≡ q.im → p ≡ q
  same_pair p q e f = λ i. record { re = e i; im = f i }

  module _ (c : R.carrier) where
    -- the product, by t^2 = c
    abbrev pub mul_pair : Pair R → Pair R → Pair R
    mul_pair p q = record {
      re = R.add (R.mul p.re q.re) (R.mul c (R.mul p.im q.im));
      im = R.add (R.mul p.re q.im) (R.mul p.im q.re);
    }

    abbrev pub add_pair : Pair R → Pair R → Pair R
    add_pair p q = record { re = R.add p.re q.re; im = R.add p.im q.im }

    abbrev pub neg_pair : Pair R → Pair R
    neg_pair p = record { re = R.neg p.re; im = R.neg p.im }

    abbrev pub int_pair : ℤ → Pair R
    int_pair k = record { re = R.of_int k; im = R.of_int (pos 0) }

    pub add_assoc_pair : (p q r : Pair R) → add_pair (add_pair p q) r ≡ add_pair p (add_pair q r)
    add_assoc_pair p q r = same_pair _ _ (R.add_assoc _ _ _) (R.add_assoc _ _ _)

    pub add_comm_pair : (p q : Pair R) → add_pair p q ≡ add_pair q p
    add_comm_pair p q = same_pair _ _ (R.add_comm _ _) (R.add_comm _ _)

    pub add_zero_pair : (p : Pair R) → add_pair p (int_pair (pos 0)) ≡ p
    add_zero_pair p = same_pair _ _ (R.add_zero _) (R.add_zero _)

    pub add_neg_pair : (p : Pair R) → add_pair p (neg_pair p) ≡ int_pair (pos 0)
    add_neg_pair p = same_pair _ _ (R.add_neg _) (R.add_neg _)

    pub mul_assoc_pair : (p q r : Pair R) → mul_pair (mul_pair p q) r ≡ mul_pair p (mul_pair q r)
    mul_assoc_pair p q r = same_pair _ _
        (ring7 R c p.re p.im q.re q.im r.re r.im (λ c a b d e f g. search quotes depth 12) tt)
        (ring7 R c p.re p.im q.re q.im r.re r.im (λ c a b d e f g. search quotes depth 12) tt)

    pub mul_comm_pair : (p q : Pair R) → mul_pair p q ≡ mul_pair q p
    mul_comm_pair p q = same_pair _ _
        (ring5 R c p.re p.im q.re q.im (λ c a b d e. search quotes depth 12) tt)
        (ring5 R c p.re p.im q.re q.im (λ c a b d e. search quotes depth 12) tt)

    pub mul_one_pair : (p : Pair R) → mul_pair p (int_pair (pos 1)) ≡ p
    mul_one_pair p = same_pair _ _
        (ring3 R c p.re p.im (λ c a b. search quotes depth 12) tt)
        (ring3 R c p.re p.im (λ c a b. search quotes depth 12) tt)

    pub mul_add_pair : (p q r : Pair R) → mul_pair p (add_pair q r) ≡ add_pair (mul_pair p q) (mul_pair p r)
    mul_add_pair p q r = same_pair _ _
        (ring7 R c p.re p.im q.re q.im r.re r.im (λ c a b d e f g. search quotes depth 12) tt)
        (ring7 R c p.re p.im q.re q.im r.re r.im (λ c a b d e f g. search quotes depth 12) tt)

    pub int_add : (a b : ℤ) → int_pair (a +ℤ b) ≡ add_pair (int_pair a) (int_pair b)
    int_add a b = same_pair _ _ (R.of_int-add a b) (sym (R.add_zero _))

    pub int_mul : (a b : ℤ) → int_pair (a *ℤ b) ≡ mul_pair (int_pair a) (int_pair b)
    int_mul a b = same_pair _ _
        (R.of_int-mul a b ∙ ring3 R c (R.of_int a) (R.of_int b) (λ c a b. search quotes depth 12) tt)
        (ring2 R (R.of_int a) (R.of_int b) (λ a b. search quotes depth 12) tt)

    -- the ring of these pairs
    abbrev pub quadratic_ring : CommutativeRing
    quadratic_ring = record {
      carrier = Pair R;
      of_int = int_pair;
      add = add_pair;
      mul = mul_pair;
      neg = neg_pair;
      add_assoc = add_assoc_pair;
      add_comm = add_comm_pair;
      add_zero = add_zero_pair;
      add_neg = add_neg_pair;
      mul_assoc = mul_assoc_pair;
      mul_comm = mul_comm_pair;
      mul_one = mul_one_pair;
      mul_add = mul_add_pair;
      of_int-add = int_add;
      of_int-mul = int_mul;
    }

    -- sums by parts
    pub sum_below-pair : (n : ℕ) (f : ℕ → Pair R) → sum_below quadratic_ring n f ≡ record { re = sum_below R n (λ k. (f k).re); im = sum_below R n (λ k. (f k).im) }
    sum_below-pair zero f = refl
    sum_below-pair (suc n) f = ap (λ s. add_pair s (f n)) (sum_below-pair n f)

  -- t^2 = -1
  abbrev pub complex_ring : CommutativeRing
  complex_ring = quadratic_ring (R.of_int (negsuc 0))

  -- t^2 = 0
  abbrev pub dual_ring : CommutativeRing
  dual_ring = quadratic_ring (R.of_int (pos 0))

  -- the derivative of x^k
  abbrev pub pow_slope : R.carrier → ℕ → R.carrier
  pow_slope x zero = R.of_int (pos 0)
  pow_slope x (suc k) = R.mul (R.of_int (pos (suc k))) (pow R x k)

  -- n + 1
  pub of_int-suc : (n : ℕ) → R.of_int (pos (suc n)) ≡ R.add (R.of_int (pos n)) (R.of_int (pos 1))
  of_int-suc n = ap (λ m. R.of_int (pos m)) {x = suc n} {y = n + 1} (omega arith) ∙ R.of_int-add (pos n) (pos 1)

  slope-suc : (x : R.carrier) (k : ℕ) → R.add (R.mul x (pow_slope x k)) (R.mul (R.of_int (pos 1)) (pow R x k)) ≡ pow_slope x (suc k)
  slope-suc x zero = ring1 R x (λ x. search quotes depth 9) tt
  slope-suc x (suc k) =
      ring3 R x (pow R x k) (R.of_int (pos (suc k))) (λ x p n. search quotes depth 9) tt
      ∙ ap (λ n. R.mul n (R.mul x (pow R x k))) (sym (of_int-suc (suc k)))

  -- the power of x + t holds x^k and its derivative
  pub pow-dual : (x : R.carrier) (k : ℕ) → pow dual_ring (record { re = x; im = R.of_int (pos 1) }) k ≡ record { re = pow R x k; im = pow_slope x k }
  pow-dual x zero = same_pair _ _ refl (ring1 R x (λ x. search quotes depth 9) tt)
  pow-dual x (suc k) =
      ap (mul_pair (R.of_int (pos 0)) (record { re = x; im = R.of_int (pos 1) })) (pow-dual x k)
      ∙ same_pair _ _ (ring3 R x (pow R x k) (pow_slope x k) (λ x p q. search quotes depth 9) tt) (slope-suc x k)

  -- the power of a constant holds no derivative
  pub pow-dual_constant : (x : R.carrier) (k : ℕ) → pow dual_ring (record { re = x; im = R.of_int (pos 0) }) k ≡ record { re = pow R x k; im = R.of_int (pos 0) }
  pow-dual_constant x zero = refl
  pow-dual_constant x (suc k) = ap (mul_pair (R.of_int (pos 0)) (record { re = x; im = R.of_int (pos 0) })) (pow-dual_constant x k)
      ∙ same_pair _ _ (ring2 R x (pow R x k) (λ x p. search quotes depth 9) tt) (ring2 R x (pow R x k) (λ x p. search quotes depth 9) tt)
