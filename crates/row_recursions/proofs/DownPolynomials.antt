-- The coefficients of a polynomial about another centre, in any commutative ring.
use mathlib.Core.Path.{◌≡◌, refl, ap, ap₂, ◌∙◌}
use Prim.Native.Nat.{ℕ, zero, suc, ◌-◌, ◌≤◌}
use native.Mathlib.Omega.{arith}
use lib.IntN.{pos}
use Rattle.exact_math.proofs.Ring.{CommutativeRing, sub, pow}
use Rattle.exact_math.proofs.RingTactic.{quotes, combine, ring1, ring2, ring6, ring10}
use Rattle.exact_math.proofs.Sums.{sum_below, sum_below-congruence, sum_below-add, sum_below-mul, sum_below-first, sum_below-zero}
use Rattle.exact_math.proofs.Horner.{polynomial, horner_round, horner_sum}

module _ (R : CommutativeRing) where
  -- ---- about another centre: 4 t = 2 T + q, where 2 half = 1
  module _ (half q : R.carrier) (P : ℕ) (c : ℕ → R.carrier) where
    abbrev pub down_coefficient : ℕ → ℕ → R.carrier
    down_coefficient zero k = R.of_int (pos 0)
    down_coefficient (suc n) zero = R.add (c (P - suc n)) (R.mul (R.mul half half) (R.mul q (down_coefficient n zero)))
    down_coefficient (suc n) (suc k) = R.mul (R.mul half half) (R.add (R.mul q (down_coefficient n (suc k))) (R.mul (R.of_int (pos 2)) (down_coefficient n k)))

    down_above : (n k : ℕ) → n ≤ k → down_coefficient n k ≡ R.of_int (pos 0)
    down_above zero k h = refl
    down_above (suc n) zero h = absurd (omega arith)
    down_above (suc n) (suc k) h =
        ap₂ (λ a b. R.mul (R.mul half half) (R.add (R.mul q a) (R.mul (R.of_int (pos 2)) b))) (down_above n (suc k) (omega arith)) (down_above n k (omega arith))
        ∙ ring2 R half q (λ h q. search quotes depth 12) tt

    -- the coefficient k about the new centre, of the polynomial halved
    abbrev pub exact_down : ℕ → R.carrier
    exact_down k = R.mul half (down_coefficient P k)

  module _ (half q t T : R.carrier) (half-is : R.mul (R.of_int (pos 2)) half ≡ R.of_int (pos 1))
      (moves : R.mul (R.of_int (pos 4)) t ≡ R.add (R.mul (R.of_int (pos 2)) T) q) where
    module _ (p : ℕ) (c : ℕ → R.carrier) where
      abbrev E : ℕ → ℕ → R.carrier
      E = down_coefficient half q (suc p) c

      abbrev rest : ℕ → ℕ → R.carrier
      rest n k = R.mul (E n (suc k)) (R.mul T (pow R T k))

      round_term : (n k : ℕ) → R.mul (E (suc n) (suc k)) (R.mul T (pow R T k))
          ≡ R.add (R.mul (R.mul (R.mul half half) q) (rest n k)) (R.mul (R.mul (R.mul half half) (R.mul (R.of_int (pos 2)) T)) (R.mul (E n k) (pow R T k)))
      round_term n k = ring6 R half q T (pow R T k) (E n (suc k)) (E n k) (λ h q t p a b. search quotes depth 14) tt

      round_sum : (n : ℕ) → n ≤ p → polynomial R (suc p) (E (suc n)) T ≡ R.add (R.mul t (polynomial R (suc p) (E n) T)) (c (suc p - suc n))
      round_sum n h =
          let s = sum_below R p (λ k. R.mul (E n k) (pow R T k)) in
          let r = sum_below R p (rest n) in
          let e = E n 0 in
          let b = E n p in
          let square = R.mul half half in
          sum_below-first R p (λ k. R.mul (E (suc n) k) (pow R T k))
          ∙ ap (R.add (R.mul (E (suc n) 0) (R.of_int (pos 1)))) (sum_below-congruence R p _ _ (λ k l. round_term n k) ∙ sum_below-add R p _ _ ∙ ap₂ R.add (sum_below-mul R _ p _) (sum_below-mul R _ p _))
          ∙ combine R (R.neg (R.mul square q)) (sum_below-first R p (λ k. R.mul (E n k) (pow R T k)))
          (combine R (R.mul (sub R (R.mul square q) t) (pow R T p)) (down_above half q (suc p) c n p h)
          (combine R (R.neg (R.mul square s)) moves
          (combine R (R.mul (R.mul t s) (R.add (R.mul (R.of_int (pos 2)) half) (R.of_int (pos 1)))) half-is
          (ring10 R half q t T e r s b (pow R T p) (c (suc p - suc n)) (λ h q t m e r s b p c. search quotes depth 16) tt))))

      down_sum : (n : ℕ) → n ≤ suc p → polynomial R (suc p) (E n) T ≡ horner_round R (suc p) c t n
      down_sum zero h = sum_below-congruence R (suc p) _ _ (λ k l. ring1 R (pow R T k) (λ p. search quotes depth 9) tt) ∙ sum_below-zero R (suc p)
      down_sum (suc n) h = round_sum n (omega arith) ∙ ap (λ z. R.add (R.mul t z) (c (suc p - suc n))) (down_sum n (omega arith))

    -- the same polynomial, halved
    pub down_polynomial : (P : ℕ) (c : ℕ → R.carrier) → R.mul (R.of_int (pos 2)) (polynomial R P (exact_down half q P c) T) ≡ polynomial R P c t
    down_polynomial zero c = ring1 R half (λ h. search quotes depth 9) tt
    down_polynomial (suc p) c =
        ap (R.mul (R.of_int (pos 2))) (sum_below-congruence R (suc p) _ _ (λ k l. R.mul_assoc _ _ _) ∙ sum_below-mul R half (suc p) _)
        ∙ combine R (polynomial R (suc p) (E p c (suc p)) T) half-is (ring2 R half (polynomial R (suc p) (E p c (suc p)) T) (λ h p. search quotes depth 12) tt)
        ∙ down_sum p c (suc p) (omega arith) ∙ horner_sum R (suc p) c t
