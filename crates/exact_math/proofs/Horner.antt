-- Horner's scheme in any commutative ring, from the highest coefficient down.
use mathlib.Core.Path.{◌≡◌, refl, sym, ap, ap₂, ◌∙◌}
use Prim.Native.Nat.{ℕ, zero, suc, ◌+◌, ◌-◌, ◌≤◌}
use native.Mathlib.Omega.{arith}
use lib.IntN.{pos}
use Rattle.exact_math.proofs.Ring.{CommutativeRing, pow}
use Rattle.exact_math.proofs.RingTactic.{quotes, ring3}
use Rattle.exact_math.proofs.Sums.{sum_below, sum_below-congruence, sum_below-mul, sum_below-first}

module _ (R : CommutativeRing) where
  -- c 0 + c 1 t + .. + c (P - 1) t^(P - 1)
  abbrev pub polynomial : ℕ → (ℕ → R.carrier) → R.carrier → R.carrier
  polynomial P c t = sum_below R P (λ l. R.mul (c l) (pow R t l))

  module _ (P : ℕ) (c : ℕ → R.carrier) where
    -- after n steps
    abbrev pub horner_round : R.carrier → ℕ → R.carrier
    horner_round t zero = R.of_int (pos 0)
    horner_round t (suc n) = R.add (R.mul t (horner_round t n)) (c (P - suc n))

    horner_tail : (t : R.carrier) (n : ℕ) → n ≤ P → horner_round t n ≡ sum_below R n (λ j. R.mul (c (P - n + j)) (pow R t j))
    horner_tail t zero h = refl
    horner_tail t (suc n) h =
        ap (λ z. R.add (R.mul t z) (c (P - suc n))) (horner_tail t n (omega arith))
        ∙ ap (λ z. R.add z (c (P - suc n))) (sym (sum_below-mul R t n _))
        ∙ ap (λ i. R.add (sum_below R n (λ j. R.mul t (R.mul (c (P - n + j)) (pow R t j)))) (c i)) {x = P - suc n} {y = P - suc n + 0} (omega arith)
        ∙ R.add_comm _ _
        ∙ ap₂ R.add (sym (R.mul_one _)) (sum_below-congruence R n _ _ (λ j l. term j))
        ∙ sym (sum_below-first R n (λ j. R.mul (c (P - suc n + j)) (pow R t j)))
      where
        term : (j : ℕ) → R.mul t (R.mul (c (P - n + j)) (pow R t j)) ≡ R.mul (c (P - suc n + suc j)) (pow R t (suc j))
        term j = ring3 R t (c (P - n + j)) (pow R t j) (λ t c p. search quotes depth 9) tt ∙ ap (λ i. R.mul (c i) (R.mul t (pow R t j))) {x = P - n + j} {y = P - suc n + suc j} (omega arith)

    -- after all steps the value of the polynomial
    pub horner_sum : (t : R.carrier) → horner_round t P ≡ polynomial P c t
    horner_sum t = horner_tail t P (omega arith) ∙ sum_below-congruence R P _ _ (λ j l. ap (λ i. R.mul (c i) (pow R t j)) {x = P - P + j} {y = j} (omega arith))
