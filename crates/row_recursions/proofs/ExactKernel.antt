-- The exact kernel (-1)^l C(k + l, k)/e^(k + l + 1), and the coefficients that it makes of moments, in any commutative ring. v = 1/e.
use mathlib.Core.Path.{◌≡◌, sym, ap, ap₂, ◌∙◌}
use Prim.Native.Nat.{ℕ, zero, suc, ◌+◌}
use lib.IntN.{pos, negsuc}
use Rattle.exact_math.proofs.Ring.{CommutativeRing, pow}
use Rattle.exact_math.proofs.RingTactic.{quotes, ring1, ring2, ring3, ring7}
use Rattle.exact_math.proofs.Sums.{sum_below, sum_below-congruence, sum_below-mul}
use Rattle.exact_math.proofs.Powers.{pow-add, pow-mul}
use Rattle.exact_math.proofs.TruncatedKernel.{binomial, kernel_term, kernel_sum}
use Rattle.row_recursions.proofs.LinearFunctionals.{LinearFunctional, apply-int}
use Rattle.exact_math.proofs.Horner.{polynomial}

module _ (R : CommutativeRing) where
  abbrev pub sign : ℕ → R.carrier
  sign l = pow R (R.of_int (negsuc 0)) l

  -- (-1)^l C(k + l, k) v^(k + l + 1)
  abbrev pub exact_kernel : R.carrier → ℕ → ℕ → R.carrier
  exact_kernel v k l = R.mul (sign l) (R.mul (binomial R k l) (R.mul v (pow R v (k + l))))

  -- the kernel times x^k t^l is 1/e times a term of the double sum at x/e and -t/e
  pub kernel_term-is : (v x t : R.carrier) (k l : ℕ)
      → R.mul (R.mul (exact_kernel v k l) (pow R t l)) (pow R x k) ≡ R.mul v (kernel_term R (R.mul x v) (R.neg (R.mul t v)) k l)
  kernel_term-is v x t k l =
      ap (λ p. R.mul (R.mul (R.mul (sign l) (R.mul (binomial R k l) (R.mul v p))) (pow R t l)) (pow R x k)) (pow-add R v k l)
      ∙ ring7 R v (sign l) (binomial R k l) (pow R v k) (pow R v l) (pow R t l) (pow R x k) (λ v s b p q t x. search quotes depth 14) tt
      ∙ ap₂ (λ p q. R.mul v (R.mul (binomial R k l) (R.mul p q))) (sym (pow-mul R x v k))
      (ap (R.mul (sign l)) (sym (pow-mul R t v l)) ∙ sym (pow-mul R (R.of_int (negsuc 0)) (R.mul t v) l) ∙ ap (λ z. pow R z l) (ring2 R t v (λ t v. search quotes depth 9) tt))

module _ (R S : CommutativeRing) (L : LinearFunctional R S) where
  pub constant-pow : (c : R.carrier) (k : ℕ) → L.constant (pow R c k) ≡ pow S (L.constant c) k
  constant-pow c zero = L.constant-int (pos 1)
  constant-pow c (suc k) = L.constant-mul c (pow R c k) ∙ ap (S.mul (L.constant c)) (constant-pow c k)

  apply-zero : L.apply (S.of_int (pos 0)) ≡ R.of_int (pos 0)
  apply-zero =
      ap L.apply (ring1 S (S.of_int (pos 1)) (λ a. search quotes depth 9) tt) ∙ apply-int R S L (pos 0) (S.of_int (pos 1))
      ∙ ring1 R (L.apply (S.of_int (pos 1))) (λ a. search quotes depth 9) tt

  pub apply-sum : (n : ℕ) (f : ℕ → S.carrier) → L.apply (sum_below S n f) ≡ sum_below R n (λ k. L.apply (f k))
  apply-sum zero f = apply-zero
  apply-sum (suc n) f = L.apply-add _ _ ∙ ap (λ z. R.add z (L.apply (f n))) (apply-sum n f)

  pub constant-kernel : (v : R.carrier) (k l : ℕ) → L.constant (exact_kernel R v k l) ≡ exact_kernel S (L.constant v) k l
  constant-kernel v k l =
      L.constant-mul _ _
      ∙ ap₂ S.mul (constant-pow _ l ∙ ap (λ c. pow S c l) (L.constant-int (negsuc 0)))
      (L.constant-mul _ _ ∙ ap₂ S.mul (L.constant-int _) (L.constant-mul _ _ ∙ ap (S.mul (L.constant v)) (constant-pow v (k + l))))

  -- coefficient l of the contribution of the moments L(x^k), k < P
  abbrev pub exact_pair : R.carrier → S.carrier → ℕ → ℕ → R.carrier
  exact_pair v x P l = sum_below R P (λ k. R.mul (exact_kernel R v k l) (L.apply (pow S x k)))

  pair_term : (v t : R.carrier) (x : S.carrier) (k l : ℕ)
      → R.mul (R.mul (exact_kernel R v k l) (L.apply (pow S x k))) (pow R t l)
      ≡ L.apply (S.mul (L.constant v) (kernel_term S (S.mul x (L.constant v)) (S.neg (S.mul (L.constant t) (L.constant v))) k l))
  pair_term v t x k l =
      ring3 R (exact_kernel R v k l) (L.apply (pow S x k)) (pow R t l) (λ a b c. search quotes depth 9) tt
      ∙ sym (L.apply-mul (R.mul (exact_kernel R v k l) (pow R t l)) (pow S x k))
      ∙ ap L.apply (ap (λ c. S.mul c (pow S x k)) (L.constant-mul _ _ ∙ ap₂ S.mul (constant-kernel v k l) (constant-pow t l)) ∙ kernel_term-is S (L.constant v) x (L.constant t) k l)

  -- its polynomial at t is L of the cut kernel
  pub pair_polynomial : (v t : R.carrier) (x : S.carrier) (P : ℕ)
      → polynomial R P (exact_pair v x P) t ≡ R.mul v (L.apply (kernel_sum S (S.mul x (L.constant v)) (S.neg (S.mul (L.constant t) (L.constant v))) P P))
  pair_polynomial v t x P =
      sum_below-congruence R P _ _ (λ l h. row l) ∙ sym (apply-sum P _) ∙ ap L.apply (sum_below-mul S (L.constant v) P _) ∙ L.apply-mul v _
    where
      row : (l : ℕ) → R.mul (exact_pair v x P l) (pow R t l)
          ≡ L.apply (S.mul (L.constant v) (sum_below S P (λ k. kernel_term S (S.mul x (L.constant v)) (S.neg (S.mul (L.constant t) (L.constant v))) k l)))
      row l =
          R.mul_comm _ _ ∙ sym (sum_below-mul R (pow R t l) P _)
          ∙ sum_below-congruence R P _ _ (λ k h. R.mul_comm _ _ ∙ pair_term v t x k l)
          ∙ sym (apply-sum P _) ∙ ap L.apply (sum_below-mul S (L.constant v) P _)
