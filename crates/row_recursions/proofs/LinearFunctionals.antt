-- Linear functionals from a ring S to a ring R that S contains, and the one of a list of poles and dipoles.
use mathlib.Core.Path.{◌≡◌, refl, sym, ap, ◌∙◌}
use mathlib.Core.List.{List}
use Prim.Native.Nat.{ℕ, zero, suc}
use lib.IntN.{ℤ, pos}
use Rattle.exact_math.proofs.Ring.{CommutativeRing, pow}
use Rattle.exact_math.proofs.RingTactic.{quotes, ring1, ring2, ring4, ring5, ring6}
use Rattle.exact_math.proofs.Sums.{sum_list, sum_list-congruence, sum_list-add, sum_list-mul}
use Rattle.exact_math.proofs.QuadraticExtension.{Pair, same_pair, mul_pair, add_pair, dual_ring, pow_slope, pow-dual}

-- `constant` takes R into S
pub record LinearFunctional (R S : CommutativeRing) : Type 0 where
  pub constant : R.carrier → S.carrier
  pub constant-int : (k : ℤ) → constant (R.of_int k) ≡ S.of_int k
  pub constant-add : (c d : R.carrier) → constant (R.add c d) ≡ S.add (constant c) (constant d)
  pub constant-mul : (c d : R.carrier) → constant (R.mul c d) ≡ S.mul (constant c) (constant d)
  pub apply : S.carrier → R.carrier
  pub apply-add : (u v : S.carrier) → apply (S.add u v) ≡ R.add (apply u) (apply v)
  pub apply-mul : (c : R.carrier) (u : S.carrier) → apply (S.mul (constant c) u) ≡ R.mul c (apply u)

module _ (R S : CommutativeRing) (L : LinearFunctional R S) where
  pub apply-int : (k : ℤ) (u : S.carrier) → L.apply (S.mul (S.of_int k) u) ≡ R.mul (R.of_int k) (L.apply u)
  apply-int k u = ap (λ c. L.apply (S.mul c u)) (sym (L.constant-int k)) ∙ L.apply-mul (R.of_int k) u

-- ---- functions into a ring
module _ (A : Type 0) (S : CommutativeRing) where
  abbrev pub function_ring : CommutativeRing
  function_ring = record {
    carrier = A → S.carrier;
    of_int = λ k a. S.of_int k;
    add = λ f g a. S.add (f a) (g a);
    mul = λ f g a. S.mul (f a) (g a);
    neg = λ f a. S.neg (f a);
    add_assoc = λ f g h i a. S.add_assoc (f a) (g a) (h a) i;
    add_comm = λ f g i a. S.add_comm (f a) (g a) i;
    add_zero = λ f i a. S.add_zero (f a) i;
    add_neg = λ f i a. S.add_neg (f a) i;
    mul_assoc = λ f g h i a. S.mul_assoc (f a) (g a) (h a) i;
    mul_comm = λ f g i a. S.mul_comm (f a) (g a) i;
    mul_one = λ f i a. S.mul_one (f a) i;
    mul_add = λ f g h i a. S.mul_add (f a) (g a) (h a) i;
    of_int-add = λ j k i a. S.of_int-add j k i;
    of_int-mul = λ j k i a. S.of_int-mul j k i;
  }

  pub pow-at : (f : A → S.carrier) (k : ℕ) (a : A) → pow function_ring f k a ≡ pow S (f a) k
  pow-at f zero a = refl
  pow-at f (suc k) a = ap (S.mul (f a)) (pow-at f k a)

-- ---- poles and dipoles at places x + t v, with t^2 = 0: a phi(x) + b v phi'(x)
module _ (R : CommutativeRing) where
  pub pow-dual_scaled : (x v : R.carrier) (k : ℕ) → pow (dual_ring R) (record { re = x; im = v }) k ≡ record { re = pow R x k; im = R.mul v (pow_slope R x k) }
  pow-dual_scaled x v zero = same_pair R _ _ refl (ring1 R v (λ v. search quotes depth 9) tt)
  pow-dual_scaled x v (suc k) =
      ap (mul_pair R (R.of_int (pos 0)) (record { re = x; im = v })) (pow-dual_scaled x v k)
      ∙ same_pair R _ _
      (ring4 R x v (pow R x k) (pow_slope R x k) (λ x v p q. search quotes depth 12) tt)
      (ring4 R x v (pow R x k) (pow_slope R x k) (λ x v p q. search quotes depth 12) tt ∙ ap (R.mul v) (slope_step k))
    where
      slope_step : (k : ℕ) → R.add (R.mul x (pow_slope R x k)) (R.mul (R.of_int (pos 1)) (pow R x k)) ≡ pow_slope R x (suc k)
      slope_step k = ap (λ p. (mul_pair R (R.of_int (pos 0)) (record { re = x; im = R.of_int (pos 1) }) p).im) (sym (pow-dual R x k)) ∙ ap (λ p. p.im) (pow-dual R x (suc k))

  module _ {A : Type 0} (pole dipole : A → R.carrier) (xs : List A) where
    abbrev pub sources_ring : CommutativeRing
    sources_ring = function_ring A (dual_ring R)

    abbrev pub source_value : A → Pair R → R.carrier
    source_value a w = R.add (R.mul (pole a) w.re) (R.mul (dipole a) w.im)

    pub constant_product : (c d : R.carrier) → record { re = R.mul c d; im = R.of_int (pos 0) } ≡ mul_pair R (R.of_int (pos 0)) (record { re = c; im = R.of_int (pos 0) }) (record { re = d; im = R.of_int (pos 0) })
    constant_product c d = same_pair R _ _ (ring2 R c d (λ c d. search quotes depth 9) tt) (ring2 R c d (λ c d. search quotes depth 9) tt)

    pub value_add : (a : A) (u v : Pair R) → source_value a (add_pair R (R.of_int (pos 0)) u v) ≡ R.add (source_value a u) (source_value a v)
    value_add a u v = ring6 R (pole a) (dipole a) u.re u.im v.re v.im (λ p d a b e f. search quotes depth 9) tt

    pub value_mul : (a : A) (c : R.carrier) (u : Pair R) → source_value a (mul_pair R (R.of_int (pos 0)) (record { re = c; im = R.of_int (pos 0) }) u) ≡ R.mul c (source_value a u)
    value_mul a c u = ring5 R (pole a) (dipole a) c u.re u.im (λ p d c a b. search quotes depth 9) tt

    abbrev pub sources : LinearFunctional R sources_ring
    sources = record {
      constant = λ c a. record { re = c; im = R.of_int (pos 0) };
      constant-int = λ k. refl;
      constant-add = λ c d i a. same_pair R (record { re = R.add c d; im = R.of_int (pos 0) }) (record { re = R.add c d; im = R.add (R.of_int (pos 0)) (R.of_int (pos 0)) }) refl (sym (R.add_zero _)) i;
      constant-mul = λ c d i a. constant_product c d i;
      apply = λ f. sum_list R (λ a. source_value a (f a)) xs;
      apply-add = λ f g. sum_list-congruence R _ _ xs (λ a. value_add a (f a) (g a)) ∙ sum_list-add R _ _ xs;
      apply-mul = λ c f. sum_list-congruence R _ _ xs (λ a. value_mul a c (f a)) ∙ sum_list-mul R c _ xs;
    }
