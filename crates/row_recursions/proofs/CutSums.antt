-- The cut terms of two cells, of a far target and of a far source, and the polynomials that they are, in any commutative ring. over is 1/s for the side s.
use mathlib.Core.Path.{◌≡◌, refl, sym, ap, ap₂, ◌∙◌}
use mathlib.Core.List.{List}
use Prim.Native.Nat.{ℕ, zero, suc}
use lib.IntN.{pos}
use Rattle.exact_math.proofs.Ring.{CommutativeRing, pow}
use Rattle.exact_math.proofs.RingTactic.{quotes, combine, ring2, ring3, ring4, ring5, ring9, ring10}
use Rattle.exact_math.proofs.Sums.{sum_below, sum_below-congruence, sum_below-add, sum_below-mul, sum_list, sum_list-congruence, sum_list-mul, sum_list-exchange}
use Rattle.exact_math.proofs.Powers.{pow-mul}
use Rattle.exact_math.proofs.TruncatedKernel.{binomial, kernel_term, kernel_row, kernel_sum}
use Rattle.exact_math.proofs.QuadraticExtension.{Pair, same_pair, mul_pair, neg_pair, dual_ring, sum_below-pair, pow_slope, pow-dual_constant}
use Rattle.exact_math.proofs.KernelSlope.{slope_term, slope_sum}
use Rattle.row_recursions.proofs.LinearFunctionals.{LinearFunctional, function_ring, sources, source_value, pow-at, pow-dual_scaled}
use Rattle.exact_math.proofs.Horner.{polynomial}
use Rattle.row_recursions.proofs.ExactKernel.{exact_pair, pair_polynomial}

-- ---- the double sum at the dual number x + t w, with t^2 = 0
module _ (R : CommutativeRing) (x w y : R.carrier) where
  abbrev D : CommutativeRing
  D = dual_ring R

  abbrev X : Pair R
  X = record { re = x; im = w }

  abbrev Y : Pair R
  Y = record { re = y; im = R.of_int (pos 0) }

  term-dual : (k l : ℕ) → kernel_term D X Y k l ≡ record { re = kernel_term R x y k l; im = R.mul w (slope_term R x y k l) }
  term-dual k l =
      ap₂ (λ p q. D.mul (binomial D k l) (D.mul p q)) (pow-dual_scaled R x w k) (pow-dual_constant R y l)
      ∙ same_pair R _ _
      (ring5 R w (pow R x k) (pow_slope R x k) (pow R y l) (binomial R k l) (λ w a b c d. search quotes depth 12) tt)
      (ring5 R w (pow R x k) (pow_slope R x k) (pow R y l) (binomial R k l) (λ w a b c d. search quotes depth 12) tt)

  row-dual : (n l : ℕ) → kernel_row D X Y n l ≡ record { re = kernel_row R x y n l; im = R.mul w (sum_below R n (λ k. slope_term R x y k l)) }
  row-dual n l = sum_below-congruence D n _ _ (λ k h. term-dual k l) ∙ sum_below-pair R (R.of_int (pos 0)) n _ ∙ same_pair R _ _ refl (sum_below-mul R w n _)

  pub sum-dual : (n m : ℕ) → kernel_sum D X Y n m ≡ record { re = kernel_sum R x y n m; im = R.mul w (slope_sum R x y n m) }
  sum-dual n m = sum_below-congruence D m _ _ (λ l h. row-dual n l) ∙ sum_below-pair R (R.of_int (pos 0)) m _ ∙ same_pair R _ _ refl (sum_below-mul R w m _)

-- ---- the double sum of functions, at one argument
module _ (A : Type 0) (S : CommutativeRing) where
  pub sum-at : (n : ℕ) (f : ℕ → A → S.carrier) (a : A) → sum_below (function_ring A S) n f a ≡ sum_below S n (λ k. f k a)
  sum-at zero f a = refl
  sum-at (suc n) f a = ap (λ z. S.add z (f n a)) (sum-at n f a)

  pub kernel_sum-at : (X Y : A → S.carrier) (n m : ℕ) (a : A) → kernel_sum (function_ring A S) X Y n m a ≡ kernel_sum S (X a) (Y a) n m
  kernel_sum-at X Y n m a =
      sum-at m _ a ∙ sum_below-congruence S m _ _ (λ l h. sum-at n _ a ∙ sum_below-congruence S n _ _ (λ k g.
      ap₂ (λ p q. S.mul (binomial S k l) (S.mul p q)) (pow-at A S X k a) (pow-at A S Y l a)))

module _ (R : CommutativeRing) where
  -- with w = 1/d: a (1/d) sum of C(k + l, k) x^k y^l, and b (1/d^2) sum of k C(k + l, k) x^(k - 1) y^l, where x = u/d and y = -v/d
  abbrev pub pair_cut : R.carrier → R.carrier → R.carrier → R.carrier → R.carrier → ℕ → R.carrier
  pair_cut a b u v w P = R.add
      (R.mul a (R.mul w (kernel_sum R (R.mul u w) (R.neg (R.mul v w)) P P)))
      (R.mul b (R.mul (R.mul w w) (slope_sum R (R.mul u w) (R.neg (R.mul v w)) P P)))

  -- a sum of u^k w^(k + 1) and b sum of k u^(k - 1) w^(k + 1), with w the inverse of the target's distance
  abbrev pub multipole_cut : R.carrier → R.carrier → R.carrier → R.carrier → ℕ → R.carrier
  multipole_cut a b u w P = R.add
      (R.mul a (sum_below R P (λ k. R.mul (pow R u k) (pow R w (suc k)))))
      (R.mul b (sum_below R P (λ k. R.mul (pow_slope R u k) (pow R w (suc k)))))

  -- - a sum of v^l w^(l + 1) and b sum of (l + 1) v^l w^(l + 2), with w the inverse of the source's distance
  abbrev pub local_cut : R.carrier → R.carrier → R.carrier → R.carrier → ℕ → R.carrier
  local_cut a b v w P = R.add
      (R.neg (R.mul a (sum_below R P (λ l. R.mul (pow R v l) (pow R w (suc l))))))
      (R.mul b (sum_below R P (λ l. R.mul (R.of_int (pos (suc l))) (R.mul (pow R v l) (pow R w (suc (suc l)))))))

  -- (over u)^k r^k = u^k (over r)^k
  moved_power : (over u r : R.carrier) (k : ℕ) → R.mul (pow R (R.mul over u) k) (pow R r k) ≡ R.mul (pow R u k) (pow R (R.mul over r) k)
  moved_power over u r k =
      sym (pow-mul R (R.mul over u) r k) ∙ ap (λ z. pow R z k) (ring3 R over u r (λ o u r. search quotes depth 9) tt) ∙ pow-mul R u (R.mul over r) k

  -- ---- one source: r = s/zeta and the place v of the target
  module _ (a b over r v : R.carrier) where
    abbrev pub exact_single : ℕ → R.carrier
    exact_single l = R.add (R.neg (R.mul a (pow R r (suc l)))) (R.mul (R.of_int (pos (suc l))) (R.mul (R.mul b over) (pow R r (suc (suc l)))))

    single_term : (l : ℕ) → R.mul over (R.mul (exact_single l) (pow R (R.mul over v) l))
        ≡ R.add (R.mul (R.neg a) (R.mul (pow R v l) (pow R (R.mul over r) (suc l)))) (R.mul b (R.mul (R.of_int (pos (suc l))) (R.mul (pow R v l) (pow R (R.mul over r) (suc (suc l))))))
    single_term l =
        combine R (R.mul over (R.add (R.neg (R.mul a r)) (R.mul (R.of_int (pos (suc l))) (R.mul (R.mul b over) (R.mul r r))))) (moved_power over v r l)
        (ring9 R a b over r (pow R (R.mul over v) l) (pow R r l) (pow R v l) (pow R (R.mul over r) l) (R.of_int (pos (suc l))) (λ a b o r p q e f n. search quotes depth 14) tt)

    pub single_polynomial : (P : ℕ) → R.mul over (polynomial R P exact_single (R.mul over v)) ≡ local_cut a b v (R.mul over r) P
    single_polynomial P =
        sym (sum_below-mul R over P _) ∙ sum_below-congruence R P _ _ (λ l h. single_term l) ∙ sum_below-add R P _ _
        ∙ ap₂ R.add (sum_below-mul R (R.neg a) P _ ∙ ring2 R a (sum_below R P (λ l. R.mul (pow R v l) (pow R (R.mul over r) (suc l)))) (λ a s. search quotes depth 9) tt) (sum_below-mul R b P _)

  -- ---- a list of sources at the offsets u from a centre
  module _ {A : Type 0} (pole dipole : A → R.carrier) (xs : List A) (over : R.carrier) (u : A → R.carrier) where
    abbrev S : CommutativeRing
    S = function_ring A (dual_ring R)

    abbrev L : LinearFunctional R S
    L = sources R pole dipole xs

    abbrev pub scaled : A → Pair R
    scaled j = record { re = R.mul over (u j); im = over }

    -- v is 1/e, at a target with the offset t from the other centre
    pub pair_cut_sum : (v t : R.carrier) (P : ℕ)
        → R.mul over (polynomial R P (exact_pair R S L v scaled P) (R.mul over t)) ≡ sum_list R (λ j. pair_cut (pole j) (dipole j) (u j) t (R.mul over v) P) xs
    pair_cut_sum v t P =
        ap (R.mul over) (pair_polynomial R S L v (R.mul over t) scaled P) ∙ sym (R.mul_assoc _ _ _)
        ∙ sym (sum_list-mul R (R.mul over v) _ xs) ∙ sum_list-congruence R _ _ xs one
      where
        first : (j : A) → mul_pair R (R.of_int (pos 0)) (scaled j) (L.constant v j) ≡ record { re = R.mul (u j) (R.mul over v); im = R.mul over v }
        first j = same_pair R _ _ (ring3 R over (u j) v (λ o u v. search quotes depth 9) tt) (ring3 R over (u j) v (λ o u v. search quotes depth 9) tt)

        second : (j : A) → neg_pair R (R.of_int (pos 0)) (mul_pair R (R.of_int (pos 0)) (L.constant (R.mul over t) j) (L.constant v j)) ≡ record { re = R.neg (R.mul t (R.mul over v)); im = R.of_int (pos 0) }
        second j = same_pair R _ _ (ring3 R over t v (λ o u v. search quotes depth 9) tt) (ring3 R over t v (λ o u v. search quotes depth 9) tt)

        at_source : (j : A) → kernel_sum S (S.mul scaled (L.constant v)) (S.neg (S.mul (L.constant (R.mul over t)) (L.constant v))) P P j
            ≡ record { re = kernel_sum R (R.mul (u j) (R.mul over v)) (R.neg (R.mul t (R.mul over v))) P P; im = R.mul (R.mul over v) (slope_sum R (R.mul (u j) (R.mul over v)) (R.neg (R.mul t (R.mul over v))) P P) }
        at_source j =
            kernel_sum-at A (dual_ring R) _ _ P P j ∙ ap₂ (λ p q. kernel_sum (dual_ring R) p q P P) (first j) (second j)
            ∙ sum-dual R (R.mul (u j) (R.mul over v)) (R.mul over v) (R.neg (R.mul t (R.mul over v))) P P

        one : (j : A) → R.mul (R.mul over v) (source_value R pole dipole xs j (kernel_sum S (S.mul scaled (L.constant v)) (S.neg (S.mul (L.constant (R.mul over t)) (L.constant v))) P P j))
            ≡ pair_cut (pole j) (dipole j) (u j) t (R.mul over v) P
        one j =
            ap (λ w. R.mul (R.mul over v) (source_value R pole dipole xs j w)) (at_source j)
            ∙ ring5 R (pole j) (dipole j) (R.mul over v) (kernel_sum R (R.mul (u j) (R.mul over v)) (R.neg (R.mul t (R.mul over v))) P P) (slope_sum R (R.mul (u j) (R.mul over v)) (R.neg (R.mul t (R.mul over v))) P P)
            (λ a b w p q. search quotes depth 12) tt

    -- r is s over the target's distance
    multipole_term : (r : R.carrier) (k : ℕ) (j : A)
        → R.add (R.mul (pole j) (R.mul (pow R (u j) k) (pow R (R.mul over r) (suc k)))) (R.mul (dipole j) (R.mul (pow_slope R (u j) k) (pow R (R.mul over r) (suc k))))
        ≡ R.mul (R.mul (R.mul over r) (pow R r k)) (source_value R pole dipole xs j (pow S scaled k j))
    multipole_term r k j =
        split k ∙ ap (λ w. R.mul (R.mul (R.mul over r) (pow R r k)) (source_value R pole dipole xs j w)) (sym (pow-at A (dual_ring R) scaled k j ∙ pow-dual_scaled R (R.mul over (u j)) over k))
      where
        split : (k : ℕ) → R.add (R.mul (pole j) (R.mul (pow R (u j) k) (pow R (R.mul over r) (suc k)))) (R.mul (dipole j) (R.mul (pow_slope R (u j) k) (pow R (R.mul over r) (suc k))))
            ≡ R.mul (R.mul (R.mul over r) (pow R r k)) (R.add (R.mul (pole j) (pow R (R.mul over (u j)) k)) (R.mul (dipole j) (R.mul over (pow_slope R (R.mul over (u j)) k))))
        split zero = ring4 R (pole j) (dipole j) over r (λ a b o r. search quotes depth 14) tt
        split (suc k) = combine R (R.neg (R.mul (R.mul over r) (R.mul r (R.add (R.mul (pole j) (R.mul over (u j))) (R.mul (dipole j) (R.mul over (R.of_int (pos (suc k)))))))))
            (moved_power over (u j) r k)
            (ring10 R (pole j) (dipole j) over (u j) r (pow R (R.mul over (u j)) k) (pow R r k) (pow R (u j) k) (pow R (R.mul over r) k) (R.of_int (pos (suc k))) (λ a b o u r p q e f n. search quotes depth 14) tt)

    pub multipole_cut_sum : (r : R.carrier) (P : ℕ)
        → R.mul over (R.mul r (polynomial R P (λ k. L.apply (pow S scaled k)) r)) ≡ sum_list R (λ j. multipole_cut (pole j) (dipole j) (u j) (R.mul over r) P) xs
    multipole_cut_sum r P =
        sym (R.mul_assoc _ _ _) ∙ sym (sum_below-mul R (R.mul over r) P _)
        ∙ sum_below-congruence R P _ _ (λ k h. regroup k ∙ sym (sum_list-mul R _ _ xs) ∙ sum_list-congruence R _ _ xs (λ j. sym (multipole_term r k j)))
        ∙ sym (sum_list-exchange R P _ xs)
        ∙ sum_list-congruence R _ _ xs (λ j. sum_below-add R P _ _ ∙ ap₂ R.add (sum_below-mul R (pole j) P _) (sum_below-mul R (dipole j) P _))
      where
        regroup : (k : ℕ) → R.mul (R.mul over r) (R.mul (L.apply (pow S scaled k)) (pow R r k)) ≡ R.mul (R.mul (R.mul over r) (pow R r k)) (L.apply (pow S scaled k))
        regroup k = ring4 R over r (pow R r k) (L.apply (pow S scaled k)) (λ o r p l. search quotes depth 9) tt
