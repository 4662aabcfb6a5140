-- The derivative of the kernel identity by x, read off the same identity in the dual numbers.
use mathlib.Core.Path.{◌≡◌, sym, ap, ap₂, ◌∙◌}
use Prim.Native.Nat.{ℕ, suc, ◌+◌}
use lib.IntN.{pos}
use Rattle.exact_math.proofs.Ring.{CommutativeRing, sub, pow}
use Rattle.exact_math.proofs.RingTactic.{quotes, ring4, ring7}
use Rattle.exact_math.proofs.Sums.{sum_below, sum_below-congruence}
use Rattle.exact_math.specs.Binomials.{choose}
use Rattle.exact_math.proofs.TruncatedKernel.{binomial, kernel_term, kernel_row, kernel_sum, kernel_remainder, kernel_identity}
use Rattle.exact_math.proofs.QuadraticExtension.{Pair, same_pair, dual_ring, sum_below-pair, pow_slope, pow-dual, pow-dual_constant}

module _ (R : CommutativeRing) (x y : R.carrier) where
  -- k C(k + l, k) x^(k - 1) y^l
  abbrev pub slope_term : ℕ → ℕ → R.carrier
  slope_term k l = R.mul (binomial R k l) (R.mul (pow_slope R x k) (pow R y l))

  -- the derivative of the truncated kernel by x
  abbrev pub slope_sum : ℕ → ℕ → R.carrier
  slope_sum n m = sum_below R m (λ l. sum_below R n (λ k. slope_term k l))

  -- the derivative of the remainder by x
  abbrev pub remainder_slope : ℕ → R.carrier
  remainder_slope p = sum_below R (suc p) (λ l. R.mul (R.of_int (pos (choose (p + l) l))) (R.add (R.mul (pow_slope R x (suc p)) (pow R y l)) (R.mul (pow R y (suc p)) (pow_slope R x l))))

  abbrev D : CommutativeRing
  D = dual_ring R

  abbrev X : Pair R
  X = record { re = x; im = R.of_int (pos 1) }

  abbrev Y : Pair R
  Y = record { re = y; im = R.of_int (pos 0) }

  term-dual : (k l : ℕ) → kernel_term D X Y k l ≡ record { re = kernel_term R x y k l; im = slope_term k l }
  term-dual k l =
      ap₂ (λ p q. D.mul (binomial D k l) (D.mul p q)) (pow-dual R x k) (pow-dual_constant R y l)
      ∙ same_pair R _ _
      (ring4 R (pow R x k) (pow_slope R x k) (pow R y l) (binomial R k l) (λ a b c d. search quotes depth 12) tt)
      (ring4 R (pow R x k) (pow_slope R x k) (pow R y l) (binomial R k l) (λ a b c d. search quotes depth 12) tt)

  row-dual : (n l : ℕ) → kernel_row D X Y n l ≡ record { re = kernel_row R x y n l; im = sum_below R n (λ k. slope_term k l) }
  row-dual n l = sum_below-congruence D n _ _ (λ k h. term-dual k l) ∙ sum_below-pair R (R.of_int (pos 0)) n _

  sum-dual : (n m : ℕ) → kernel_sum D X Y n m ≡ record { re = kernel_sum R x y n m; im = slope_sum n m }
  sum-dual n m = sum_below-congruence D m _ _ (λ l h. row-dual n l) ∙ sum_below-pair R (R.of_int (pos 0)) m _

  remainder-dual : (p : ℕ) → kernel_remainder D X Y p ≡ record { re = kernel_remainder R x y p; im = remainder_slope p }
  remainder-dual p = sum_below-congruence D (suc p) _ _ (λ l h. one l) ∙ sum_below-pair R (R.of_int (pos 0)) (suc p) _
    where
      one : (l : ℕ) → D.mul (D.of_int (pos (choose (p + l) l))) (D.add (D.mul (pow D X (suc p)) (pow D Y l)) (D.mul (pow D Y (suc p)) (pow D X l)))
          ≡ record {
            re = R.mul (R.of_int (pos (choose (p + l) l))) (R.add (R.mul (pow R x (suc p)) (pow R y l)) (R.mul (pow R y (suc p)) (pow R x l)));
            im = R.mul (R.of_int (pos (choose (p + l) l))) (R.add (R.mul (pow_slope R x (suc p)) (pow R y l)) (R.mul (pow R y (suc p)) (pow_slope R x l)));
          }
      one l =
          (λ i. D.mul (D.of_int (pos (choose (p + l) l))) (D.add (D.mul (pow-dual R x (suc p) i) (pow-dual_constant R y l i)) (D.mul (pow-dual_constant R y (suc p) i) (pow-dual R x l i))))
          ∙ same_pair R _ _
          (ring7 R (pow R x (suc p)) (pow_slope R x (suc p)) (pow R y l) (pow R y (suc p)) (pow R x l) (pow_slope R x l) (R.of_int (pos (choose (p + l) l))) (λ a b c d e f n. search quotes depth 12) tt)
          (ring7 R (pow R x (suc p)) (pow_slope R x (suc p)) (pow R y l) (pow R y (suc p)) (pow R x l) (pow_slope R x l) (R.of_int (pos (choose (p + l) l))) (λ a b c d e f n. search quotes depth 12) tt)

  -- T - (1 - x - y) T' = N', where ' is the derivative by x
  pub kernel_slope_identity : (p : ℕ) → sub R (kernel_sum R x y (suc p) (suc p)) (R.mul (sub R (sub R (R.of_int (pos 1)) x) y) (slope_sum (suc p) (suc p))) ≡ remainder_slope p
  kernel_slope_identity p =
      ring4 R x y (kernel_sum R x y (suc p) (suc p)) (slope_sum (suc p) (suc p)) (λ x y t s. search quotes depth 12) tt
      ∙ ap (λ t. (sub D (D.of_int (pos 1)) (D.mul (sub D (sub D (D.of_int (pos 1)) X) Y) t)).im) (sym (sum-dual (suc p) (suc p)))
      ∙ ap (λ q. q.im) (kernel_identity D X Y p ∙ remainder-dual p)
