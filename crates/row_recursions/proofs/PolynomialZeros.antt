-- A polynomial that vanishes at points that go on by thirds, each three times the one before, has no coefficients.
use Rattle.exact_math.proofs.Common.{◌≡◌, refl, sym, ap, ap₂, subst, ◌∙◌, ℕ, zero, suc, arith, pos, negsuc, pow, quotes, combine, ring1, ring2, ring3, ring4, ring5, ring6, ℂ, complex_rationals, of_int_ℂ, ◌+ℂ◌, ◌-ℂ◌, ◌*ℂ◌, neg_ℂ, sum_below-congruence, sum_below-add, sum_below-mul, sum_below-zero, pow-mul, pow-one}
use mathlib.Core.Logic.{⊎_elim}
use Prim.Native.Nat.{◌+◌, ◌-◌, ◌*◌, ◌^◌, ◌<◌, ◌≤◌}
use native.Mathlib.Nat.{eq-or-lt_of_le}
use Rattle.exact_math.proofs.Horner.{polynomial}
use Rattle.row_recursions.proofs.Sides.{reciprocal, reciprocal-right}

abbrev pub three : ℂ
three = of_int_ℂ (pos 3)

at_most : (l n : ℕ) → l < suc n → l ≤ n
at_most l n h = omega arith

-- ---- powers of 3
three_power : (n : ℕ) → 3 ^ suc n ≡ 3 * 3 ^ n
three_power n = omega arith

positive : (n : ℕ) → 0 < 3 ^ n
positive zero = omega arith
positive (suc n) = let e = three_power n in let h = positive n in omega arith

power_less : (l n : ℕ) → l < n → 3 ^ l < 3 ^ n
power_less l zero h = absurd (omega arith)
power_less l (suc n) h = ⊎_elim
    (λ (e : l ≡ n). let p = three_power n in let q = positive n in subst (λ k. 3 ^ k < 3 ^ suc n) (sym e) (omega arith))
    (λ (k : l < n). let p = three_power n in let q = power_less l n k in omega arith)
    (eq-or-lt_of_le (at_most l n h))

int_power : (n : ℕ) → of_int_ℂ (pos (3 ^ n)) ≡ pow complex_rationals three n
int_power zero = refl
int_power (suc n) = ap (λ m. of_int_ℂ (pos m)) (three_power n) ∙ complex_rationals.of_int-mul (pos 3) (pos (3 ^ n)) ∙ ap (λ z. three *ℂ z) (int_power n)

-- 3^n - 3^l is a whole number of at least 1, so what it makes 0 is 0
cancel_difference : (l n : ℕ) (c : ℂ) → l < n → (pow complex_rationals three n -ℂ pow complex_rationals three l) *ℂ c ≡ of_int_ℂ (pos 0) → c ≡ of_int_ℂ (pos 0)
cancel_difference l n c h e =
    let less = power_less l n h in
    let k = 3 ^ n - 3 ^ l in
    let r = reciprocal k in
    let split : of_int_ℂ (pos (3 ^ n)) ≡ of_int_ℂ (pos k) +ℂ of_int_ℂ (pos (3 ^ l)) = ap (λ m. of_int_ℂ (pos m)) {x = 3 ^ n} {y = k + 3 ^ l} (omega arith) ∙ complex_rationals.of_int-add (pos k) (pos (3 ^ l)) in
    let whole : pow complex_rationals three n ≡ of_int_ℂ (pos k) +ℂ pow complex_rationals three l = sym (int_power n) ∙ split ∙ ap (λ z. of_int_ℂ (pos k) +ℂ z) (int_power l) in
    combine complex_rationals (neg_ℂ c) (reciprocal-right k (omega arith))
    (combine complex_rationals (neg_ℂ (r *ℂ c)) whole
    (combine complex_rationals r e
    (ring5 complex_rationals (pow complex_rationals three n) (pow complex_rationals three l) (of_int_ℂ (pos k)) r c (λ p q k r c. search quotes depth 14) tt)))

-- ---- the points at t, of which one has the inverse y
module _ {T : Type 0} (point : T → ℂ) (next : T → T) (triples : (t : T) → point (next t) ≡ three *ℂ point t) (start : T) (y : ℂ) (inverts : point start *ℂ y ≡ of_int_ℂ (pos 1)) where
  start_power : (n : ℕ) → pow complex_rationals (point start) n *ℂ pow complex_rationals y n ≡ of_int_ℂ (pos 1)
  start_power n = sym (pow-mul complex_rationals (point start) y n) ∙ ap (λ z. pow complex_rationals z n) inverts ∙ pow-one complex_rationals n

  pub polynomial_zero : (P : ℕ) (c : ℕ → ℂ) → ((t : T) → polynomial complex_rationals P c (point t) ≡ of_int_ℂ (pos 0)) → (l : ℕ) → l < P → c l ≡ of_int_ℂ (pos 0)
  polynomial_zero zero c h l b = absurd (omega arith)
  polynomial_zero (suc n) c h l b = ⊎_elim
      (λ (e : l ≡ n). ap c e ∙ last (λ k g. lower_zero (polynomial_zero n difference lower) k g))
      (λ (g : l < n). lower_zero (polynomial_zero n difference lower) l g)
      (eq-or-lt_of_le (at_most l n b))
    where
      difference : ℕ → ℂ
      difference k = (pow complex_rationals three n -ℂ pow complex_rationals three k) *ℂ c k

      -- 3^n p(x) - p(3 x) has no leading term
      term : (x : ℂ) (k : ℕ) → (pow complex_rationals three n -ℂ pow complex_rationals three k) *ℂ c k *ℂ pow complex_rationals x k
          ≡ pow complex_rationals three n *ℂ (c k *ℂ pow complex_rationals x k) +ℂ of_int_ℂ (negsuc 0) *ℂ (c k *ℂ pow complex_rationals (three *ℂ x) k)
      term x k =
          ring4 complex_rationals (pow complex_rationals three n) (pow complex_rationals three k) (c k) (pow complex_rationals x k) (λ p q c t. search quotes depth 14) tt
          ∙ ap (λ z. pow complex_rationals three n *ℂ (c k *ℂ pow complex_rationals x k) +ℂ of_int_ℂ (negsuc 0) *ℂ (c k *ℂ z)) (sym (pow-mul complex_rationals three x k))

      lower : (t : T) → polynomial complex_rationals n (λ k. (pow complex_rationals three n -ℂ pow complex_rationals three k) *ℂ c k) (point t) ≡ of_int_ℂ (pos 0)
      lower t =
          let x = point t in
          let p = pow complex_rationals three n in
          let a = polynomial complex_rationals n c x in
          let b = polynomial complex_rationals n c (three *ℂ x) in
          let s = pow complex_rationals x n in
          let u = pow complex_rationals (three *ℂ x) n in
          sum_below-congruence complex_rationals n _ _ (λ k g. term x k) ∙ sum_below-add complex_rationals n _ _ ∙ ap₂ ◌+ℂ◌ (sum_below-mul complex_rationals _ n _) (sum_below-mul complex_rationals _ n _)
          ∙ combine complex_rationals p (h t)
          (combine complex_rationals (of_int_ℂ (negsuc 0)) (subst (λ x. polynomial complex_rationals (suc n) c x ≡ of_int_ℂ (pos 0)) (triples t) (h (next t)))
          (combine complex_rationals (c n) (pow-mul complex_rationals three x n)
          (ring6 complex_rationals p a b s u (c n) (λ p a b s u c. search quotes depth 14) tt)))

      lower_zero : ((k : ℕ) → k < n → (pow complex_rationals three n -ℂ pow complex_rationals three k) *ℂ c k ≡ of_int_ℂ (pos 0)) → (k : ℕ) → k < n → c k ≡ of_int_ℂ (pos 0)
      lower_zero d k g = cancel_difference k n (c k) g (d k g)

      last : ((k : ℕ) → k < n → c k ≡ of_int_ℂ (pos 0)) → c n ≡ of_int_ℂ (pos 0)
      last d =
          let x = point start in
          let q = pow complex_rationals x n in
          let r = pow complex_rationals y n in
          let empty : polynomial complex_rationals n c x ≡ of_int_ℂ (pos 0) =
          sum_below-congruence complex_rationals n _ (λ k. of_int_ℂ (pos 0)) (λ k g. ap (λ z. z *ℂ pow complex_rationals x k) (d k g) ∙ ring1 complex_rationals (pow complex_rationals x k) (λ p. search quotes depth 9) tt)
          ∙ sum_below-zero complex_rationals n in
          combine complex_rationals r (h start)
          (combine complex_rationals (neg_ℂ r) empty
          (combine complex_rationals (neg_ℂ (c n)) (start_power n)
          (ring4 complex_rationals (polynomial complex_rationals n c x) (c n) q r (λ p c q r. search quotes depth 14) tt)))

  pub polynomial_unique : (P : ℕ) (c d : ℕ → ℂ) → ((t : T) → polynomial complex_rationals P c (point t) ≡ polynomial complex_rationals P d (point t)) → (l : ℕ) → l < P → c l ≡ d l
  polynomial_unique P c d h l b = combine complex_rationals (of_int_ℂ (pos 1)) (polynomial_zero P (λ k. c k -ℂ d k) vanishes l b) (ring2 complex_rationals (c l) (d l) (λ c d. search quotes depth 12) tt)
    where
      vanishes : (t : T) → polynomial complex_rationals P (λ k. c k -ℂ d k) (point t) ≡ of_int_ℂ (pos 0)
      vanishes t =
          let x = point t in
          sum_below-congruence complex_rationals P _ (λ k. c k *ℂ pow complex_rationals x k +ℂ of_int_ℂ (negsuc 0) *ℂ (d k *ℂ pow complex_rationals x k))
          (λ k g. ring3 complex_rationals (c k) (d k) (pow complex_rationals x k) (λ c d p. search quotes depth 12) tt)
          ∙ sum_below-add complex_rationals P _ _ ∙ ap (λ z. polynomial complex_rationals P c x +ℂ z) (sum_below-mul complex_rationals _ P _)
          ∙ combine complex_rationals (of_int_ℂ (pos 1)) (h t) (ring2 complex_rationals (polynomial complex_rationals P c x) (polynomial complex_rationals P d x) (λ c d. search quotes depth 12) tt)
