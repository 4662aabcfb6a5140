-- The disc of radius r about 0: z with rational parts is in it where norm z <= r^2, for a rational r >= 0. No square root is taken.
use Rattle.exact_math.proofs.Common.{◌≡◌, sym, ap, subst, subst₂, ◌∙◌, ℕ, zero, suc, pos, quotes, combine, ring1, ring2, ring4, pow, ℚ, rational_ring, of_int, ◌+ℚ◌, ◌*ℚ◌, ◌-ℚ◌, neg_ℚ, inverse, ◌≤ℚ◌, ◌<ℚ◌, compare_ℚ, ≤ℚ-refl, ≤ℚ-trans, *ℚ-nonneg, not_≤ℚ, <ℚ-from_not, le_equal, le_plus, le_using, rearrange, add_mono, mul_mono, cancel_mul, from_difference, difference_nonneg, nonneg, nonneg_add, nonneg_int, ≤-from_<, inverse_right, inverse_positive, positive_mul, absolute, absolute_le, absolute_nonneg, sum_below, ℂ, complex_rationals, of_int_ℂ, ◌+ℂ◌, ◌*ℂ◌, neg_ℂ, norm, norm-mul, parts-add, parts-neg, parts-int, size}
use Rattle.exact_math.proofs.RationalOrder.{square_nonneg, absolute_within}
use mathlib.Core.Logic.{⊎_elim}

-- p <= q from p^2 <= q^2, for q >= 0
pub square_root_le : (p q : ℚ) → of_int (pos 0) ≤ℚ q → p *ℚ p ≤ℚ q *ℚ q → p ≤ℚ q
square_root_le p q low h = ⊎_elim (λ k. k) (λ k. absurd (not_≤ℚ _ _ (above k) (below k))) (compare_ℚ p q)
  where
    above : q <ℚ p → of_int (pos 0) <ℚ (p -ℚ q) *ℚ (p -ℚ q)
    above k =
        let d : of_int (pos 0) <ℚ p -ℚ q = <ℚ-from_not _ _ (λ l. not_≤ℚ _ _ k (rearrange l (ring2 rational_ring p q (λ p q. search quotes depth 9) tt))) in
        positive_mul _ _ d d

    below : q <ℚ p → (p -ℚ q) *ℚ (p -ℚ q) ≤ℚ of_int (pos 0)
    below k = le_using (of_int (pos 1)) (nonneg_int 1) h
        (le_plus (of_int (pos 2) *ℚ (q *ℚ (p -ℚ q))) (*ℚ-nonneg _ _ (nonneg_int 2) (*ℚ-nonneg _ _ low (difference_nonneg (≤-from_< k)))) (ring2 rational_ring p q (λ p q. search quotes depth 12) tt))

-- z is at most r from 0
pub record InDisc (z : ℂ) (r : ℚ) : Type 0 where
  pub bound : of_int (pos 0) ≤ℚ r
  pub norm_le : norm z ≤ℚ r *ℚ r

-- 0 <= norm z
pub norm_nonneg : (z : ℂ) → of_int (pos 0) ≤ℚ norm z
norm_nonneg z = nonneg_add _ _ (square_nonneg z.re) (square_nonneg z.im)

-- a b <= c d from a <= c and b <= d
pub product_mono : {a b c d : ℚ} → of_int (pos 0) ≤ℚ b → of_int (pos 0) ≤ℚ c → a ≤ℚ c → b ≤ℚ d → a *ℚ b ≤ℚ c *ℚ d
product_mono {a} {b} {c} {d} b≥0 c≥0 h k =
    ≤ℚ-trans _ _ _ (subst₂ (λ p q. p ≤ℚ q) (ring2 rational_ring a b (λ a b. search quotes depth 9) tt) (ring2 rational_ring b c (λ b c. search quotes depth 9) tt) (mul_mono b b≥0 h)) (mul_mono c c≥0 k)

-- the inequality of Cauchy in two dimensions
cauchy : (z w : ℂ) → (z.re *ℚ w.re +ℚ z.im *ℚ w.im) *ℚ (z.re *ℚ w.re +ℚ z.im *ℚ w.im) ≤ℚ norm z *ℚ norm w
cauchy z w = le_plus ((z.re *ℚ w.im -ℚ z.im *ℚ w.re) *ℚ (z.re *ℚ w.im -ℚ z.im *ℚ w.re)) (square_nonneg _) (ring4 rational_ring z.re z.im w.re w.im (λ a b c d. search quotes depth 12) tt)

dot_le : {z w : ℂ} {r t : ℚ} → InDisc z r → InDisc w t → z.re *ℚ w.re +ℚ z.im *ℚ w.im ≤ℚ r *ℚ t
dot_le {z} {w} {r} {t} h k = square_root_le _ _ (*ℚ-nonneg _ _ h.bound k.bound)
    (≤ℚ-trans _ _ _ (cauchy z w) (≤ℚ-trans _ _ _ (product_mono (norm_nonneg w) (*ℚ-nonneg _ _ h.bound h.bound) h.norm_le k.norm_le)
    (le_equal (ring2 rational_ring r t (λ r t. search quotes depth 9) tt))))

sum_square : (a b c d r t : ℚ) → a *ℚ a +ℚ b *ℚ b ≤ℚ r *ℚ r → c *ℚ c +ℚ d *ℚ d ≤ℚ t *ℚ t → a *ℚ c +ℚ b *ℚ d ≤ℚ r *ℚ t
    → (a +ℚ c) *ℚ (a +ℚ c) +ℚ (b +ℚ d) *ℚ (b +ℚ d) ≤ℚ (r +ℚ t) *ℚ (r +ℚ t)
sum_square a b c d r t h k l = subst₂ (λ p q. p ≤ℚ q)
    (ring4 rational_ring a b c d (λ a b c d. search quotes depth 12) tt)
    (ring2 rational_ring r t (λ r t. search quotes depth 12) tt)
    (add_mono (add_mono h k) (mul_mono (of_int (pos 2)) (nonneg_int 2) l))

-- z + w
pub InDisc-add : {z w : ℂ} {r t : ℚ} → InDisc z r → InDisc w t → InDisc (z +ℂ w) (r +ℚ t)
InDisc-add {z} {w} {r} {t} h k = record {
  bound = nonneg_add _ _ h.bound k.bound;
  norm_le = rw (parts-add z w) (sum_square z.re z.im w.re w.im r t h.norm_le k.norm_le (dot_le h k));
}

-- z w
pub InDisc-mul : {z w : ℂ} {r t : ℚ} → InDisc z r → InDisc w t → InDisc (z *ℂ w) (r *ℚ t)
InDisc-mul {z} {w} {r} {t} h k = record {
  bound = *ℚ-nonneg _ _ h.bound k.bound;
  norm_le = rw (norm-mul z w) (≤ℚ-trans _ _ _ (product_mono (norm_nonneg w) (*ℚ-nonneg _ _ h.bound h.bound) h.norm_le k.norm_le)
      (le_equal (ring2 rational_ring r t (λ r t. search quotes depth 9) tt)));
}

-- the norm of -z
pub norm-neg : (z : ℂ) → norm (neg_ℂ z) ≡ norm z
norm-neg z = ap norm (parts-neg z) ∙ ring2 rational_ring z.re z.im (λ a b. search quotes depth 9) tt

-- -z
pub InDisc-neg : {z : ℂ} {r : ℚ} → InDisc z r → InDisc (neg_ℂ z) r
InDisc-neg {z} {r} h = record { bound = h.bound; norm_le = rw (norm-neg z) h.norm_le }

-- a larger disc
pub InDisc-mono : {z : ℂ} {r t : ℚ} → InDisc z r → r ≤ℚ t → InDisc z t
InDisc-mono {z} {r} {t} h k = record {
  bound = ≤ℚ-trans _ _ _ h.bound k;
  norm_le = ≤ℚ-trans _ _ _ h.norm_le (product_mono h.bound (≤ℚ-trans _ _ _ h.bound k) k k);
}

-- n
pub InDisc-int : (n : ℕ) → InDisc (of_int_ℂ (pos n)) (of_int (pos n))
InDisc-int n = record {
  bound = nonneg_int n;
  norm_le = rw (parts-int (pos n)) (le_equal (ring1 rational_ring (of_int (pos n)) (λ a. search quotes depth 9) tt));
}

-- z^n
pub InDisc-pow : {z : ℂ} {r : ℚ} → InDisc z r → (n : ℕ) → InDisc (pow complex_rationals z n) (pow rational_ring r n)
InDisc-pow h zero = InDisc-int 1
InDisc-pow h (suc n) = InDisc-mul h (InDisc-pow h n)

-- a sum, with the sum of the radii
pub InDisc-sum_below : (n : ℕ) (f : ℕ → ℂ) (g : ℕ → ℚ) → ((k : ℕ) → InDisc (f k) (g k)) → InDisc (sum_below complex_rationals n f) (sum_below rational_ring n g)
InDisc-sum_below zero f g h = InDisc-int 0
InDisc-sum_below (suc n) f g h = InDisc-add (InDisc-sum_below n f g h) (h n)

-- each part of z is at most r in size
module _ {z : ℂ} {r : ℚ} (h : InDisc z r) where
  part_le : (p q : ℚ) → p *ℚ p +ℚ q *ℚ q ≤ℚ r *ℚ r → absolute p ≤ℚ r
  part_le p q k = absolute_le p r
      (square_root_le p r h.bound (≤ℚ-trans _ _ _ alone k))
      (square_root_le (neg_ℚ p) r h.bound (≤ℚ-trans _ _ _ (le_equal (ring1 rational_ring p (λ p. search quotes depth 9) tt)) (≤ℚ-trans _ _ _ alone k)))
    where
      alone : p *ℚ p ≤ℚ p *ℚ p +ℚ q *ℚ q
      alone = le_plus (q *ℚ q) (square_nonneg q) (ring2 rational_ring p q (λ p q. search quotes depth 9) tt)

  -- the real part
  pub InDisc-re : absolute z.re ≤ℚ r
  InDisc-re = part_le z.re z.im h.norm_le

  -- the imaginary part
  pub InDisc-im : absolute z.im ≤ℚ r
  InDisc-im = part_le z.im z.re (≤ℚ-trans _ _ _ (le_equal (ring2 rational_ring z.re z.im (λ a b. search quotes depth 9) tt)) h.norm_le)

-- p^2 <= m^2 from |p| <= m
pub square_le : (p : ℚ) {m : ℚ} → absolute p ≤ℚ m → p *ℚ p ≤ℚ m *ℚ m
square_le p {m} h =
    let w = absolute_within p m h in
    from_difference (subst (λ z. of_int (pos 0) ≤ℚ z) (ring2 rational_ring p m (λ p m. search quotes depth 9) tt) (*ℚ-nonneg _ _ (difference_nonneg w.0) (difference_nonneg w.1)))

-- z is within |re z| + |im z|
pub InDisc-size : (z : ℂ) → InDisc z (size z)
InDisc-size z = record {
  bound = nonneg_add _ _ (absolute_nonneg _) (absolute_nonneg _);
  norm_le = ≤ℚ-trans _ _ _ (add_mono (square_le z.re (≤ℚ-refl _)) (square_le z.im (≤ℚ-refl _)))
      (larger (absolute z.re) (absolute z.im) (absolute_nonneg _) (absolute_nonneg _));
}
  where
    larger : (a b : ℚ) → of_int (pos 0) ≤ℚ a → of_int (pos 0) ≤ℚ b → a *ℚ a +ℚ b *ℚ b ≤ℚ (a +ℚ b) *ℚ (a +ℚ b)
    larger a b h k = le_plus (of_int (pos 2) *ℚ (a *ℚ b)) (search nonneg) (ring2 rational_ring a b (λ a b. search quotes depth 9) tt)

-- w is within 1/c where z w = 1 and z is at least c away from 0
pub InDisc-inverse : (c : ℚ) (z w : ℂ) → of_int (pos 0) <ℚ c → c *ℚ c ≤ℚ norm z → z *ℂ w ≡ of_int_ℂ (pos 1) → InDisc w (inverse c)
InDisc-inverse c z w positive h e = record {
  bound = ≤-from_< (inverse_positive c positive);
  norm_le = cancel_mul (c *ℚ c) (positive_mul c c positive positive)
      (≤ℚ-trans _ _ _ (product_mono (norm_nonneg w) (norm_nonneg z) h (≤ℚ-refl _)) (le_equal (one ∙ sym (cancels))));
}
  where
    one : norm z *ℚ norm w ≡ of_int (pos 1)
    one = sym (norm-mul z w) ∙ ap norm (e ∙ parts-int (pos 1)) ∙ ring1 rational_ring c (λ c. search quotes depth 9) tt

    cancels : c *ℚ c *ℚ (inverse c *ℚ inverse c) ≡ of_int (pos 1)
    cancels = combine rational_ring (c *ℚ inverse c +ℚ of_int (pos 1)) (inverse_right c positive) (ring2 rational_ring c (inverse c) (λ c d. search quotes depth 12) tt)
