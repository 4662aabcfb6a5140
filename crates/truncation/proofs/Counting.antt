-- From bounds on complex numbers to the bound in whole numbers, and sums of it.
use Rattle.exact_math.proofs.Common.{◌≡◌, sym, ap, subst, subst₂, ◌∙◌, ℕ, suc, arith, ints, ℤ, pos, neg_ℤ, ◌+ℤ◌, ◌*ℤ◌, ◌<ℤ◌, int_ring, int_quotes, quotes, combine, ring1, ring4, ring6, ring8, ℚ, rational_ring, of_int, of_int-mul, ◌*ℚ◌, neg_ℚ, inverse, ◌≤ℚ◌, ≤ℚ-trans, le_equal, le_using, mul_mono, nonneg_int, int-<, inverse_right, absolute, ℂ, ◌-ℂ◌}
use Rattle.exact_math.specs.Contains.{Contains}
use Rattle.exact_math.specs.Ratio.{Ratio, ComplexRatio, zero_complex, re_part, im_part, ◌+ᶜ◌, ◌-ᶜ◌}
use Rattle.exact_math.specs.Rounding.{floor_div, ceil_div}
use Rattle.exact_math.specs.Sums.{sum_terms}
use Rattle.exact_math.proofs.Integers.{*-positive}
use Rattle.exact_math.proofs.RationalOrder.{le_absolute, neg_le_absolute}
use Rattle.exact_math.proofs.Enclosures.{Encloses, of_int-neg}
use Rattle.exact_math.proofs.Fractions.{Stands, Stands-sub, Stands-re, Stands-im}
use Rattle.exact_math.proofs.Bridges.{contains_from_encloses, contains-add, contains-same, contains-units, contains-widen}
use Rattle.truncation.specs.Truncation.{Truncated, MakesUp}
use Rattle.truncation.proofs.Quotients.{PartsCounted}
use Rattle.truncation.proofs.Tails.{div_ceil-is}
use Rattle.std.specs.Int.{div_ceil}
use Rattle.std.specs.Prelude.{List, [], ◌∷◌, fold, All}
use Prim.Native.Nat.{◌+◌, ◌*◌, ◌^◌, ◌≤◌}

-- c |q| <= m/n puts (c n) q between -m and m
counted : (c m n : ℕ) (q : ℚ) → 1 ≤ n → of_int (pos c) *ℚ absolute q ≤ℚ of_int (pos m) *ℚ inverse (of_int (pos n)) → Encloses (neg_ℤ (pos m)) (pos m) (of_int (pos (c * n)) *ℚ q)
counted c m n q n>0 h = record {
  above = rw of_int-neg (low (of_int (pos (c * n))) (of_int (pos m)) whole (nonneg_int (c * n)));
  below = high (of_int (pos (c * n))) (of_int (pos m)) whole (nonneg_int (c * n));
}
  where
    cleared : (c n i m a : ℚ) {k : ℚ} → n *ℚ i ≡ of_int (pos 1) → k ≡ c *ℚ n → of_int (pos 0) ≤ℚ n → c *ℚ a ≤ℚ m *ℚ i → k *ℚ a ≤ℚ m
    cleared c n i m a {k} e f n≥0 h = le_using n n≥0 h (le_equal (combine rational_ring a f (combine rational_ring m e (ring6 rational_ring c n i m a k (λ c n i m a k. search quotes depth 12) tt))))

    whole : of_int (pos (c * n)) *ℚ absolute q ≤ℚ of_int (pos m)
    whole = cleared (of_int (pos c)) (of_int (pos n)) (inverse (of_int (pos n))) (of_int (pos m)) (absolute q) (inverse_right _ (int-< _ _ (omega (arith, ints)))) (of_int-mul (pos c) (pos n)) (nonneg_int n) h

    high : (k m : ℚ) → k *ℚ absolute q ≤ℚ m → of_int (pos 0) ≤ℚ k → k *ℚ q ≤ℚ m
    high k m h k≥0 = ≤ℚ-trans _ _ _ (mul_mono k k≥0 (le_absolute q)) h

    low : (k m : ℚ) → k *ℚ absolute q ≤ℚ m → of_int (pos 0) ≤ℚ k → neg_ℚ m ≤ℚ k *ℚ q
    low k m h k≥0 = le_using k k≥0 (neg_le_absolute q) (le_using (of_int (pos 1)) (nonneg_int 1) h (le_equal (ring4 rational_ring k m q (absolute q) (λ k m q a. search quotes depth 12) tt)))

-- the bound in whole numbers, from one on the complex numbers that the fractions stand for
pub truncated : {x y : ComplexRatio} {z w : ℂ} (m n : ℕ) → 1 ≤ n → Stands x z → Stands y w → PartsCounted (of_int (pos (2 ^ 40))) (z -ℂ w) (of_int (pos m) *ℚ inverse (of_int (pos n))) → Truncated x y m n
truncated m n n>0 h k l = record {
  exact_fraction = h.positive;
  cut_fraction = k.positive;
  re = contains_from_encloses (pos (2 ^ 40 * n)) (neg_ℤ (pos m)) (pos m) (Stands-re (Stands-sub h k)) (counted (2 ^ 40) m n _ n>0 l.re);
  im = contains_from_encloses (pos (2 ^ 40 * n)) (neg_ℤ (pos m)) (pos m) (Stands-im (Stands-sub h k)) (counted (2 ^ 40) m n _ n>0 l.im);
}

-- another fraction of the same value in place of the exact one
pub Truncated-same : (x x' y : ComplexRatio) (m n : ℕ) → pos 0 <ℤ x'.denominator → x.re *ℤ x'.denominator ≡ x'.re *ℤ x.denominator → x.im *ℤ x'.denominator ≡ x'.im *ℤ x.denominator → Truncated x y m n → Truncated x' y m n
Truncated-same x x' y m n p e f h = record {
  exact_fraction = p;
  cut_fraction = h.cut_fraction;
  re = contains-same h.re (re_part (x' -ᶜ y)) (*-positive _ _ p h.cut_fraction) (one x.re x.denominator x'.re x'.denominator y.re y.denominator e);
  im = contains-same h.im (im_part (x' -ᶜ y)) (*-positive _ _ p h.cut_fraction) (one x.im x.denominator x'.im x'.denominator y.im y.denominator f);
}
  where
    one : (a d b e c f : ℤ) → a *ℤ e ≡ b *ℤ d → (a *ℤ f +ℤ neg_ℤ c *ℤ d) *ℤ (e *ℤ f) ≡ (b *ℤ f +ℤ neg_ℤ c *ℤ e) *ℤ (d *ℤ f)
    one a d b e c f h = combine int_ring (f *ℤ f) h (ring6 int_ring a d b e c f (λ a d b e c f. search int_quotes depth 14) tt)

-- the bounds of two sources add up
pub Truncated-add : (x y x' y' : ComplexRatio) (m m' n : ℕ) → Truncated x y m n → Truncated x' y' m' n → Truncated (x +ᶜ x') (y +ᶜ y') (m + m') n
Truncated-add x y x' y' m m' n h k =
    let p = *-positive _ _ h.exact_fraction k.exact_fraction in
    let q = *-positive _ _ h.cut_fraction k.cut_fraction in
    record {
      exact_fraction = p;
      cut_fraction = q;
      re = both (contains-same (contains-add h.re k.re) (re_part (x +ᶜ x' -ᶜ (y +ᶜ y'))) (*-positive _ _ p q)
          (one x.re x.denominator y.re y.denominator x'.re x'.denominator y'.re y'.denominator));
      im = both (contains-same (contains-add h.im k.im) (im_part (x +ᶜ x' -ᶜ (y +ᶜ y'))) (*-positive _ _ p q)
          (one x.im x.denominator y.im y.denominator x'.im x'.denominator y'.im y'.denominator));
    }
  where
    one : (a d b e a' d' b' e' : ℤ)
        → ((a *ℤ e +ℤ neg_ℤ b *ℤ d) *ℤ (d' *ℤ e') +ℤ (a' *ℤ e' +ℤ neg_ℤ b' *ℤ d') *ℤ (d *ℤ e)) *ℤ (d *ℤ d' *ℤ (e *ℤ e'))
        ≡ ((a *ℤ d' +ℤ a' *ℤ d) *ℤ (e *ℤ e') +ℤ neg_ℤ (b *ℤ e' +ℤ b' *ℤ e) *ℤ (d *ℤ d')) *ℤ (d *ℤ e *ℤ (d' *ℤ e'))
    one a d b e a' d' b' e' = ring8 int_ring a d b e a' d' b' e' (λ a d b e f g h k. search int_quotes depth 16) tt

    less : neg_ℤ (pos m) +ℤ neg_ℤ (pos m') ≡ neg_ℤ (pos (m + m'))
    less = omega (arith, ints)

    both : {x : Ratio} → Contains (pos (2 ^ 40 * n)) (neg_ℤ (pos m) +ℤ neg_ℤ (pos m')) (pos m +ℤ pos m') x → Contains (pos (2 ^ 40 * n)) (neg_ℤ (pos (m + m'))) (pos (m + m')) x
    both {x} h = subst (λ l. Contains (pos (2 ^ 40 * n)) l (pos (m + m')) x) less h

-- no source
pub Truncated-zero : (n : ℕ) → Truncated zero_complex zero_complex 0 n
Truncated-zero n = record {
  exact_fraction = omega (arith, ints);
  cut_fraction = omega (arith, ints);
  re = record { fraction = omega (arith, ints); above = omega (arith, ints); below = omega (arith, ints) };
  im = record { fraction = omega (arith, ints); above = omega (arith, ints); below = omega (arith, ints) };
}

-- over a list of sources
module _ {A : Type 0} (exact cut : A → ComplexRatio) (weight : A → ℕ) (T n : ℕ) where
  Truncated-fold : (xs : List A) (x y : ComplexRatio) (w : ℕ) → Truncated x y (w * T) n → All (λ a. Truncated (exact a) (cut a) (weight a * T) n) xs
      → Truncated (fold (λ s a. s +ᶜ exact a) x xs) (fold (λ s a. s +ᶜ cut a) y xs) (fold (λ s a. s + weight a) w xs * T) n
  Truncated-fold [] x y w h each = h
  Truncated-fold (a ∷ xs) x y w h each = Truncated-fold xs (x +ᶜ exact a) (y +ᶜ cut a) (w + weight a)
      (subst (λ m. Truncated (x +ᶜ exact a) (y +ᶜ cut a) m n) (omega arith)
      (Truncated-add x y (exact a) (cut a) (w * T) (weight a * T) n h (each 0 a (omega arith))))
      (λ k d l. each (suc k) d (omega arith))

  -- the bound of all sources together: total weight times T over n
  pub Truncated-sum : (xs : List A) → All (λ a. Truncated (exact a) (cut a) (weight a * T) n) xs → Truncated (sum_terms exact xs) (sum_terms cut xs) (fold (λ s a. s + weight a) 0 xs * T) n
  Truncated-sum xs each = Truncated-fold xs zero_complex zero_complex 0 (subst (λ m. Truncated zero_complex zero_complex m n) {x = 0} {y = 0 * T} (omega arith) (Truncated-zero n)) each

-- ---- the radius
pub neg_floor : (m n : ℕ) → floor_div (neg_ℤ (pos m)) (pos n) ≡ neg_ℤ (ceil_div (pos m) (pos n))
neg_floor m n = twice_negated (floor_div (neg_ℤ (pos m)) (pos n))
  where
    twice_negated : (z : ℤ) → z ≡ neg_ℤ (neg_ℤ z)
    twice_negated z = ring1 int_ring z (λ z. search int_quotes depth 9) tt

-- at most m/n in size, in other units, is at most ceil(m/n)
pub contains-div_ceil : (u : ℤ) (m n : ℕ) → 1 ≤ n → {x : Ratio} → Contains (u *ℤ pos n) (neg_ℤ (pos m)) (pos m) x → Contains u (neg_ℤ (pos (div_ceil m n))) (pos (div_ceil m n)) x
contains-div_ceil u m n n>0 {x} k = subst₂ (λ l h. Contains u l h x) (neg_floor m n ∙ ap neg_ℤ (sym up)) (sym up) (contains-units u (pos n) (omega (arith, ints)) k)
  where
    up : pos (div_ceil m n) ≡ ceil_div (pos m) (pos n)
    up = div_ceil-is m n n>0

-- a box of the cut sum, widened by m/n rounded up, contains the exact sum
pub radius_widens : (m n : ℕ) → 1 ≤ n → MakesUp m n (div_ceil m n)
radius_widens m n n>0 exact cut box t h = record {
  re = contains-widen (pos (div_ceil m n)) (re_part exact) h.re (contains-div_ceil (pos (2 ^ 40)) m n n>0 t.re);
  im = contains-widen (pos (div_ceil m n)) (im_part exact) h.im (contains-div_ceil (pos (2 ^ 40)) m n n>0 t.im);
}
