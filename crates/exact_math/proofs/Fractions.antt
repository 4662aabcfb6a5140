-- What fractions of whole numbers stand for: rational numbers and complex numbers with rational parts.
use mathlib.Core.Path.{◌≡◌, refl, sym, ap, ap₂, subst, ◌∙◌}
use mathlib.Core.List.{List, [], ◌∷◌}
use Prim.Native.Nat.{ℕ, zero, suc}
use native.Mathlib.Omega.{arith}
use lib.IntN.{ℤ, pos, neg_ℤ, ◌+ℤ◌, ◌*ℤ◌}
use lib.Signed.{◌<ℤ◌, ◌≤ℤ◌}
use borrow.Author.Differences.{ints}
use Rattle.std.specs.List.{fold, All}
use Rattle.exact_math.specs.Gaussian.{Gaussian, gaussian, mul_gaussian}
use Rattle.exact_math.specs.Ratio.{Ratio, whole_ratio, add_ratio, neg_ratio, sub_ratio, mul_ratio, over_ratio, ComplexRatio, SameComplex, zero_complex, whole_complex, neg_complex, over_complex, re_part, im_part, ◌+ᶜ◌, ◌-ᶜ◌, ◌*ᶜ◌}
use Rattle.exact_math.specs.Sums.{pow_complex, slope_complex, sum_complex, sum_terms, natural_complex}
use Rattle.exact_math.proofs.Ring.{pow}
use Rattle.exact_math.proofs.RingTactic.{quotes, combine, ring1, ring2, ring3, ring4, ring5, ring6}
use Rattle.exact_math.proofs.Integers.{*-positive}
use Rattle.exact_math.proofs.Sums.{sum_below, sum_list}
use Rattle.exact_math.proofs.QuadraticExtension.{same_pair, pow_slope}
use Rattle.exact_math.proofs.Rationals.{ℚ, rational_ring, of_int, of_int-add, of_int-mul, of_int-≤, ◌+ℚ◌, ◌*ℚ◌, ◌-ℚ◌, neg_ℚ, inverse, ◌≤ℚ◌, ≤ℚ-refl}
use Rattle.exact_math.proofs.RationalOrder.{int-<, inverse_right, inverse-mul}
use Rattle.exact_math.proofs.ComplexRationals.{ℂ, complex, complex_rationals, of_int_ℂ, ◌+ℂ◌, ◌*ℂ◌, ◌-ℂ◌, neg_ℂ, parts-add, parts-neg, parts-mul, parts-int, real, real-mul}
use Rattle.exact_math.proofs.Enclosures.{of_int-neg}
use Rattle.exact_math.proofs.Gaussians.{value, value-mul}

-- R/D
abbrev pub ratio : ℤ → ℤ → ℚ
ratio R D = of_int R *ℚ inverse (of_int D)

-- the rational number that x stands for
abbrev pub ratio_value : Ratio → ℚ
ratio_value x = ratio x.numerator x.denominator

-- the complex number that x stands for
abbrev pub complex_value : ComplexRatio → ℂ
complex_value x = complex (ratio x.re x.denominator) (ratio x.im x.denominator)

-- the fraction x, with a denominator above 0, is the rational number q
pub record RatioStands (x : Ratio) (q : ℚ) : Type 0 where
  pub positive : pos 0 <ℤ x.denominator
  pub is : ratio_value x ≡ q

-- the fraction x, with a denominator above 0, is the complex number z
pub record Stands (x : ComplexRatio) (z : ℂ) : Type 0 where
  pub positive : pos 0 <ℤ x.denominator
  pub is : complex_value x ≡ z

-- a fraction stands for its value
pub RatioStands-itself : (x : Ratio) → pos 0 <ℤ x.denominator → RatioStands x (ratio_value x)
RatioStands-itself x h = record { positive = h; is = refl }

-- a fraction stands for its value
pub Stands-itself : (x : ComplexRatio) → pos 0 <ℤ x.denominator → Stands x (complex_value x)
Stands-itself x h = record { positive = h; is = refl }

-- ---- fractions
inverse_one : inverse (of_int (pos 1)) ≡ of_int (pos 1)
inverse_one = turn (inverse (of_int (pos 1))) (inverse_right (of_int (pos 1)) (int-< _ _ (omega (arith, ints))))
  where
    turn : (i : ℚ) → of_int (pos 1) *ℚ i ≡ of_int (pos 1) → i ≡ of_int (pos 1)
    turn i e = combine rational_ring (of_int (pos 1)) e (ring1 rational_ring i (λ i. search quotes depth 12) tt)

-- k/1 = k
pub ratio-whole : (k : ℤ) → ratio k (pos 1) ≡ of_int k
ratio-whole k = ap (λ i. of_int k *ℚ i) inverse_one ∙ rational_ring.mul_one _

-- a/d + b/e
pub ratio-add : (a d b e : ℤ) → pos 0 <ℤ d → pos 0 <ℤ e → ratio (a *ℤ e +ℤ b *ℤ d) (d *ℤ e) ≡ ratio a d +ℚ ratio b e
ratio-add a d b e p q =
    let D = of_int d in
    let E = of_int e in
    ap₂ ◌*ℚ◌ (of_int-add _ _ ∙ ap₂ ◌+ℚ◌ (of_int-mul a e) (of_int-mul b d)) (ap inverse (of_int-mul d e) ∙ inverse-mul D E (int-< _ _ p) (int-< _ _ q))
    ∙ combine rational_ring (of_int a *ℚ inverse D) (inverse_right E (int-< _ _ q))
    (combine rational_ring (of_int b *ℚ inverse E) (inverse_right D (int-< _ _ p))
    (ring6 rational_ring (of_int a) (of_int b) D E (inverse D) (inverse E) (λ a b d e f g. search quotes depth 12) tt))

-- -a/d
pub ratio-neg : (a d : ℤ) → ratio (neg_ℤ a) d ≡ neg_ℚ (ratio a d)
ratio-neg a d = ap (λ b. b *ℚ inverse (of_int d)) (of_int-neg a) ∙ ring2 rational_ring (of_int a) (inverse (of_int d)) (λ a i. search quotes depth 12) tt

-- (a/d) (b/e)
pub ratio-mul : (a d b e : ℤ) → pos 0 <ℤ d → pos 0 <ℤ e → ratio (a *ℤ b) (d *ℤ e) ≡ ratio a d *ℚ ratio b e
ratio-mul a d b e p q =
    ap₂ ◌*ℚ◌ (of_int-mul a b) (ap inverse (of_int-mul d e) ∙ inverse-mul (of_int d) (of_int e) (int-< _ _ p) (int-< _ _ q))
    ∙ ring4 rational_ring (of_int a) (of_int b) (inverse (of_int d)) (inverse (of_int e)) (λ a b i j. search quotes depth 12) tt

-- k
pub RatioStands-whole : (k : ℤ) → RatioStands (whole_ratio k) (of_int k)
RatioStands-whole k = record { positive = omega (arith, ints); is = ratio-whole k }

-- p + q
pub RatioStands-add : {x y : Ratio} {p q : ℚ} → RatioStands x p → RatioStands y q → RatioStands (add_ratio x y) (p +ℚ q)
RatioStands-add {x} {y} h k = record {
  positive = *-positive _ _ h.positive k.positive;
  is = ratio-add x.numerator x.denominator y.numerator y.denominator h.positive k.positive ∙ ap₂ ◌+ℚ◌ h.is k.is;
}

-- -p
pub RatioStands-neg : {x : Ratio} {p : ℚ} → RatioStands x p → RatioStands (neg_ratio x) (neg_ℚ p)
RatioStands-neg {x} h = record { positive = h.positive; is = ratio-neg x.numerator x.denominator ∙ ap neg_ℚ h.is }

-- p - q
pub RatioStands-sub : {x y : Ratio} {p q : ℚ} → RatioStands x p → RatioStands y q → RatioStands (sub_ratio x y) (p -ℚ q)
RatioStands-sub h k = RatioStands-add h (RatioStands-neg k)

-- p q
pub RatioStands-mul : {x y : Ratio} {p q : ℚ} → RatioStands x p → RatioStands y q → RatioStands (mul_ratio x y) (p *ℚ q)
RatioStands-mul {x} {y} h k = record {
  positive = *-positive _ _ h.positive k.positive;
  is = ratio-mul x.numerator x.denominator y.numerator y.denominator h.positive k.positive ∙ ap₂ ◌*ℚ◌ h.is k.is;
}

-- n (x/n) is x
ratio-over : (a d n : ℤ) → pos 0 <ℤ d → pos 0 <ℤ n → ratio a (d *ℤ n) ≡ ratio a d *ℚ inverse (of_int n)
ratio-over a d n p q =
    ap (λ i. of_int a *ℚ i) (ap inverse (of_int-mul d n) ∙ inverse-mul (of_int d) (of_int n) (int-< _ _ p) (int-< _ _ q))
    ∙ ring3 rational_ring (of_int a) (inverse (of_int d)) (inverse (of_int n)) (λ a i j. search quotes depth 12) tt

-- p/n
pub RatioStands-over : {x : Ratio} {p : ℚ} (n : ℤ) → pos 1 ≤ℤ n → RatioStands x p → RatioStands (over_ratio x n) (p *ℚ inverse (of_int n))
RatioStands-over {x} n n>0 h = record {
  positive = *-positive _ _ h.positive (omega (arith, ints));
  is = ratio-over x.numerator x.denominator n h.positive (omega (arith, ints)) ∙ ap (λ q. q *ℚ inverse (of_int n)) h.is;
}

-- ---- complex fractions
-- (R + i I)/D is the whole number R + i I times 1/D
pub complex_value-split : (g : Gaussian) (D : ℤ) → complex_value (record { re = g.re; im = g.im; denominator = D }) ≡ value g *ℂ real (inverse (of_int D))
complex_value-split g D =
    same_pair rational_ring _ _
    (ring3 rational_ring (of_int g.re) (of_int g.im) (inverse (of_int D)) (λ a b c. search quotes depth 9) tt)
    (ring3 rational_ring (of_int g.re) (of_int g.im) (inverse (of_int D)) (λ a b c. search quotes depth 9) tt)
    ∙ sym (parts-mul _ _)

-- g
pub Stands-whole : (g : Gaussian) → Stands (whole_complex g) (value g)
Stands-whole g = record { positive = omega (arith, ints); is = same_pair rational_ring _ _ (ratio-whole g.re) (ratio-whole g.im) }

-- n
pub Stands-count : (n : ℕ) → Stands (natural_complex n) (of_int_ℂ (pos n))
Stands-count n = record { positive = omega (arith, ints); is = (Stands-whole (gaussian (pos n) (pos 0))).is ∙ sym (parts-int (pos n)) }

-- 0
pub Stands-zero : Stands zero_complex (of_int_ℂ (pos 0))
Stands-zero = Stands-count 0

-- z + w
pub Stands-add : {x y : ComplexRatio} {z w : ℂ} → Stands x z → Stands y w → Stands (x +ᶜ y) (z +ℂ w)
Stands-add {x} {y} h k = record {
  positive = *-positive _ _ h.positive k.positive;
  is =
      same_pair rational_ring _ _ (ratio-add x.re x.denominator y.re y.denominator h.positive k.positive) (ratio-add x.im x.denominator y.im y.denominator h.positive k.positive)
      ∙ sym (parts-add _ _) ∙ ap₂ ◌+ℂ◌ h.is k.is;
}

-- -z
pub Stands-neg : {x : ComplexRatio} {z : ℂ} → Stands x z → Stands (neg_complex x) (neg_ℂ z)
Stands-neg {x} h = record {
  positive = h.positive;
  is = same_pair rational_ring _ _ (ratio-neg x.re x.denominator) (ratio-neg x.im x.denominator) ∙ sym (parts-neg _) ∙ ap neg_ℂ h.is;
}

-- z - w
pub Stands-sub : {x y : ComplexRatio} {z w : ℂ} → Stands x z → Stands y w → Stands (x -ᶜ y) (z -ℂ w)
Stands-sub h k = Stands-add h (Stands-neg k)

-- z w
pub Stands-mul : {x y : ComplexRatio} {z w : ℂ} → Stands x z → Stands y w → Stands (x *ᶜ y) (z *ℂ w)
Stands-mul {x} {y} h k = record {
  positive = *-positive _ _ h.positive k.positive;
  is =
      complex_value-split (mul_gaussian (gaussian x.re x.im) (gaussian y.re y.im)) (x.denominator *ℤ y.denominator)
      ∙ ap₂ (λ g i. g *ℂ real i) (value-mul (gaussian x.re x.im) (gaussian y.re y.im)) (ap inverse (of_int-mul _ _) ∙ inverse-mul _ _ (int-< _ _ h.positive) (int-< _ _ k.positive))
      ∙ regroup (value (gaussian x.re x.im)) (value (gaussian y.re y.im)) (real (inverse (of_int x.denominator))) (real (inverse (of_int y.denominator))) (real-mul _ _)
      ∙ ap₂ ◌*ℂ◌ (sym (complex_value-split (gaussian x.re x.im) x.denominator) ∙ h.is) (sym (complex_value-split (gaussian y.re y.im) y.denominator) ∙ k.is);
}
  where
    regroup : (g h p q : ℂ) {r : ℂ} → p *ℂ q ≡ r → g *ℂ h *ℂ r ≡ g *ℂ p *ℂ (h *ℂ q)
    regroup g h p q {r} e = combine complex_rationals (neg_ℂ (g *ℂ h)) e (ring5 complex_rationals g h p q r (λ g h p q r. search quotes depth 12) tt)

-- z/n
pub Stands-over : {x : ComplexRatio} {z : ℂ} (n : ℤ) → pos 1 ≤ℤ n → Stands x z → Stands (over_complex x n) (z *ℂ real (inverse (of_int n)))
Stands-over {x} {z} n n>0 h = record {
  positive = *-positive _ _ h.positive (omega (arith, ints));
  is =
      same_pair rational_ring _ _ (ratio-over x.re x.denominator n h.positive (omega (arith, ints))) (ratio-over x.im x.denominator n h.positive (omega (arith, ints)))
      ∙ times (complex_value x) (inverse (of_int n)) ∙ ap (λ w. w *ℂ real (inverse (of_int n))) h.is;
}
  where
    times : (w : ℂ) (i : ℚ) → complex (w.re *ℚ i) (w.im *ℚ i) ≡ w *ℂ real i
    times w i =
        same_pair rational_ring _ _
        (ring3 rational_ring w.re w.im i (λ a b i. search quotes depth 9) tt)
        (ring3 rational_ring w.re w.im i (λ a b i. search quotes depth 9) tt)
        ∙ sym (parts-mul w (real i))

-- z^n
pub Stands-pow : {x : ComplexRatio} {z : ℂ} → Stands x z → (n : ℕ) → Stands (pow_complex x n) (pow complex_rationals z n)
Stands-pow h zero = Stands-count 1
Stands-pow h (suc n) = Stands-mul h (Stands-pow h n)

-- n z^(n - 1)
pub Stands-slope : {x : ComplexRatio} {z : ℂ} → Stands x z → (n : ℕ) → Stands (slope_complex x n) (pow_slope complex_rationals z n)
Stands-slope h zero = Stands-count 0
Stands-slope h (suc n) = Stands-mul (Stands-count (suc n)) (Stands-pow h n)

-- the sum of the first n terms
pub Stands-sum : (n : ℕ) {f : ℕ → ComplexRatio} {g : ℕ → ℂ} → ((k : ℕ) → Stands (f k) (g k)) → Stands (sum_complex n f) (sum_below complex_rationals n g)
Stands-sum zero h = Stands-count 0
Stands-sum (suc n) h = Stands-add (Stands-sum n h) (h n)

-- the parts
pub Stands-re : {x : ComplexRatio} {z : ℂ} → Stands x z → RatioStands (re_part x) z.re
Stands-re h = record { positive = h.positive; is = ap (λ w. w.re) h.is }

-- the imaginary part
pub Stands-im : {x : ComplexRatio} {z : ℂ} → Stands x z → RatioStands (im_part x) z.im
Stands-im h = record { positive = h.positive; is = ap (λ w. w.im) h.is }

-- ---- the fold of triples over a list is the sum
module _ {A : Type 0} (term : A → ComplexRatio) (exact : A → ℂ) where
  fold_stands : (xs : List A) {x : ComplexRatio} {z : ℂ} → Stands x z → All (λ a. Stands (term a) (exact a)) xs
      → Stands (fold (λ s a. s +ᶜ term a) x xs) (z +ℂ sum_list complex_rationals exact xs)
  fold_stands [] {x} h each = subst (Stands x) (sym (complex_rationals.add_zero _)) h
  fold_stands (a ∷ xs) {x} {z} h each =
      subst (Stands (fold (λ s a. s +ᶜ term a) (x +ᶜ term a) xs)) (complex_rationals.add_assoc _ _ _)
      (fold_stands xs (Stands-add h (each 0 a (omega arith))) (λ k d l. each (suc k) d (omega arith)))

  -- so the sum of the fractions stands for the sum of the terms
  pub Stands-sum_terms : (xs : List A) → All (λ a. Stands (term a) (exact a)) xs → Stands (sum_terms term xs) (sum_list complex_rationals exact xs)
  Stands-sum_terms xs each = subst (Stands (sum_terms term xs)) (zero_left (sum_list complex_rationals exact xs)) (fold_stands xs Stands-zero each)
    where
      zero_left : (z : ℂ) → of_int_ℂ (pos 0) +ℂ z ≡ z
      zero_left z = ring1 complex_rationals z (λ z. search quotes depth 9) tt

-- ---- comparing fractions is comparing what they stand for
-- p is a/d, times the denominator
pub times_denominator : (a d : ℤ) → pos 0 <ℤ d → of_int d *ℚ ratio a d ≡ of_int a
times_denominator a d h = combine rational_ring (of_int a) (inverse_right (of_int d) (int-< _ _ h))
    (ring3 rational_ring (of_int a) (of_int d) (inverse (of_int d)) (λ a d e. search quotes depth 12) tt)

-- equal by cross multiplication, equal as numbers
pub ratio-same : (a d b e : ℤ) → pos 0 <ℤ d → pos 0 <ℤ e → a *ℤ e ≡ b *ℤ d → ratio a d ≡ ratio b e
ratio-same a d b e p q h =
    combine rational_ring (inverse (of_int d) *ℚ inverse (of_int e)) (sym (of_int-mul a e) ∙ ap of_int h ∙ of_int-mul b d)
    (combine rational_ring (neg_ℚ (of_int a *ℚ inverse (of_int d))) (inverse_right (of_int e) (int-< _ _ q))
    (combine rational_ring (of_int b *ℚ inverse (of_int e)) (inverse_right (of_int d) (int-< _ _ p))
    (ring6 rational_ring (of_int a) (of_int b) (of_int d) (of_int e) (inverse (of_int d)) (inverse (of_int e)) (λ a b d e i j. search quotes depth 12) tt)))

-- whole numbers that are equal as rational numbers are equal
pub of_int-injective : (a b : ℤ) → of_int a ≡ of_int b → a ≡ b
of_int-injective a b e =
    let h : a ≤ℤ b = (of_int-≤ a b).0 (subst (λ q. of_int a ≤ℚ q) e (≤ℚ-refl _)) in
    let k : b ≤ℤ a = (of_int-≤ b a).0 (subst (λ q. q ≤ℚ of_int a) e (≤ℚ-refl _)) in
    omega (arith, ints)

-- equal as numbers, equal by cross multiplication
pub cross_from_ratio : (a d b e : ℤ) → pos 0 <ℤ d → pos 0 <ℤ e → ratio a d ≡ ratio b e → a *ℤ e ≡ b *ℤ d
cross_from_ratio a d b e p q h = of_int-injective _ _
    (of_int-mul a e ∙ ap (λ z. z *ℚ of_int e) (sym (times_denominator a d p)) ∙ turn (of_int d) (ratio a d) (of_int e) (ratio b e) h ∙ ap (λ z. z *ℚ of_int d) (times_denominator b e q) ∙ sym (of_int-mul b d))
  where
    turn : (d r e s : ℚ) → r ≡ s → d *ℚ r *ℚ e ≡ e *ℚ s *ℚ d
    turn d r e s h = combine rational_ring (d *ℚ e) h (ring4 rational_ring d r e s (λ d r e s. search quotes depth 12) tt)

-- two fractions that stand for one number
pub same_from_stands : {x y : ComplexRatio} {z : ℂ} → Stands x z → Stands y z → SameComplex x y
same_from_stands {x} {y} h k = record {
  left_fraction = h.positive;
  right_fraction = k.positive;
  re = cross_from_ratio x.re x.denominator y.re y.denominator h.positive k.positive (ap (λ w. w.re) (h.is ∙ sym k.is));
  im = cross_from_ratio x.im x.denominator y.im y.denominator h.positive k.positive (ap (λ w. w.im) (h.is ∙ sym k.is));
}
