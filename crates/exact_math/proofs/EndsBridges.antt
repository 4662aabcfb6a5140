-- What the rounded operations of intervals and boxes contain: each result contains the exact result of what its arguments contain.
use mathlib.Core.Path.{◌≡◌}
use native.Mathlib.Omega.{arith}
use lib.IntN.{ℤ, pos, neg_ℤ, ◌+ℤ◌, ◌-ℤ◌, ◌*ℤ◌}
use lib.Signed.{◌<ℤ◌, ◌≤ℤ◌}
use borrow.Author.Differences.{ints}
use Prim.Native.Nat.{suc}
use Rattle.std.specs.Prelude.{List, [], ◌∷◌, fold, All}
use Rattle.exact_math.specs.Contains.{Contains}
use Rattle.exact_math.specs.Ends.{BoxEnds, point_box, zero_box, add_box, neg_box, scale_box, times_box, gscale_box, quot_box, gquot_box, widen_box, BoxEndsContain, BoxEndsInside}
use Rattle.exact_math.specs.Gaussian.{Gaussian, gaussian}
use Rattle.exact_math.specs.Ratio.{whole_ratio, ComplexRatio, zero_complex, whole_complex, neg_complex, over_complex, re_part, im_part, ◌+ᶜ◌, ◌-ᶜ◌, ◌*ᶜ◌}
use Rattle.exact_math.specs.Sums.{sum_terms}
use Rattle.exact_math.proofs.Ring.{int_ring}
use Rattle.exact_math.proofs.RingTactic.{int_quotes, ring4, ring5, ring6}
use Rattle.exact_math.proofs.Integers.{*-positive}
use Rattle.exact_math.proofs.Bridges.{contains-wider, contains-same, contains-neg, contains-add, contains-sub, contains-scale, contains-mul, contains-quot, contains-widen}

module _ {u : ℤ} {b : BoxEnds} {x : ComplexRatio} (h : BoxEndsContain u b x) where
  -- -x
  pub BoxEndsContain-neg : BoxEndsContain u (neg_box b) (neg_complex x)
  BoxEndsContain-neg = record { re = contains-neg h.re; im = contains-neg h.im }

  -- wider ends
  pub BoxEndsContain-inside : {c : BoxEnds} → BoxEndsInside b c → BoxEndsContain u c x
  BoxEndsContain-inside l = record { re = contains-wider h.re l.re.lo l.re.hi; im = contains-wider h.im l.im.lo l.im.hi }

  -- x/n, rounded outward
  pub BoxEndsContain-quot : (n : ℤ) → pos 1 ≤ℤ n → BoxEndsContain u (quot_box b n) (over_complex x n)
  BoxEndsContain-quot n n>0 = record { re = contains-quot h.re n n>0; im = contains-quot h.im n n>0 }

  whole_positive : pos 0 <ℤ (pos 1 *ℤ x.denominator)
  whole_positive = *-positive (pos 1) _ (omega (arith, ints)) h.re.fraction

  -- k x, for a whole number k
  pub BoxEndsContain-scale : (k : ℤ) → BoxEndsContain u (scale_box b k) (whole_complex (gaussian k (pos 0)) *ᶜ x)
  BoxEndsContain-scale k = record {
    re = contains-same (contains-scale h.re k) (re_part (whole_complex (gaussian k (pos 0)) *ᶜ x)) whole_positive (one k x.re x.im x.denominator);
    im = contains-same (contains-scale h.im k) (im_part (whole_complex (gaussian k (pos 0)) *ᶜ x)) whole_positive (other k x.re x.im x.denominator);
  }
    where
      one : (k a b d : ℤ) → k *ℤ a *ℤ (pos 1 *ℤ d) ≡ (k *ℤ a -ℤ pos 0 *ℤ b) *ℤ (pos 1 *ℤ d)
      one k a b d = ring4 int_ring k a b d (λ k a b d. search int_quotes depth 12) tt

      other : (k a b d : ℤ) → k *ℤ b *ℤ (pos 1 *ℤ d) ≡ (k *ℤ b +ℤ pos 0 *ℤ a) *ℤ (pos 1 *ℤ d)
      other k a b d = ring4 int_ring k a b d (λ k a b d. search int_quotes depth 12) tt

  -- g x, for a Gaussian integer g
  pub BoxEndsContain-gscale : (g : Gaussian) → BoxEndsContain u (gscale_box b g) (whole_complex g *ᶜ x)
  BoxEndsContain-gscale g = record {
    re = contains-same (contains-sub (contains-scale h.re g.re) (contains-scale h.im g.im)) (re_part (whole_complex g *ᶜ x)) whole_positive
        (ring5 int_ring g.re g.im x.re x.im x.denominator (λ g h a b d. search int_quotes depth 14) tt);
    im = contains-same (contains-add (contains-scale h.re g.im) (contains-scale h.im g.re)) (im_part (whole_complex g *ᶜ x)) whole_positive
        (ring5 int_ring g.re g.im x.re x.im x.denominator (λ g h a b d. search int_quotes depth 14) tt);
  }

-- 0, in any unit
pub BoxEndsContain-zero : {u : ℤ} → BoxEndsContain u zero_box zero_complex
BoxEndsContain-zero {u} = record { re = contains-whole_zero; im = contains-whole_zero }
  where
    zero_times : (u : ℤ) → u *ℤ pos 0 ≡ pos 0
    zero_times u = omega (arith, ints)

    contains-whole_zero : Contains u (pos 0) (pos 0) (whole_ratio (pos 0))
    contains-whole_zero = let e = zero_times u in record { fraction = omega (arith, ints); above = omega (arith, ints); below = omega (arith, ints) }

-- a Gaussian integer
pub BoxEndsContain-point : (x y : ℤ) → BoxEndsContain (pos 1) (point_box x y) (whole_complex (gaussian x y))
BoxEndsContain-point x y = record { re = contains-point x; im = contains-point y }
  where
    contains-point : (n : ℤ) → Contains (pos 1) n n (whole_ratio n)
    contains-point n = record { fraction = omega (arith, ints); above = omega (arith, ints); below = omega (arith, ints) }

-- g x/n, rounded once
pub BoxEndsContain-gquot : {u : ℤ} {b : BoxEnds} {x : ComplexRatio} → BoxEndsContain u b x → (g : Gaussian) (n : ℤ) → pos 1 ≤ℤ n
    → BoxEndsContain u (gquot_box b g n) (over_complex (whole_complex g *ᶜ x) n)
BoxEndsContain-gquot h g n n>0 = BoxEndsContain-quot (BoxEndsContain-gscale h g) n n>0

module _ {u : ℤ} {b c : BoxEnds} {x y : ComplexRatio} (h : BoxEndsContain u b x) (k : BoxEndsContain u c y) where
  -- x + y
  pub BoxEndsContain-add : BoxEndsContain u (add_box b c) (x +ᶜ y)
  BoxEndsContain-add = record { re = contains-add h.re k.re; im = contains-add h.im k.im }

-- the product counts in the product of the units
pub BoxEndsContain-times : {u v : ℤ} {b c : BoxEnds} {x y : ComplexRatio} → BoxEndsContain u b x → BoxEndsContain v c y → BoxEndsContain (u *ℤ v) (times_box b c) (x *ᶜ y)
BoxEndsContain-times {x = x} {y = y} h k = record {
  re = contains-same (contains-sub (contains-mul h.re k.re) (contains-mul h.im k.im)) (re_part (x *ᶜ y)) positive
      (ring6 int_ring x.re x.im x.denominator y.re y.im y.denominator (λ a b d e f g. search int_quotes depth 14) tt);
  im = contains-same (contains-add (contains-mul h.re k.im) (contains-mul h.im k.re)) (im_part (x *ᶜ y)) positive
      (ring6 int_ring x.re x.im x.denominator y.re y.im y.denominator (λ a b d e f g. search int_quotes depth 14) tt);
}
  where
    positive : pos 0 <ℤ (x.denominator *ℤ y.denominator)
    positive = *-positive _ _ h.re.fraction k.re.fraction

-- y is at most r units away from x, in each part
pub BoxEndsContain-widen : {u : ℤ} {b : BoxEnds} {x : ComplexRatio} (r : ℤ) (y : ComplexRatio) → BoxEndsContain u b x
    → BoxEndsContain u (record { re = record { lo = neg_ℤ r; hi = r }; im = record { lo = neg_ℤ r; hi = r } }) (y -ᶜ x) → BoxEndsContain u (widen_box b r) y
BoxEndsContain-widen r y h k = record { re = contains-widen r (re_part y) h.re k.re; im = contains-widen r (im_part y) h.im k.im }

-- ---- a list
module _ {A : Type 0} (u : ℤ) (box : A → BoxEnds) (term : A → ComplexRatio) where
  fold_contains : (xs : List A) {b : BoxEnds} {x : ComplexRatio} → BoxEndsContain u b x → All (λ a. BoxEndsContain u (box a) (term a)) xs
      → BoxEndsContain u (fold (λ s a. add_box s (box a)) b xs) (fold (λ s a. s +ᶜ term a) x xs)
  fold_contains [] h each = h
  fold_contains (a ∷ xs) h each = fold_contains xs (BoxEndsContain-add h (each 0 a (omega arith))) (λ k d l. each (suc k) d (omega arith))

  -- the sum of the boxes contains the sum of the terms
  pub BoxEndsContain-sum : (xs : List A) → All (λ a. BoxEndsContain u (box a) (term a)) xs → BoxEndsContain u (fold (λ s a. add_box s (box a)) zero_box xs) (sum_terms term xs)
  BoxEndsContain-sum xs each = fold_contains xs BoxEndsContain-zero each
