-- Complex numbers with rational parts. The operations are opaque, so that `ring` reads them: `search quotes` at `complex_rationals`.
use mathlib.Core.Path.{◌≡◌, refl, sym, ap, ◌∙◌}
use lib.IntN.{ℤ, pos, ◌+ℤ◌, ◌*ℤ◌}
use Rattle.exact_math.proofs.Ring.{CommutativeRing}
use Rattle.exact_math.proofs.RingTactic.{quotes, combine, ring2, ring3, ring4}
use Rattle.exact_math.proofs.QuadraticExtension.{Pair, same_pair, complex_ring}
use Rattle.exact_math.proofs.Rationals.{ℚ, rational_ring, of_int, ◌+ℚ◌, ◌*ℚ◌, ◌-ℚ◌, neg_ℚ, inverse, ◌<ℚ◌}
use Rattle.exact_math.proofs.RationalOrder.{inverse_right}

-- re + i im, with rational parts
abbrev pub ℂ : Type 0
ℂ = Pair rational_ring

abbrev C : CommutativeRing
C = complex_ring rational_ring

-- x + i y
abbrev pub complex : ℚ → ℚ → ℂ
complex x y = record { re = x; im = y }

infixl 6 ◌+ℂ◌ ◌-ℂ◌
infixl 7 ◌*ℂ◌
pub ◌+ℂ◌ : ℂ → ℂ → ℂ
◌+ℂ◌ = C.add

pub ◌*ℂ◌ : ℂ → ℂ → ℂ
◌*ℂ◌ = C.mul

pub neg_ℂ : ℂ → ℂ
neg_ℂ = C.neg

pub of_int_ℂ : ℤ → ℂ
of_int_ℂ = C.of_int

abbrev pub ◌-ℂ◌ : ℂ → ℂ → ℂ
z -ℂ w = z +ℂ neg_ℂ w

-- ---- the laws
pub +ℂ_assoc : (a b c : ℂ) → a +ℂ b +ℂ c ≡ a +ℂ (b +ℂ c)
unfolding ◌+ℂ◌
+ℂ_assoc = C.add_assoc

pub +ℂ_comm : (a b : ℂ) → a +ℂ b ≡ b +ℂ a
unfolding ◌+ℂ◌
+ℂ_comm = C.add_comm

pub +ℂ-zero : (a : ℂ) → a +ℂ of_int_ℂ (pos 0) ≡ a
unfolding ◌+ℂ◌ of_int_ℂ
+ℂ-zero = C.add_zero

pub +ℂ-neg : (a : ℂ) → a +ℂ neg_ℂ a ≡ of_int_ℂ (pos 0)
unfolding ◌+ℂ◌ neg_ℂ of_int_ℂ
+ℂ-neg = C.add_neg

pub *ℂ_assoc : (a b c : ℂ) → a *ℂ b *ℂ c ≡ a *ℂ (b *ℂ c)
unfolding ◌*ℂ◌
*ℂ_assoc = C.mul_assoc

pub *ℂ_comm : (a b : ℂ) → a *ℂ b ≡ b *ℂ a
unfolding ◌*ℂ◌
*ℂ_comm = C.mul_comm

pub *ℂ-one : (a : ℂ) → a *ℂ of_int_ℂ (pos 1) ≡ a
unfolding ◌*ℂ◌ of_int_ℂ
*ℂ-one = C.mul_one

pub *ℂ-add : (a b c : ℂ) → a *ℂ (b +ℂ c) ≡ a *ℂ b +ℂ a *ℂ c
unfolding ◌+ℂ◌ ◌*ℂ◌
*ℂ-add = C.mul_add

pub of_int_ℂ-add : (a b : ℤ) → of_int_ℂ (a +ℤ b) ≡ of_int_ℂ a +ℂ of_int_ℂ b
unfolding ◌+ℂ◌ of_int_ℂ
of_int_ℂ-add = C.of_int-add

pub of_int_ℂ-mul : (a b : ℤ) → of_int_ℂ (a *ℤ b) ≡ of_int_ℂ a *ℂ of_int_ℂ b
unfolding ◌*ℂ◌ of_int_ℂ
of_int_ℂ-mul = C.of_int-mul

-- the ring of complex numbers with rational parts, where `ring` and `combine` work
abbrev pub complex_rationals : CommutativeRing
complex_rationals = record {
  carrier = ℂ;
  of_int = of_int_ℂ;
  add = ◌+ℂ◌;
  mul = ◌*ℂ◌;
  neg = neg_ℂ;
  add_assoc = +ℂ_assoc;
  add_comm = +ℂ_comm;
  add_zero = +ℂ-zero;
  add_neg = +ℂ-neg;
  mul_assoc = *ℂ_assoc;
  mul_comm = *ℂ_comm;
  mul_one = *ℂ-one;
  mul_add = *ℂ-add;
  of_int-add = of_int_ℂ-add;
  of_int-mul = of_int_ℂ-mul;
}

-- ---- the parts
pub parts-add : (z w : ℂ) → z +ℂ w ≡ complex (z.re +ℚ w.re) (z.im +ℚ w.im)
unfolding ◌+ℂ◌
parts-add z w = refl

-- the parts of -z
pub parts-neg : (z : ℂ) → neg_ℂ z ≡ complex (neg_ℚ z.re) (neg_ℚ z.im)
unfolding neg_ℂ
parts-neg z = refl

-- the parts of z w
pub parts-mul : (z w : ℂ) → z *ℂ w ≡ complex (z.re *ℚ w.re -ℚ z.im *ℚ w.im) (z.re *ℚ w.im +ℚ z.im *ℚ w.re)
unfolding ◌*ℂ◌
parts-mul z w = same_pair rational_ring _ _
    (ring4 rational_ring z.re z.im w.re w.im (λ a b c d. search quotes depth 12) tt)
    (ring4 rational_ring z.re z.im w.re w.im (λ a b c d. search quotes depth 12) tt)

-- the parts of a whole number
pub parts-int : (k : ℤ) → of_int_ℂ k ≡ complex (of_int k) (of_int (pos 0))
unfolding of_int_ℂ
parts-int k = refl

-- ---- the conjugate, the norm and the inverse
abbrev pub conjugate : ℂ → ℂ
conjugate z = complex z.re (neg_ℚ z.im)

-- re^2 + im^2
abbrev pub norm : ℂ → ℚ
norm z = z.re *ℚ z.re +ℚ z.im *ℚ z.im

-- q + 0 i
abbrev pub real : ℚ → ℂ
real q = complex q (of_int (pos 0))

-- the norm of a product is the product of the norms
pub norm-mul : (z w : ℂ) → norm (z *ℂ w) ≡ norm z *ℚ norm w
norm-mul z w = ap norm (parts-mul z w) ∙ ring4 rational_ring z.re z.im w.re w.im (λ a b c d. search quotes depth 12) tt

-- z times its conjugate is its norm
pub times_conjugate : (z : ℂ) → z *ℂ conjugate z ≡ real (norm z)
times_conjugate z = parts-mul z (conjugate z) ∙ same_pair rational_ring _ _
    (ring2 rational_ring z.re z.im (λ a b. search quotes depth 12) tt)
    (ring2 rational_ring z.re z.im (λ a b. search quotes depth 12) tt)

-- products of real numbers
pub real-mul : (p q : ℚ) → real p *ℂ real q ≡ real (p *ℚ q)
real-mul p q = parts-mul _ _ ∙ same_pair rational_ring _ _
    (ring2 rational_ring p q (λ a b. search quotes depth 12) tt)
    (ring2 rational_ring p q (λ a b. search quotes depth 12) tt)

-- 1/z, as the conjugate over the norm; 0 for 0
pub inverse_ℂ : ℂ → ℂ
inverse_ℂ z = conjugate z *ℂ real (inverse (norm z))

-- what 1/z is
pub inverse_ℂ-is : (z : ℂ) → inverse_ℂ z ≡ conjugate z *ℂ real (inverse (norm z))
unfolding inverse_ℂ
inverse_ℂ-is z = refl

-- the parts of 1/z
pub parts-inverse : (z : ℂ) → inverse_ℂ z ≡ complex (z.re *ℚ inverse (norm z)) (neg_ℚ z.im *ℚ inverse (norm z))
unfolding inverse_ℂ
parts-inverse z = parts-mul _ _ ∙ same_pair rational_ring _ _
    (ring3 rational_ring z.re z.im (inverse (norm z)) (λ a b c. search quotes depth 12) tt)
    (ring3 rational_ring z.re z.im (inverse (norm z)) (λ a b c. search quotes depth 12) tt)

-- z (1/z) = 1, for z other than 0
pub *ℂ-inverse : (z : ℂ) → of_int (pos 0) <ℚ norm z → z *ℂ inverse_ℂ z ≡ of_int_ℂ (pos 1)
unfolding inverse_ℂ
*ℂ-inverse z h =
    sym (*ℂ_assoc z (conjugate z) _) ∙ ap (λ w. w *ℂ real (inverse (norm z))) (times_conjugate z)
    ∙ real-mul _ _ ∙ ap real (inverse_right (norm z) h) ∙ sym (parts-int (pos 1))

-- the inverse is unique: z w = 1 gives w = 1 / z
pub inverse_unique : (z w : ℂ) → of_int (pos 0) <ℚ norm z → z *ℂ w ≡ of_int_ℂ (pos 1) → w ≡ inverse_ℂ z
inverse_unique z w h e =
    combine complex_rationals (neg_ℂ w) (*ℂ-inverse z h)
    (combine complex_rationals (inverse_ℂ z) e (ring3 complex_rationals z w (inverse_ℂ z) (λ z w v. search quotes depth 12) tt))
