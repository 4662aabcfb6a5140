-- The rational numbers: fractions up to cross multiplication, so that `≡` is equality of values. Every operation is opaque outside this file.
use mathlib.Core.Path.{◌≡◌, refl, sym, ap, subst, subst₂, ◌∙◌}
use mathlib.Core.Quot.{Quot, mk, Quot-set, sound, ind, lift}
use mathlib.Core.Bool.{Bool, true, false, not, Bool-set}
use mathlib.Core.Logic.{◌↔◌, ◌⊎◌, inl, inr}
use Prim.Native.Nat.{ℕ, zero, suc}
use native.Mathlib.Omega.{arith}
use lib.Dec.{T, T_prop, T_not, not_T}
use lib.IntN.{ℤ, pos, negsuc, neg_ℤ, ◌+ℤ◌, ◌*ℤ◌}
use lib.Signed.{◌<ℤ◌, ◌≤ℤ◌, le_z}
use borrow.Author.Differences.{ints}
use Rattle.exact_math.proofs.Ring.{CommutativeRing, int_ring, *ℤ-1}
use Rattle.exact_math.proofs.RingTactic.{int_quotes, combine, ring1, ring2, ring3, ring4, ring5, ring6}
use Rattle.exact_math.proofs.Integers.{*-positive, *-cancel_≤, *-cancel, *-mono_left, *-nonneg, +-mono, ≤-refl, ≤-trans, ≤-antisym, ≤-total, ≤-from_<}

-- a fraction with a denominator above 0
pub record Fraction : Type 0 where
  pub numerator : ℤ
  pub denominator : ℤ
  pub positive : pos 0 <ℤ denominator

-- equal by cross multiplication
abbrev pub Equal : Fraction → Fraction → Type 0
Equal x y = x.numerator *ℤ y.denominator ≡ y.numerator *ℤ x.denominator

-- fractions up to equality of values
pub ℚ : Type 0
ℚ = Quot Equal

pub ℚ-set : IsSet ℚ
unfolding ℚ
ℚ-set = Quot-set

-- the number of a fraction
pub fraction : Fraction → ℚ
unfolding ℚ
fraction x = mk x

-- equal fractions have one number
pub same_fraction : (x y : Fraction) → Equal x y → fraction x ≡ fraction y
unfolding ℚ fraction
same_fraction x y h = sound h

-- what holds of all fractions holds of all rational numbers
pub by_fraction : (P : ℚ → Type 0) → ((q : ℚ) → IsProp (P q)) → ((x : Fraction) → P (fraction x)) → (q : ℚ) → P q
unfolding ℚ fraction
by_fraction P c h q = ind c h q

-- a binary operation from one on fractions
binary_at : (f : Fraction → Fraction) → ((y y' : Fraction) → Equal y y' → Equal (f y) (f y')) → ℚ → ℚ
unfolding ℚ
binary_at f right q = lift {0, 0, 0} {r = Equal} (Quot-set {r = Equal}) (λ y. mk (f y)) (λ y y' h. sound (right y y' h)) q

binary : (f : Fraction → Fraction → Fraction)
    → ((x x' y : Fraction) → Equal x x' → Equal (f x y) (f x' y))
    → ((x y y' : Fraction) → Equal y y' → Equal (f x y) (f x y')) → ℚ → ℚ → ℚ
unfolding ℚ binary_at
binary f left right p q =
    lift {0, 0, 0} {r = Equal} (Quot-set {r = Equal}) (λ x. binary_at (f x) (right x) q)
    (λ x x' h. ind {0, 0, 0} {r = Equal} {β = λ q. binary_at (f x) (right x) q ≡ binary_at (f x') (right x') q}
    (λ q. Quot-set {r = Equal} _ _) (λ y. sound (left x x' y h)) q) p

-- ---- on fractions
abbrev pub add_fraction : Fraction → Fraction → Fraction
add_fraction x y = record {
  numerator = x.numerator *ℤ y.denominator +ℤ y.numerator *ℤ x.denominator;
  denominator = x.denominator *ℤ y.denominator;
  positive = *-positive x.denominator y.denominator x.positive y.positive;
}

abbrev pub mul_fraction : Fraction → Fraction → Fraction
mul_fraction x y = record {
  numerator = x.numerator *ℤ y.numerator;
  denominator = x.denominator *ℤ y.denominator;
  positive = *-positive x.denominator y.denominator x.positive y.positive;
}

abbrev pub neg_fraction : Fraction → Fraction
neg_fraction x = record { numerator = neg_ℤ x.numerator; denominator = x.denominator; positive = x.positive }

abbrev pub whole : ℤ → Fraction
whole k = record { numerator = k; denominator = pos 1; positive = omega (arith, ints) }

-- numbers a/d, b/e, c/f
module _ (a d b e c f : ℤ) where
  add_left : a *ℤ e ≡ b *ℤ d → (a *ℤ f +ℤ c *ℤ d) *ℤ (e *ℤ f) ≡ (b *ℤ f +ℤ c *ℤ e) *ℤ (d *ℤ f)
  add_left h = combine int_ring (f *ℤ f) h (ring6 int_ring a d b e c f (λ a d b e c f. search int_quotes depth 12) tt)

  add_right : a *ℤ e ≡ b *ℤ d → (c *ℤ d +ℤ a *ℤ f) *ℤ (f *ℤ e) ≡ (c *ℤ e +ℤ b *ℤ f) *ℤ (f *ℤ d)
  add_right h = combine int_ring (f *ℤ f) h (ring6 int_ring a d b e c f (λ a d b e c f. search int_quotes depth 12) tt)

  mul_left : a *ℤ e ≡ b *ℤ d → a *ℤ c *ℤ (e *ℤ f) ≡ b *ℤ c *ℤ (d *ℤ f)
  mul_left h = combine int_ring (c *ℤ f) h (ring6 int_ring a d b e c f (λ a d b e c f. search int_quotes depth 12) tt)

  mul_right : a *ℤ e ≡ b *ℤ d → c *ℤ a *ℤ (f *ℤ e) ≡ c *ℤ b *ℤ (f *ℤ d)
  mul_right h = combine int_ring (c *ℤ f) h (ring6 int_ring a d b e c f (λ a d b e c f. search int_quotes depth 12) tt)

neg_same : (a d b e : ℤ) → a *ℤ e ≡ b *ℤ d → neg_ℤ a *ℤ e ≡ neg_ℤ b *ℤ d
neg_same a d b e h = combine int_ring (negsuc 0) h (ring4 int_ring a d b e (λ a d b e. search int_quotes depth 12) tt)

-- ---- the operations
infixl 6 ◌+ℚ◌
pub ◌+ℚ◌ : ℚ → ℚ → ℚ
◌+ℚ◌ = binary add_fraction
    (λ x x' y. add_left x.numerator x.denominator x'.numerator x'.denominator y.numerator y.denominator)
    (λ x y y'. add_right y.numerator y.denominator y'.numerator y'.denominator x.numerator x.denominator)

infixl 7 ◌*ℚ◌
pub ◌*ℚ◌ : ℚ → ℚ → ℚ
◌*ℚ◌ = binary mul_fraction
    (λ x x' y. mul_left x.numerator x.denominator x'.numerator x'.denominator y.numerator y.denominator)
    (λ x y y'. mul_right y.numerator y.denominator y'.numerator y'.denominator x.numerator x.denominator)

pub neg_ℚ : ℚ → ℚ
unfolding ℚ
neg_ℚ q = lift Quot-set (λ x. mk (neg_fraction x)) (λ x y h. sound (neg_same x.numerator x.denominator y.numerator y.denominator h)) q

-- a whole number
pub of_int : ℤ → ℚ
of_int k = fraction (whole k)

infixl 6 ◌-ℚ◌
abbrev pub ◌-ℚ◌ : ℚ → ℚ → ℚ
a -ℚ b = a +ℚ neg_ℚ b

pub +ℚ-fraction : (x y : Fraction) → fraction x +ℚ fraction y ≡ fraction (add_fraction x y)
unfolding ℚ fraction binary_at binary ◌+ℚ◌
+ℚ-fraction x y = refl

pub *ℚ-fraction : (x y : Fraction) → fraction x *ℚ fraction y ≡ fraction (mul_fraction x y)
unfolding ℚ fraction binary_at binary ◌*ℚ◌
*ℚ-fraction x y = refl

pub neg_ℚ-fraction : (x : Fraction) → neg_ℚ (fraction x) ≡ fraction (neg_fraction x)
unfolding ℚ fraction neg_ℚ
neg_ℚ-fraction x = refl

pub of_int-fraction : (k : ℤ) → of_int k ≡ fraction (whole k)
unfolding of_int
of_int-fraction k = refl

-- ---- the laws of a commutative ring
module _ (P : ℚ → ℚ → Type 0) (c : (p q : ℚ) → IsProp (P p q)) where
  pub by_fractions₂ : ((x y : Fraction) → P (fraction x) (fraction y)) → (p q : ℚ) → P p q
  by_fractions₂ h = by_fraction (λ p. (q : ℚ) → P p q) (λ p. hlevel c) (λ x. by_fraction (P (fraction x)) (c (fraction x)) (h x))

module _ (P : ℚ → ℚ → ℚ → Type 0) (c : (p q r : ℚ) → IsProp (P p q r)) where
  pub by_fractions₃ : ((x y z : Fraction) → P (fraction x) (fraction y) (fraction z)) → (p q r : ℚ) → P p q r
  by_fractions₃ h = by_fraction (λ p. (q r : ℚ) → P p q r) (λ p. hlevel c) (λ x. by_fractions₂ (P (fraction x)) (c (fraction x)) (h x))

-- an equation between fractions, with the numerators and the denominators as variables
module _ (x : Fraction) where
  abbrev N : ℤ
  N = x.numerator

  abbrev D : ℤ
  D = x.denominator

pub +ℚ_comm : (p q : ℚ) → p +ℚ q ≡ q +ℚ p
+ℚ_comm = by_fractions₂ (λ p q. p +ℚ q ≡ q +ℚ p) (λ p q. ℚ-set _ _) (λ x y.
    simp (+ℚ-fraction) (same_fraction _ _ (ring4 int_ring (N x) (D x) (N y) (D y) (λ a d b e. search int_quotes depth 12) tt)))

pub *ℚ_comm : (p q : ℚ) → p *ℚ q ≡ q *ℚ p
*ℚ_comm = by_fractions₂ (λ p q. p *ℚ q ≡ q *ℚ p) (λ p q. ℚ-set _ _) (λ x y.
    simp (*ℚ-fraction) (same_fraction _ _ (ring4 int_ring (N x) (D x) (N y) (D y) (λ a d b e. search int_quotes depth 12) tt)))

pub +ℚ_assoc : (p q r : ℚ) → p +ℚ q +ℚ r ≡ p +ℚ (q +ℚ r)
+ℚ_assoc = by_fractions₃ (λ p q r. p +ℚ q +ℚ r ≡ p +ℚ (q +ℚ r)) (λ p q r. ℚ-set _ _) (λ x y z.
    simp (+ℚ-fraction) (same_fraction _ _ (ring6 int_ring (N x) (D x) (N y) (D y) (N z) (D z) (λ a d b e c f. search int_quotes depth 12) tt)))

pub *ℚ_assoc : (p q r : ℚ) → p *ℚ q *ℚ r ≡ p *ℚ (q *ℚ r)
*ℚ_assoc = by_fractions₃ (λ p q r. p *ℚ q *ℚ r ≡ p *ℚ (q *ℚ r)) (λ p q r. ℚ-set _ _) (λ x y z.
    simp (*ℚ-fraction) (same_fraction _ _ (ring6 int_ring (N x) (D x) (N y) (D y) (N z) (D z) (λ a d b e c f. search int_quotes depth 12) tt)))

pub *ℚ-add : (p q r : ℚ) → p *ℚ (q +ℚ r) ≡ p *ℚ q +ℚ p *ℚ r
*ℚ-add = by_fractions₃ (λ p q r. p *ℚ (q +ℚ r) ≡ p *ℚ q +ℚ p *ℚ r) (λ p q r. ℚ-set _ _) (λ x y z.
    simp (+ℚ-fraction, *ℚ-fraction) (same_fraction _ _ (ring6 int_ring (N x) (D x) (N y) (D y) (N z) (D z) (λ a d b e c f. search int_quotes depth 12) tt)))

pub +ℚ-zero : (p : ℚ) → p +ℚ of_int (pos 0) ≡ p
+ℚ-zero = by_fraction (λ p. p +ℚ of_int (pos 0) ≡ p) (λ p. ℚ-set _ _) (λ x.
    simp (of_int-fraction, +ℚ-fraction) (same_fraction _ _ (ring2 int_ring (N x) (D x) (λ a d. search int_quotes depth 12) tt)))

pub +ℚ-neg : (p : ℚ) → p +ℚ neg_ℚ p ≡ of_int (pos 0)
+ℚ-neg = by_fraction (λ p. p +ℚ neg_ℚ p ≡ of_int (pos 0)) (λ p. ℚ-set _ _) (λ x.
    simp (of_int-fraction, +ℚ-fraction, neg_ℚ-fraction) (same_fraction _ _ (ring2 int_ring (N x) (D x) (λ a d. search int_quotes depth 12) tt)))

pub *ℚ-one : (p : ℚ) → p *ℚ of_int (pos 1) ≡ p
*ℚ-one = by_fraction (λ p. p *ℚ of_int (pos 1) ≡ p) (λ p. ℚ-set _ _) (λ x.
    simp (of_int-fraction, *ℚ-fraction) (same_fraction _ _ (ring2 int_ring (N x) (D x) (λ a d. search int_quotes depth 12) tt)))

pub of_int-add : (a b : ℤ) → of_int (a +ℤ b) ≡ of_int a +ℚ of_int b
of_int-add a b = simp (of_int-fraction, +ℚ-fraction) (same_fraction _ _ (ring2 int_ring a b (λ a b. search int_quotes depth 12) tt))

pub of_int-mul : (a b : ℤ) → of_int (a *ℤ b) ≡ of_int a *ℚ of_int b
of_int-mul a b = simp (of_int-fraction, *ℚ-fraction) (same_fraction _ _ (ring2 int_ring a b (λ a b. search int_quotes depth 12) tt))

-- the ring of rational numbers, where `ring` and `combine` work
abbrev pub rational_ring : CommutativeRing
rational_ring = record {
  carrier = ℚ;
  of_int = of_int;
  add = ◌+ℚ◌;
  mul = ◌*ℚ◌;
  neg = neg_ℚ;
  add_assoc = +ℚ_assoc;
  add_comm = +ℚ_comm;
  add_zero = +ℚ-zero;
  add_neg = +ℚ-neg;
  mul_assoc = *ℚ_assoc;
  mul_comm = *ℚ_comm;
  mul_one = *ℚ-one;
  mul_add = *ℚ-add;
  of_int-add = of_int-add;
  of_int-mul = of_int-mul;
}

-- ---- the order
module _ (a d b e c f : ℤ) (p : pos 0 <ℤ d) (q : pos 0 <ℤ e) (f>0 : pos 0 <ℤ f) where
  le_left : a *ℤ e ≡ b *ℤ d → (a *ℤ f) ≤ℤ (c *ℤ d) → (b *ℤ f) ≤ℤ (c *ℤ e)
  le_left h k =
      let l = *-mono_left e (a *ℤ f) (c *ℤ d) (omega (arith, ints)) k in
      let left : e *ℤ (a *ℤ f) ≡ d *ℤ (b *ℤ f) = combine int_ring f h (ring5 int_ring a d b e f (λ a d b e f. search int_quotes depth 12) tt) in
      let right : e *ℤ (c *ℤ d) ≡ d *ℤ (c *ℤ e) = ring3 int_ring e c d (λ e c d. search int_quotes depth 12) tt in
      *-cancel_≤ d _ _ p (subst₂ (λ x y. x ≤ℤ y) left right l)

  le_right : a *ℤ e ≡ b *ℤ d → (c *ℤ d) ≤ℤ (a *ℤ f) → (c *ℤ e) ≤ℤ (b *ℤ f)
  le_right h k =
      let l = *-mono_left e (c *ℤ d) (a *ℤ f) (omega (arith, ints)) k in
      let left : e *ℤ (a *ℤ f) ≡ d *ℤ (b *ℤ f) = combine int_ring f h (ring5 int_ring a d b e f (λ a d b e f. search int_quotes depth 12) tt) in
      let right : e *ℤ (c *ℤ d) ≡ d *ℤ (c *ℤ e) = ring3 int_ring e c d (λ e c d. search int_quotes depth 12) tt in
      *-cancel_≤ d _ _ p (subst₂ (λ x y. x ≤ℤ y) right left l)

same_test : (a b : Bool) → (T a → T b) → (T b → T a) → a ≡ b
same_test true true f g = refl
same_test false false f g = refl
same_test true false f g = absurd (f tt)
same_test false true f g = absurd (g tt)

abbrev le_fraction : Fraction → Fraction → Bool
le_fraction x y = le_z (x.numerator *ℤ y.denominator) (y.numerator *ℤ x.denominator)

le_fraction_left : (x x' y : Fraction) → Equal x x' → le_fraction x y ≡ le_fraction x' y
le_fraction_left x x' y h = same_test _ _
    (λ t. (le_left (N x) (D x) (N x') (D x') (N y) (D y) x.positive x'.positive y.positive h (record { le = t })).le)
    (λ t. (le_left (N x') (D x') (N x) (D x) (N y) (D y) x'.positive x.positive y.positive (sym h) (record { le = t })).le)

le_fraction_right : (x y y' : Fraction) → Equal y y' → le_fraction x y ≡ le_fraction x y'
le_fraction_right x y y' h = same_test _ _
    (λ t. (le_right (N y) (D y) (N y') (D y') (N x) (D x) y.positive y'.positive x.positive h (record { le = t })).le)
    (λ t. (le_right (N y') (D y') (N y) (D y) (N x) (D x) y'.positive y.positive x.positive (sym h) (record { le = t })).le)

le_from : (x : Fraction) → ℚ → Bool
unfolding ℚ
le_from x q = lift {0, 0, 0} {r = Equal} Bool-set (λ y. le_fraction x y) (λ y y' h. le_fraction_right x y y' h) q

le_test : ℚ → ℚ → Bool
unfolding ℚ le_from
le_test p q = lift {0, 0, 0} {r = Equal} Bool-set (λ x. le_from x q)
    (λ x x' h. ind {0, 0, 0} {r = Equal} {β = λ q. le_from x q ≡ le_from x' q} (λ q. Bool-set _ _) (λ y. le_fraction_left x x' y h) q) p

infix 4 ◌≤ℚ◌ ◌<ℚ◌
pub record ◌≤ℚ◌ (p q : ℚ) : Type 0 where
  passes : T (le_test p q)

pub record ◌<ℚ◌ (p q : ℚ) : Type 0 where
  fails : T (not (le_test q p))

pub ≤ℚ-prop : (p q : ℚ) → IsProp (p ≤ℚ q)
≤ℚ-prop p q = hlevel T_prop

-- the order, by cross multiplication
pub ≤ℚ-fraction : (x y : Fraction) → (fraction x ≤ℚ fraction y) ↔ ((x.numerator *ℤ y.denominator) ≤ℤ (y.numerator *ℤ x.denominator))
unfolding ℚ fraction le_from le_test
≤ℚ-fraction x y = (λ h. record { le = h.passes }, λ h. record { passes = h.le })

pub <ℚ-from_not : (p q : ℚ) → ¬ (q ≤ℚ p) → p <ℚ q
<ℚ-from_not p q n = record { fails = not_T _ (λ t. n (record { passes = t })) }

pub not_≤ℚ : (p q : ℚ) → p <ℚ q → ¬ (q ≤ℚ p)
not_≤ℚ p q h k = T_not _ h.fails k.passes

-- either p <= q or q < p
pub compare_ℚ : (p q : ℚ) → (p ≤ℚ q) ⊎ (q <ℚ p)
compare_ℚ p q = case (le_test p q) refl
  where
    case : (t : Bool) → le_test p q ≡ t → (p ≤ℚ q) ⊎ (q <ℚ p)
    case true e = inl (record { passes = subst T (sym e) tt })
    case false e = inr (record { fails = subst (λ t. T (not t)) (sym e) tt })

pub ≤ℚ-refl : (p : ℚ) → p ≤ℚ p
≤ℚ-refl = by_fraction (λ p. p ≤ℚ p) (λ p. ≤ℚ-prop p p) (λ x. (≤ℚ-fraction x x).1 (≤-refl _))

pub ≤ℚ-total : (p q : ℚ) → (¬ (p ≤ℚ q)) → q ≤ℚ p
≤ℚ-total = by_fractions₂ (λ p q. (¬ (p ≤ℚ q)) → q ≤ℚ p) (λ p q. hlevel ≤ℚ-prop) (λ x y n.
    (≤ℚ-fraction y x).1 (≤-total _ _ (λ h. n ((≤ℚ-fraction x y).1 h))))

-- a/d ≤ b/e and b/e ≤ c/f
le_fraction_trans : (x y z : Fraction) → (N x *ℤ D y) ≤ℤ (N y *ℤ D x) → (N y *ℤ D z) ≤ℤ (N z *ℤ D y) → (N x *ℤ D z) ≤ℤ (N z *ℤ D x)
le_fraction_trans x y z h k =
    let l = *-mono_left (D z) _ _ (≤-from_< z.positive) h in
    let m = *-mono_left (D x) _ _ (≤-from_< x.positive) k in
    let first : D z *ℤ (N x *ℤ D y) ≡ D y *ℤ (N x *ℤ D z) = ring3 int_ring (D z) (N x) (D y) (λ a b c. search int_quotes depth 9) tt in
    let middle : D z *ℤ (N y *ℤ D x) ≡ D x *ℤ (N y *ℤ D z) = ring3 int_ring (D z) (N y) (D x) (λ a b c. search int_quotes depth 9) tt in
    let last : D x *ℤ (N z *ℤ D y) ≡ D y *ℤ (N z *ℤ D x) = ring3 int_ring (D x) (N z) (D y) (λ a b c. search int_quotes depth 9) tt in
    *-cancel_≤ (D y) _ _ y.positive (≤-trans (subst₂ (λ x y. x ≤ℤ y) first middle l) (subst (λ w. (D x *ℤ (N y *ℤ D z)) ≤ℤ w) last m))

le_fraction_add : (x y z : Fraction) → (N x *ℤ D y) ≤ℤ (N y *ℤ D x)
    → ((N x *ℤ D z +ℤ N z *ℤ D x) *ℤ (D y *ℤ D z)) ≤ℤ ((N y *ℤ D z +ℤ N z *ℤ D y) *ℤ (D x *ℤ D z))
le_fraction_add x y z h =
    let square = *-nonneg (D z) (D z) (≤-from_< z.positive) (≤-from_< z.positive) in
    let l = +-mono (*-mono_left (D z *ℤ D z) _ _ square h) (≤-refl (N z *ℤ D x *ℤ D y *ℤ D z)) in
    subst₂ (λ x y. x ≤ℤ y)
    (ring6 int_ring (N x) (D x) (N y) (D y) (N z) (D z) (λ a d b e c f. search int_quotes depth 12) tt)
    (ring6 int_ring (N x) (D x) (N y) (D y) (N z) (D z) (λ a d b e c f. search int_quotes depth 12) tt) l

nonneg_in : (x : Fraction) → of_int (pos 0) ≤ℚ fraction x → pos 0 ≤ℤ N x
nonneg_in x h = let k = (≤ℚ-fraction (whole (pos 0)) x).0 (rw of_int-fraction at h) in
    subst₂ (λ x y. x ≤ℤ y) (ring1 int_ring (D x) (λ d. search int_quotes depth 9) tt) (*ℤ-1 (N x)) k

nonneg_out : (a d : ℤ) → pos 0 ≤ℤ a → (pos 0 *ℤ d) ≤ℤ (a *ℤ pos 1)
nonneg_out a d h = subst₂ (λ x y. x ≤ℤ y) (ring1 int_ring d (λ d. search int_quotes depth 9) tt) (sym (*ℤ-1 a)) h

pub ≤ℚ-trans : (p q r : ℚ) → p ≤ℚ q → q ≤ℚ r → p ≤ℚ r
≤ℚ-trans = by_fractions₃ (λ p q r. p ≤ℚ q → q ≤ℚ r → p ≤ℚ r) (λ p q r. hlevel ≤ℚ-prop) (λ x y z h k.
    (≤ℚ-fraction x z).1 (le_fraction_trans x y z ((≤ℚ-fraction x y).0 h) ((≤ℚ-fraction y z).0 k)))

pub ≤ℚ-antisym : (p q : ℚ) → p ≤ℚ q → q ≤ℚ p → p ≡ q
≤ℚ-antisym = by_fractions₂ (λ p q. p ≤ℚ q → q ≤ℚ p → p ≡ q) (λ p q. hlevel ℚ-set) (λ x y h k.
    same_fraction x y (≤-antisym ((≤ℚ-fraction x y).0 h) ((≤ℚ-fraction y x).0 k)))

pub +ℚ-mono_right : (p q r : ℚ) → p ≤ℚ q → p +ℚ r ≤ℚ q +ℚ r
+ℚ-mono_right = by_fractions₃ (λ p q r. p ≤ℚ q → p +ℚ r ≤ℚ q +ℚ r) (λ p q r. hlevel ≤ℚ-prop) (λ x y z h.
    simp +ℚ-fraction ((≤ℚ-fraction _ _).1 (le_fraction_add x y z ((≤ℚ-fraction x y).0 h))))

pub *ℚ-nonneg : (p q : ℚ) → of_int (pos 0) ≤ℚ p → of_int (pos 0) ≤ℚ q → of_int (pos 0) ≤ℚ p *ℚ q
*ℚ-nonneg = by_fractions₂ (λ p q. of_int (pos 0) ≤ℚ p → of_int (pos 0) ≤ℚ q → of_int (pos 0) ≤ℚ p *ℚ q) (λ p q. hlevel ≤ℚ-prop) (λ x y h k.
    simp (of_int-fraction, *ℚ-fraction) ((≤ℚ-fraction _ _).1 (nonneg_out (N x *ℤ N y) (D x *ℤ D y) (*-nonneg (N x) (N y) (nonneg_in x h) (nonneg_in y k)))))

-- the order of whole numbers
pub of_int-≤ : (a b : ℤ) → (of_int a ≤ℚ of_int b) ↔ (a ≤ℤ b)
of_int-≤ a b = simp of_int-fraction (λ h. subst₂ (λ x y. x ≤ℤ y) (*ℤ-1 a) (*ℤ-1 b) ((≤ℚ-fraction (whole a) (whole b)).0 h), λ h. (≤ℚ-fraction (whole a) (whole b)).1 (subst₂ (λ x y. x ≤ℤ y) (sym (*ℤ-1 a)) (sym (*ℤ-1 b)) h))

-- ---- the inverse, of 0 too, which is 0
square_positive : (n : ℕ) → (pos 0 <ℤ (pos (suc n) *ℤ pos (suc n))) × (pos 0 <ℤ (negsuc n *ℤ negsuc n))
square_positive n = (omega (arith, ints), omega (arith, ints))

abbrev inverse_fraction : ℤ → ℤ → Fraction
inverse_fraction (pos zero) d = whole (pos 0)
inverse_fraction (pos (suc n)) d = record { numerator = pos (suc n) *ℤ d; denominator = pos (suc n) *ℤ pos (suc n); positive = (square_positive n).0 }
inverse_fraction (negsuc n) d = record { numerator = negsuc n *ℤ d; denominator = negsuc n *ℤ negsuc n; positive = (square_positive n).1 }

swapped : (a d b e : ℤ) → a *ℤ e ≡ b *ℤ d → a *ℤ d *ℤ (b *ℤ b) ≡ b *ℤ e *ℤ (a *ℤ a)
swapped a d b e h = combine int_ring (neg_ℤ (a *ℤ b)) h (ring4 int_ring a d b e (λ a d b e. search int_quotes depth 12) tt)

no_zero : (b d : ℤ) (e : ℤ) → pos 0 <ℤ d → pos 0 *ℤ e ≡ b *ℤ d → b ≡ pos 0
no_zero b d e p h = *-cancel d b (pos 0) p (combine int_ring (negsuc 0) h (ring3 int_ring b d e (λ b d e. search int_quotes depth 12) tt))

inverse_same : (a d b e : ℤ) → pos 0 <ℤ d → pos 0 <ℤ e → a *ℤ e ≡ b *ℤ d → Equal (inverse_fraction a d) (inverse_fraction b e)
inverse_same (pos zero) d (pos zero) e p q h = refl
inverse_same (pos zero) d (pos (suc b)) e p q h = let z = no_zero (pos (suc b)) d e p h in absurd (omega (arith, ints))
inverse_same (pos zero) d (negsuc b) e p q h = let z = no_zero (negsuc b) d e p h in absurd (omega (arith, ints))
inverse_same (pos (suc a)) d (pos zero) e p q h = let z = no_zero (pos (suc a)) e d q (sym h) in absurd (omega (arith, ints))
inverse_same (pos (suc a)) d (pos (suc b)) e p q h = swapped (pos (suc a)) d (pos (suc b)) e h
inverse_same (pos (suc a)) d (negsuc b) e p q h = swapped (pos (suc a)) d (negsuc b) e h
inverse_same (negsuc a) d (pos zero) e p q h = let z = no_zero (negsuc a) e d q (sym h) in absurd (omega (arith, ints))
inverse_same (negsuc a) d (pos (suc b)) e p q h = swapped (negsuc a) d (pos (suc b)) e h
inverse_same (negsuc a) d (negsuc b) e p q h = swapped (negsuc a) d (negsuc b) e h

-- 1/q, and 0 for 0
pub inverse : ℚ → ℚ
unfolding ℚ
inverse q = lift {0, 0, 0} {r = Equal} (Quot-set {r = Equal}) (λ x. mk (inverse_fraction x.numerator x.denominator))
    (λ x y h. sound (inverse_same x.numerator x.denominator y.numerator y.denominator x.positive y.positive h)) q

inverse-fraction : (x : Fraction) → inverse (fraction x) ≡ fraction (inverse_fraction x.numerator x.denominator)
unfolding ℚ fraction inverse
inverse-fraction x = refl

zero_fraction : (x : Fraction) → N x ≡ pos 0 → fraction x ≡ of_int (pos 0)
zero_fraction x z = rw of_int-fraction (same_fraction x (whole (pos 0)) (ap (λ a. a *ℤ pos 1) z ∙ ring1 int_ring (D x) (λ d. search int_quotes depth 9) tt))

-- at variables: a product of two constructors has computed, and cannot be read
times_inverse : (a d : ℤ) → a *ℤ (a *ℤ d) *ℤ pos 1 ≡ pos 1 *ℤ (d *ℤ (a *ℤ a))
times_inverse a d = ring2 int_ring a d (λ a d. search int_quotes depth 12) tt

inverse_by : (a d : ℤ) (p : pos 0 <ℤ d) → ¬ (a ≡ pos 0) → Equal (mul_fraction (record { numerator = a; denominator = d; positive = p }) (inverse_fraction a d)) (whole (pos 1))
inverse_by (pos zero) d p n = absurd (n refl)
inverse_by (pos (suc a)) d p n = times_inverse (pos (suc a)) d
inverse_by (negsuc a) d p n = times_inverse (negsuc a) d

-- q (1/q) = 1, for q other than 0
pub *ℚ-inverse : (p : ℚ) → ¬ (p ≡ of_int (pos 0)) → p *ℚ inverse p ≡ of_int (pos 1)
*ℚ-inverse = by_fraction (λ p. ¬ (p ≡ of_int (pos 0)) → p *ℚ inverse p ≡ of_int (pos 1)) (λ p. hlevel ℚ-set) (λ x n.
    simp (of_int-fraction, inverse-fraction, *ℚ-fraction) (same_fraction _ _ (inverse_by (N x) (D x) x.positive (λ z. n (zero_fraction x z)))))
