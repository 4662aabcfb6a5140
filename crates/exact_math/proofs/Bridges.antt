-- Containment by cross multiplication is containment of the rational number, and the rules of interval arithmetic on fractions that follow.
use mathlib.Core.Path.{◌≡◌, sym, ap, subst, subst₂, ◌∙◌}
use Prim.Native.Nat.{zero, suc}
use native.Mathlib.Omega.{arith}
use lib.IntN.{ℤ, pos, negsuc, neg_ℤ, ◌+ℤ◌, ◌-ℤ◌, ◌*ℤ◌}
use lib.Signed.{◌<ℤ◌, ◌≤ℤ◌}
use borrow.Author.Differences.{ints}
use Rattle.std.specs.Int.{int_min, int_max}
use Rattle.exact_math.specs.Contains.{Contains}
use Rattle.exact_math.specs.Ends.{least, greatest}
use Rattle.exact_math.specs.Ratio.{Ratio, whole_ratio, add_ratio, neg_ratio, sub_ratio, mul_ratio, over_ratio}
use Rattle.exact_math.specs.Rounding.{floor_div, ceil_div}
use Rattle.exact_math.proofs.RingTactic.{quotes, combine, ring2, ring3, ring4, ring5}
use Rattle.exact_math.proofs.Integers.{*-positive, *-comm}
use Rattle.exact_math.proofs.Rationals.{ℚ, rational_ring, of_int, of_int-mul, of_int-≤, ◌+ℚ◌, ◌*ℚ◌, ◌-ℚ◌, neg_ℚ, inverse, ◌≤ℚ◌, ◌<ℚ◌}
use Rattle.exact_math.proofs.RationalOrder.{int-<, inverse_right, mul_mono, cancel_mul, ≤-from_<}
use Rattle.exact_math.proofs.Enclosures.{Encloses, Encloses-wider, Encloses-add, Encloses-neg, Encloses-scale, Encloses-quot, Encloses-mul, floor_div_le, ceil_div_ge}
use Rattle.exact_math.proofs.Fractions.{ratio, ratio_value, RatioStands, RatioStands-itself, RatioStands-whole, RatioStands-add, RatioStands-neg, RatioStands-sub, RatioStands-mul, RatioStands-over, ratio-same, times_denominator}

-- ---- x stands for q, and its ends count units of 1/u
module _ (u lo hi : ℤ) {x : Ratio} {q : ℚ} (s : RatioStands x q) where
  D>0 : of_int (pos 0) <ℚ of_int x.denominator
  D>0 = int-< _ _ s.positive

  times : of_int x.denominator *ℚ (of_int u *ℚ q) ≡ of_int (u *ℤ x.numerator)
  times =
      ap (λ z. of_int x.denominator *ℚ (of_int u *ℚ z)) (sym s.is)
      ∙ ring3 rational_ring (of_int x.denominator) (of_int u) (ratio x.numerator x.denominator) (λ d u r. search quotes depth 9) tt
      ∙ ap (λ z. of_int u *ℚ z) (times_denominator x.numerator x.denominator s.positive) ∙ sym (of_int-mul u x.numerator)

  scaled : (a : ℤ) → of_int x.denominator *ℚ of_int a ≡ of_int (a *ℤ x.denominator)
  scaled a = ring2 rational_ring (of_int x.denominator) (of_int a) (λ d a. search quotes depth 9) tt ∙ sym (of_int-mul a x.denominator)

  -- the ends contain x exactly where u q lies between them
  pub encloses_from_contains : Contains u lo hi x → Encloses lo hi (of_int u *ℚ q)
  encloses_from_contains h = record {
    above = cancel_mul (of_int x.denominator) D>0 (subst₂ (λ a b. a ≤ℚ b) (sym (scaled lo)) (sym times) ((of_int-≤ _ _).1 h.above));
    below = cancel_mul (of_int x.denominator) D>0 (subst₂ (λ a b. a ≤ℚ b) (sym times) (sym (scaled hi)) ((of_int-≤ _ _).1 h.below));
  }

  -- and back
  pub contains_from_encloses : Encloses lo hi (of_int u *ℚ q) → Contains u lo hi x
  contains_from_encloses h = record {
    fraction = s.positive;
    above = (of_int-≤ _ _).0 (subst₂ (λ a b. a ≤ℚ b) (scaled lo) times (mul_mono (of_int x.denominator) (≤-from_< D>0) h.above));
    below = (of_int-≤ _ _).0 (subst₂ (λ a b. a ≤ℚ b) times (scaled hi) (mul_mono (of_int x.denominator) (≤-from_< D>0) h.below));
  }

module _ {u lo hi : ℤ} {x : Ratio} (h : Contains u lo hi x) where
  abbrev stands : RatioStands x (ratio_value x)
  stands = RatioStands-itself x h.fraction

  abbrev encloses : Encloses lo hi (of_int u *ℚ ratio_value x)
  encloses = encloses_from_contains u lo hi stands h

  -- ---- whole ends and fractions, in one unit
  -- wider ends
  pub contains-wider : {lo' hi' : ℤ} → lo' ≤ℤ lo → hi ≤ℤ hi' → Contains u lo' hi' x
  contains-wider l m = contains_from_encloses u _ _ stands (Encloses-wider l m encloses)

  -- another fraction of the same value, by cross multiplication
  pub contains-same : (y : Ratio) → pos 0 <ℤ y.denominator → x.numerator *ℤ y.denominator ≡ y.numerator *ℤ x.denominator → Contains u lo hi y
  contains-same y p e = contains_from_encloses u lo hi (RatioStands-itself y p)
      (subst (λ q. Encloses lo hi (of_int u *ℚ q)) (ratio-same x.numerator x.denominator y.numerator y.denominator h.fraction p e) encloses)

  -- -x
  pub contains-neg : Contains u (neg_ℤ hi) (neg_ℤ lo) (neg_ratio x)
  contains-neg = contains_from_encloses u _ _ (RatioStands-neg stands)
      (subst (Encloses (neg_ℤ hi) (neg_ℤ lo)) (ring2 rational_ring (of_int u) (ratio_value x) (λ u q. search quotes depth 9) tt) (Encloses-neg encloses))

  scale_value : (k : ℤ) → of_int k *ℚ (of_int u *ℚ ratio_value x) ≡ of_int u *ℚ (of_int k *ℚ ratio_value x)
  scale_value k = ring3 rational_ring (of_int k) (of_int u) (ratio_value x) (λ k u q. search quotes depth 9) tt

  abbrev scaled_stands : (k : ℤ) → RatioStands (mul_ratio (whole_ratio k) x) (of_int k *ℚ ratio_value x)
  scaled_stands k = RatioStands-mul (RatioStands-whole k) stands

  -- k x: the lower and the upper of the two multiples
  pub contains-scale : (k : ℤ) → Contains u (int_min (lo *ℤ k) (hi *ℤ k)) (int_max (lo *ℤ k) (hi *ℤ k)) (mul_ratio (whole_ratio k) x)
  contains-scale k = contains_from_encloses u _ _ (scaled_stands k) (subst (Encloses _ _) (scale_value k) (Encloses-scale k encloses))

  -- x/n, rounded outward
  pub contains-quot : (n : ℤ) → pos 1 ≤ℤ n → Contains u (floor_div lo n) (ceil_div hi n) (over_ratio x n)
  contains-quot n p = contains_from_encloses u _ _ (RatioStands-over n p stands)
      (Encloses-quot n p (subst (Encloses lo hi) (value_is (of_int n) (of_int u) (ratio_value x) (inverse (of_int n)) (inverse_right _ (int-< _ _ (omega (arith, ints))))) encloses))
    where
      value_is : (n u q i : ℚ) → n *ℚ i ≡ of_int (pos 1) → u *ℚ q ≡ n *ℚ (u *ℚ (q *ℚ i))
      value_is n u q i e = combine rational_ring (neg_ℚ (u *ℚ q)) e (ring4 rational_ring n u q i (λ n u q i. search quotes depth 12) tt)

-- from units of 1/(u n) to units of 1/u, rounded outward
pub contains-units : (u n : ℤ) {lo hi : ℤ} {x : Ratio} → pos 1 ≤ℤ n → Contains (u *ℤ n) lo hi x → Contains u (floor_div lo n) (ceil_div hi n) x
contains-units u n {lo} {hi} {x} n>0 h = contains_from_encloses u _ _ (stands h)
    (Encloses-quot n n>0 (subst (Encloses lo hi) (value_is (of_int u) (of_int n) (ratio_value x) (of_int-mul u n)) (encloses h)))
  where
    value_is : (u n q : ℚ) {c : ℚ} → c ≡ u *ℚ n → c *ℚ q ≡ n *ℚ (u *ℚ q)
    value_is u n q {c} f = combine rational_ring q f (ring4 rational_ring u n q c (λ u n q c. search quotes depth 12) tt)

-- any fraction, rounded outward to whole units
pub contains-rounded : (u : ℤ) (x : Ratio) → pos 0 <ℤ x.denominator → Contains u (floor_div (u *ℤ x.numerator) x.denominator) (ceil_div (u *ℤ x.numerator) x.denominator) x
contains-rounded u x h =
    let f = floor_div_le (u *ℤ x.numerator) x.denominator (omega (arith, ints)) in
    let c = ceil_div_ge (u *ℤ x.numerator) x.denominator (omega (arith, ints)) in
    record {
      fraction = h;
      above = subst (λ z. z ≤ℤ (u *ℤ x.numerator)) (*-comm x.denominator _) f;
      below = subst (λ z. (u *ℤ x.numerator) ≤ℤ z) (*-comm x.denominator _) c;
    }

-- x + y
pub contains-add : {u lo hi lo' hi' : ℤ} {x y : Ratio} → Contains u lo hi x → Contains u lo' hi' y → Contains u (lo +ℤ lo') (hi +ℤ hi') (add_ratio x y)
contains-add {u} {x = x} {y = y} h k = contains_from_encloses u _ _ (RatioStands-add (stands h) (stands k))
    (subst (Encloses _ _) (sym (rational_ring.mul_add _ _ _)) (Encloses-add (encloses h) (encloses k)))

-- x - y
pub contains-sub : {u lo hi lo' hi' : ℤ} {x y : Ratio} → Contains u lo hi x → Contains u lo' hi' y → Contains u (lo -ℤ hi') (hi -ℤ lo') (sub_ratio x y)
contains-sub h k = contains-add h (contains-neg k)

-- x y, in the product of the units: the least and the greatest of the four products of ends
pub contains-mul : {u v lo hi lo' hi' : ℤ} {x y : Ratio} → Contains u lo hi x → Contains v lo' hi' y
    → Contains (u *ℤ v) (least (lo *ℤ lo') (lo *ℤ hi') (hi *ℤ lo') (hi *ℤ hi')) (greatest (lo *ℤ lo') (lo *ℤ hi') (hi *ℤ lo') (hi *ℤ hi')) (mul_ratio x y)
contains-mul {u} {v} {lo} {hi} {lo'} {hi'} {x} {y} h k = contains_from_encloses (u *ℤ v) _ _ (RatioStands-mul (stands h) (stands k))
    (subst (Encloses _ _) (value_is (of_int u) (of_int v) (ratio_value x) (ratio_value y) (of_int-mul u v)) (Encloses-mul lo hi lo' hi' (encloses h) (encloses k)))
  where
    value_is : (u v p q : ℚ) {c : ℚ} → c ≡ u *ℚ v → u *ℚ p *ℚ (v *ℚ q) ≡ c *ℚ (p *ℚ q)
    value_is u v p q {c} f = combine rational_ring (neg_ℚ (p *ℚ q)) f (ring5 rational_ring u v p q c (λ u v p q c. search quotes depth 12) tt)

positive_factor : (a b : ℤ) → pos 0 <ℤ b → pos 0 <ℤ (a *ℤ b) → pos 0 <ℤ a
positive_factor (pos zero) b h k = absurd (omega (arith, ints))
positive_factor (pos (suc a)) b h k = omega (arith, ints)
positive_factor (negsuc a) b h k =
    let l = *-positive (pos (suc a)) b (omega (arith, ints)) h in
    absurd (omega (arith, ints))

-- any fraction that is at most r units away from x
pub contains-widen : {u lo hi : ℤ} {x : Ratio} (r : ℤ) (y : Ratio) → Contains u lo hi x → Contains u (neg_ℤ r) r (sub_ratio y x) → Contains u (lo -ℤ r) (hi +ℤ r) y
contains-widen {u} {lo} {hi} {x} r y h k =
    let y>0 = positive_factor y.denominator x.denominator h.fraction k.fraction in
    let sy = RatioStands-itself y y>0 in
    contains_from_encloses u _ _ sy
    (subst (Encloses _ _) (value_is (of_int u) (ratio_value x) (ratio_value y))
    (Encloses-add (encloses h) (encloses_from_contains u (neg_ℤ r) r (RatioStands-sub sy (stands h)) k)))
  where
    value_is : (u p q : ℚ) → u *ℚ p +ℚ u *ℚ (q -ℚ p) ≡ u *ℚ q
    value_is u p q = ring3 rational_ring u p q (λ u p q. search quotes depth 12) tt
