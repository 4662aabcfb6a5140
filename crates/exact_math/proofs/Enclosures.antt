-- Whole ends round a rational number, in whatever unit, under sums, multiples, products and division.
use mathlib.Core.Path.{◌≡◌, ap, subst, subst₂, ◌∙◌}
use mathlib.Core.Logic.{⊎_elim}
use Prim.Native.Nat.{◌<◌, ◌%◌}
use native.Mathlib.Nat.{div-add-mod, mod-lt}
use native.Mathlib.Omega.{arith}
use lib.IntN.{ℤ, pos, negsuc, neg_ℤ, ◌+ℤ◌, ◌*ℤ◌}
use lib.Signed.{◌≤ℤ◌}
use borrow.Author.Differences.{ints}
use Rattle.std.specs.Int.{int_min, int_max}
use Rattle.std.proofs.lemmas.Int.{clamps}
use Rattle.exact_math.specs.Ends.{least, greatest}
use Rattle.exact_math.specs.Rounding.{floor_div, ceil_div}
use Rattle.exact_math.proofs.Ring.{int_ring}
use Rattle.exact_math.proofs.RingTactic.{quotes, int_quotes, ring1, ring2, ring3}
use Rattle.exact_math.proofs.Rationals.{ℚ, rational_ring, of_int, of_int-add, of_int-mul, of_int-≤, ◌+ℚ◌, ◌*ℚ◌, neg_ℚ, ◌≤ℚ◌, ◌<ℚ◌, ≤ℚ-refl, ≤ℚ-trans, compare_ℚ}
use Rattle.exact_math.proofs.RationalOrder.{nonneg_int, add_mono, mul_mono, cancel_mul, from_difference, difference_nonneg, negative, ≤-from_<, int-<}

-- q lies from lo to hi
pub record Encloses (lo hi : ℤ) (q : ℚ) : Type 0 where
  pub above : of_int lo ≤ℚ q
  pub below : q ≤ℚ of_int hi

-- -a as a rational number
pub of_int-neg : (a : ℤ) → of_int (neg_ℤ a) ≡ neg_ℚ (of_int a)
of_int-neg a =
    ap of_int (ring1 int_ring a (λ a. search int_quotes depth 9) tt) ∙ of_int-mul (negsuc 0) a
    ∙ ring1 rational_ring (of_int a) (λ a. search quotes depth 9) tt

-- a whole number itself
pub Encloses-whole : (a : ℤ) → Encloses a a (of_int a)
Encloses-whole a = record { above = ≤ℚ-refl _; below = ≤ℚ-refl _ }

-- wider ends
pub Encloses-wider : {lo hi lo' hi' : ℤ} {p : ℚ} → lo' ≤ℤ lo → hi ≤ℤ hi' → Encloses lo hi p → Encloses lo' hi' p
Encloses-wider l h e = record {
  above = ≤ℚ-trans _ _ _ ((of_int-≤ _ _).1 l) e.above;
  below = ≤ℚ-trans _ _ _ e.below ((of_int-≤ _ _).1 h);
}

-- ---- sums
pub Encloses-add : {lo hi lo' hi' : ℤ} {p q : ℚ} → Encloses lo hi p → Encloses lo' hi' q → Encloses (lo +ℤ lo') (hi +ℤ hi') (p +ℚ q)
Encloses-add h k = record {
  above = rw of_int-add (add_mono h.above k.above);
  below = rw of_int-add (add_mono h.below k.below);
}

-- -q <= -p from p <= q
pub neg_mono : {p q : ℚ} → p ≤ℚ q → neg_ℚ q ≤ℚ neg_ℚ p
neg_mono {p} {q} h = from_difference (subst (λ z. of_int (pos 0) ≤ℚ z) (ring2 rational_ring p q (λ p q. search quotes depth 9) tt) (difference_nonneg h))

-- -p
pub Encloses-neg : {lo hi : ℤ} {p : ℚ} → Encloses lo hi p → Encloses (neg_ℤ hi) (neg_ℤ lo) (neg_ℚ p)
Encloses-neg h = record { above = rw of_int-neg (neg_mono h.below); below = rw of_int-neg (neg_mono h.above) }

-- ---- a whole multiple, by a number that is at least 0 and by one that is at most 0
pub Encloses-scale_up : (k : ℤ) {lo hi : ℤ} {p : ℚ} → pos 0 ≤ℤ k → Encloses lo hi p → Encloses (k *ℤ lo) (k *ℤ hi) (of_int k *ℚ p)
Encloses-scale_up (pos n) low h = record { above = rw of_int-mul (mul_mono _ (nonneg_int n) h.above); below = rw of_int-mul (mul_mono _ (nonneg_int n) h.below) }
Encloses-scale_up (negsuc n) low h = absurd (omega (arith, ints))

-- k p, where k is at most 0
pub Encloses-scale_down : (k : ℤ) {lo hi : ℤ} {p : ℚ} → k ≤ℤ pos 0 → Encloses lo hi p → Encloses (k *ℤ hi) (k *ℤ lo) (of_int k *ℚ p)
Encloses-scale_down k {lo} {hi} {p} high h =
    turned (k *ℤ hi) (k *ℤ lo) (one hi) (one lo) (Encloses-neg (Encloses-scale_up (neg_ℤ k) (omega (arith, ints)) h))
  where
    one : (a : ℤ) → neg_ℤ (neg_ℤ k *ℤ a) ≡ k *ℤ a
    one a = ring2 int_ring k a (λ k a. search int_quotes depth 9) tt

    back : neg_ℚ (of_int (neg_ℤ k) *ℚ p) ≡ of_int k *ℚ p
    back = ap (λ z. neg_ℚ (z *ℚ p)) (of_int-neg k) ∙ ring2 rational_ring (of_int k) p (λ k p. search quotes depth 9) tt

    turned : (a b : ℤ) {c d : ℤ} → c ≡ a → d ≡ b → Encloses c d (neg_ℚ (of_int (neg_ℤ k) *ℚ p)) → Encloses a b (of_int k *ℚ p)
    turned a b {c} {d} e f h = subst₂ (λ l m. Encloses l m (of_int k *ℚ p)) e f (subst (Encloses c d) back h)

-- by any whole number: the lower and the upper of the two multiples
pub Encloses-scale : (k : ℤ) {lo hi : ℤ} {p : ℚ} → Encloses lo hi p → Encloses (int_min (lo *ℤ k) (hi *ℤ k)) (int_max (lo *ℤ k) (hi *ℤ k)) (of_int k *ℚ p)
Encloses-scale (pos n) h = Encloses-wider (omega (arith, ints, clamps)) (omega (arith, ints, clamps)) (Encloses-scale_up (pos n) (omega (arith, ints)) h)
Encloses-scale (negsuc n) h = Encloses-wider (omega (arith, ints, clamps)) (omega (arith, ints, clamps)) (Encloses-scale_down (negsuc n) (omega (arith, ints)) h)

-- ---- division by n >= 1, rounded outward
pub floor_div_le : (a n : ℤ) → pos 1 ≤ℤ n → (n *ℤ floor_div a n) ≤ℤ a
floor_div_le (pos a) (pos n) h = let e = div-add-mod a n in omega (arith, ints)
floor_div_le (negsuc a) (pos n) h = let e = div-add-mod a n in let m : a % n < n = mod-lt a (omega (arith, ints)) in omega (arith, ints)
floor_div_le a (negsuc n) h = absurd (omega (arith, ints))

-- a <= n ceil(a/n)
pub ceil_div_ge : (a n : ℤ) → pos 1 ≤ℤ n → a ≤ℤ (n *ℤ ceil_div a n)
ceil_div_ge a n h =
    let k = floor_div_le (neg_ℤ a) n h in
    let e : n *ℤ ceil_div a n ≡ neg_ℤ (n *ℤ floor_div (neg_ℤ a) n) = ring2 int_ring (floor_div (neg_ℤ a) n) n (λ f n. search int_quotes depth 9) tt in
    rw e (omega (arith, ints))

-- ends round n r, divided outward, are ends round r
pub Encloses-quot : (n : ℤ) {lo hi : ℤ} {r : ℚ} → pos 1 ≤ℤ n → Encloses lo hi (of_int n *ℚ r) → Encloses (floor_div lo n) (ceil_div hi n) r
Encloses-quot n {lo} {hi} {r} positive h = record {
  above = cancel_mul (of_int n) n>0 (≤ℚ-trans _ _ _ (le_from_int _ _ (floor_div_le lo n positive)) h.above);
  below = cancel_mul (of_int n) n>0 (≤ℚ-trans _ _ _ h.below (le_to_int _ _ (ceil_div_ge hi n positive)));
}
  where
    n>0 : of_int (pos 0) <ℚ of_int n
    n>0 = int-< _ _ (omega (arith, ints))

    le_from_int : (a b : ℤ) → (n *ℤ a) ≤ℤ b → of_int n *ℚ of_int a ≤ℚ of_int b
    le_from_int a b k = subst (λ z. z ≤ℚ of_int b) (of_int-mul n a) ((of_int-≤ _ _).1 k)

    le_to_int : (a b : ℤ) → b ≤ℤ (n *ℤ a) → of_int b ≤ℚ of_int n *ℚ of_int a
    le_to_int a b k = subst (λ z. of_int b ≤ℚ z) (of_int-mul n a) ((of_int-≤ _ _).1 k)

-- ---- a product
side : {a b p m : ℚ} (x : ℚ) → a ≤ℚ p → p ≤ℚ b → x *ℚ a ≤ℚ m → x *ℚ b ≤ℚ m → x *ℚ p ≤ℚ m
side {a} {b} {p} {m} x h k l r = ⊎_elim
    (λ s. ≤ℚ-trans _ _ _ (mul_mono x s k) r)
    (λ s. ≤ℚ-trans _ _ _ (from_difference (subst (λ z. of_int (pos 0) ≤ℚ z) (ring3 rational_ring x a p (λ x a p. search quotes depth 9) tt)
    (difference_nonneg (mul_mono (neg_ℚ x) (negative (≤-from_< s)) h)))) l)
    (compare_ℚ (of_int (pos 0)) x)

turn : {m : ℚ} (p q : ℚ) → p *ℚ q ≤ℚ m → q *ℚ p ≤ℚ m
turn {m} p q h = subst (λ z. z ≤ℚ m) (ring2 rational_ring p q (λ p q. search quotes depth 9) tt) h

-- a product of numbers from a to b and from c to d is at most m, where the four products of the ends are
pub product_upper : {a b c d m : ℚ} (p q : ℚ) → a ≤ℚ p → p ≤ℚ b → c ≤ℚ q → q ≤ℚ d
    → a *ℚ c ≤ℚ m → a *ℚ d ≤ℚ m → b *ℚ c ≤ℚ m → b *ℚ d ≤ℚ m → p *ℚ q ≤ℚ m
product_upper {a} {b} p q h k l r ac ad bc bd = turn q p (side q h k (turn a q (side a l r ac ad)) (turn b q (side b l r bc bd)))

-- and at least m, where these are
pub product_lower : {a b c d m : ℚ} (p q : ℚ) → a ≤ℚ p → p ≤ℚ b → c ≤ℚ q → q ≤ℚ d
    → m ≤ℚ a *ℚ c → m ≤ℚ a *ℚ d → m ≤ℚ b *ℚ c → m ≤ℚ b *ℚ d → m ≤ℚ p *ℚ q
product_lower {a} {b} {c} {d} {m} p q h k l r ac ad bc bd =
    back (product_upper (neg_ℚ p) q (neg_mono k) (neg_mono h) l r (to b c bc) (to b d bd) (to a c ac) (to a d ad))
  where
    to : (x y : ℚ) → m ≤ℚ x *ℚ y → neg_ℚ x *ℚ y ≤ℚ neg_ℚ m
    to x y s = subst (λ z. z ≤ℚ neg_ℚ m) (ring2 rational_ring x y (λ x y. search quotes depth 9) tt) (neg_mono s)

    back : neg_ℚ p *ℚ q ≤ℚ neg_ℚ m → m ≤ℚ p *ℚ q
    back s = from_difference (subst (λ z. of_int (pos 0) ≤ℚ z) (ring3 rational_ring m p q (λ m p q. search quotes depth 9) tt) (difference_nonneg s))

least_le : (a b c d : ℤ) → (least a b c d ≤ℤ a) × (least a b c d ≤ℤ b) × (least a b c d ≤ℤ c) × (least a b c d ≤ℤ d)
least_le a b c d = omega (arith, ints, clamps)

le_greatest : (a b c d : ℤ) → (a ≤ℤ greatest a b c d) × (b ≤ℤ greatest a b c d) × (c ≤ℤ greatest a b c d) × (d ≤ℤ greatest a b c d)
le_greatest a b c d = omega (arith, ints, clamps)

-- p q: the least and the greatest of the four products of ends
pub Encloses-mul : (a b c d : ℤ) {p q : ℚ} → Encloses a b p → Encloses c d q → Encloses (least (a *ℤ c) (a *ℤ d) (b *ℤ c) (b *ℤ d)) (greatest (a *ℤ c) (a *ℤ d) (b *ℤ c) (b *ℤ d)) (p *ℚ q)
Encloses-mul a b c d {p} {q} h k =
    let l = least_le (a *ℤ c) (a *ℤ d) (b *ℤ c) (b *ℤ d) in
    let g = le_greatest (a *ℤ c) (a *ℤ d) (b *ℤ c) (b *ℤ d) in
    record {
      above = product_lower p q h.above h.below k.above k.below (low _ _ _ l.0) (low _ _ _ l.1) (low _ _ _ l.2) (low _ _ _ l.3);
      below = product_upper p q h.above h.below k.above k.below (high _ _ _ g.0) (high _ _ _ g.1) (high _ _ _ g.2) (high _ _ _ g.3);
    }
  where
    low : (m a b : ℤ) → m ≤ℤ (a *ℤ b) → of_int m ≤ℚ of_int a *ℚ of_int b
    low m a b s = subst (λ z. of_int m ≤ℚ z) (of_int-mul a b) ((of_int-≤ _ _).1 s)

    high : (m a b : ℤ) → (a *ℤ b) ≤ℤ m → of_int a *ℚ of_int b ≤ℚ of_int m
    high m a b s = subst (λ z. z ≤ℚ of_int m) (of_int-mul a b) ((of_int-≤ _ _).1 s)
