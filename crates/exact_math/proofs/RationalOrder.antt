-- The ordered field of the rational numbers: what a proof of an inequality cites.
--     search (nonneg, ..)      0 ≤ p, for p built by +, * and powers from parts that are known to be at least 0
--     le_using c h k           p ≤ q from h : a ≤ b, taken c times: k proves p + c b ≤ q + c a
--     le_equal (ring ..)       p ≤ q from p ≡ q
use mathlib.Core.Path.{◌≡◌, sym, subst, subst₂, ◌∙◌}
use mathlib.Core.Logic.{◌⊎◌, inl, inr, ⊎_elim}
use Prim.Native.Nat.{ℕ, zero, suc, ◌<◌}
use native.Mathlib.Omega.{arith}
use lib.IntN.{ℤ, pos, negsuc}
use lib.Signed.{◌<ℤ◌, ◌≤ℤ◌}
use borrow.Author.Differences.{ints}
use Rattle.exact_math.proofs.Ring.{pow}
use Rattle.exact_math.proofs.RingTactic.{quotes, combine, ring1, ring2, ring3, ring4}
use Rattle.exact_math.proofs.Sums.{sum_below}
use Rattle.exact_math.proofs.Rationals.{ℚ, rational_ring, of_int, ◌+ℚ◌, ◌*ℚ◌, ◌-ℚ◌, neg_ℚ, inverse, *ℚ-inverse, ◌≤ℚ◌, ◌<ℚ◌, ≤ℚ-refl, ≤ℚ-trans, ≤ℚ-antisym, ≤ℚ-total, +ℚ-mono_right, *ℚ-nonneg, of_int-≤, not_≤ℚ, <ℚ-from_not, compare_ℚ, +ℚ_comm, +ℚ-zero, +ℚ-neg}

-- p <= q from p = q
pub le_equal : {p q : ℚ} → p ≡ q → p ≤ℚ q
le_equal {p} e = subst (λ q. p ≤ℚ q) e (≤ℚ-refl p)

-- sums of inequalities
pub add_mono : {a b c d : ℚ} → a ≤ℚ b → c ≤ℚ d → a +ℚ c ≤ℚ b +ℚ d
add_mono {a} {b} {c} {d} h k = ≤ℚ-trans _ _ _ (+ℚ-mono_right a b c h) (subst₂ (λ p q. p ≤ℚ q) (+ℚ_comm c b) (+ℚ_comm d b) (+ℚ-mono_right c d b k))

-- the same number on both sides cancels
pub cancel_add : (c : ℚ) {p q : ℚ} → p +ℚ c ≤ℚ q +ℚ c → p ≤ℚ q
cancel_add c {p} {q} h = subst₂ (λ p q. p ≤ℚ q) (back p) (back q) (+ℚ-mono_right _ _ (neg_ℚ c) h)
  where
    back : (p : ℚ) → p +ℚ c +ℚ neg_ℚ c ≡ p
    back p = ring2 rational_ring p c (λ p c. search quotes depth 9) tt

-- 0 <= q - p from p <= q
pub difference_nonneg : {p q : ℚ} → p ≤ℚ q → of_int (pos 0) ≤ℚ q -ℚ p
difference_nonneg {p} {q} h = subst (λ z. z ≤ℚ q -ℚ p) (+ℚ-neg p) (+ℚ-mono_right p q (neg_ℚ p) h)

-- and back
pub from_difference : {p q : ℚ} → of_int (pos 0) ≤ℚ q -ℚ p → p ≤ℚ q
from_difference {p} {q} h = subst₂ (λ a b. a ≤ℚ b) (ring1 rational_ring p (λ p. search quotes depth 9) tt) (ring2 rational_ring p q (λ p q. search quotes depth 9) tt) (+ℚ-mono_right _ _ p h)

-- c a <= c b from a <= b, where c is at least 0
pub mul_mono : (c : ℚ) {a b : ℚ} → of_int (pos 0) ≤ℚ c → a ≤ℚ b → c *ℚ a ≤ℚ c *ℚ b
mul_mono c {a} {b} h k = from_difference (subst (λ z. of_int (pos 0) ≤ℚ z) (ring3 rational_ring a b c (λ a b c. search quotes depth 9) tt) (*ℚ-nonneg c (b -ℚ a) h (difference_nonneg k)))

-- p <= q from a <= b, taken c times
pub le_using : (c : ℚ) {a b p q : ℚ} → of_int (pos 0) ≤ℚ c → a ≤ℚ b → p +ℚ c *ℚ b ≤ℚ q +ℚ c *ℚ a → p ≤ℚ q
le_using c {a} {b} {p} {q} h k l = cancel_add (c *ℚ b) (≤ℚ-trans _ _ _ l (add_mono (≤ℚ-refl q) (mul_mono c h k)))

-- p <= q from a <= b, where q - p is b - a
pub rearrange : {a b p q : ℚ} → a ≤ℚ b → q +ℚ a ≡ p +ℚ b → p ≤ℚ q
rearrange {a} {b} {p} {q} h e = cancel_add b (subst (λ z. z ≤ℚ q +ℚ b) e (add_mono (≤ℚ-refl q) h))

-- ---- at least 0
pub nonneg_add : (p q : ℚ) → of_int (pos 0) ≤ℚ p → of_int (pos 0) ≤ℚ q → of_int (pos 0) ≤ℚ p +ℚ q
nonneg_add p q h k = subst (λ z. z ≤ℚ p +ℚ q) (+ℚ-zero _) (add_mono h k)

-- 0 <= n
pub nonneg_int : (n : ℕ) → of_int (pos 0) ≤ℚ of_int (pos n)
nonneg_int n = (of_int-≤ _ _).1 (omega (arith, ints))

-- 0 <= p^n
pub nonneg_pow : (p : ℚ) (n : ℕ) → of_int (pos 0) ≤ℚ p → of_int (pos 0) ≤ℚ pow rational_ring p n
nonneg_pow p zero h = nonneg_int 1
nonneg_pow p (suc n) h = *ℚ-nonneg p _ h (nonneg_pow p n h)

-- 0 <= a sum of such terms
pub nonneg_sum_below : (n : ℕ) (f : ℕ → ℚ) → ((k : ℕ) → of_int (pos 0) ≤ℚ f k) → of_int (pos 0) ≤ℚ sum_below rational_ring n f
nonneg_sum_below zero f h = ≤ℚ-refl _
nonneg_sum_below (suc n) f h = nonneg_add _ _ (nonneg_sum_below n f h) (h n)

-- sums of inequalities, term by term
pub sum_below_mono : (n : ℕ) (f g : ℕ → ℚ) → ((k : ℕ) → k < n → f k ≤ℚ g k) → sum_below rational_ring n f ≤ℚ sum_below rational_ring n g
sum_below_mono zero f g h = ≤ℚ-refl _
sum_below_mono (suc n) f g h = add_mono (sum_below_mono n f g (λ k l. h k (omega arith))) (h n (omega arith))

pub ruleset nonneg = (nonneg_add, *ℚ-nonneg, nonneg_int, nonneg_pow, nonneg_sum_below)

-- ---- less than
pub ≤-from_< : {p q : ℚ} → p <ℚ q → p ≤ℚ q
≤-from_< {p} {q} h = ≤ℚ-total q p (not_≤ℚ p q h)

-- the order of whole numbers
pub int-< : (a b : ℤ) → a <ℤ b → of_int a <ℚ of_int b
int-< a b h = <ℚ-from_not _ _ (λ k. let l = (of_int-≤ b a).0 k in omega (arith, ints))

-- what is greater is not equal
pub not_equal : {p q : ℚ} → p <ℚ q → ¬ (q ≡ p)
not_equal {p} {q} h e = not_≤ℚ p q h (le_equal e)

-- p (1/p) = 1, where p is above 0
pub inverse_right : (p : ℚ) → of_int (pos 0) <ℚ p → p *ℚ inverse p ≡ of_int (pos 1)
inverse_right p h = *ℚ-inverse p (not_equal h)

-- 0 <= -p, where p is at most 0
pub negative : {p : ℚ} → p ≤ℚ of_int (pos 0) → of_int (pos 0) ≤ℚ neg_ℚ p
negative {p} h = subst (λ z. of_int (pos 0) ≤ℚ z) (ring1 rational_ring p (λ p. search quotes depth 9) tt) (difference_nonneg h)

-- 0 <= p^2
pub square_nonneg : (p : ℚ) → of_int (pos 0) ≤ℚ p *ℚ p
square_nonneg p = ⊎_elim (λ h. *ℚ-nonneg p p h h)
    (λ h. let k = negative (≤-from_< h) in subst (λ z. of_int (pos 0) ≤ℚ z) (ring1 rational_ring p (λ p. search quotes depth 9) tt) (*ℚ-nonneg (neg_ℚ p) (neg_ℚ p) k k))
    (compare_ℚ (of_int (pos 0)) p)

-- a positive number's inverse is positive
pub inverse_positive : (p : ℚ) → of_int (pos 0) <ℚ p → of_int (pos 0) <ℚ inverse p
inverse_positive p h = <ℚ-from_not _ _ (λ k.
    -- p and -1/p are at least 0, so -1 = p (-1/p) is
    let m = *ℚ-nonneg p (neg_ℚ (inverse p)) (≤-from_< h) (negative k) in
    let e : p *ℚ neg_ℚ (inverse p) ≡ of_int (negsuc 0) = combine rational_ring (of_int (negsuc 0)) (inverse_right p h) (ring2 rational_ring p (inverse p) (λ p q. search quotes depth 9) tt) in
    let n : pos 0 ≤ℤ negsuc 0 = (of_int-≤ (pos 0) (negsuc 0)).0 (subst (λ z. of_int (pos 0) ≤ℚ z) e m) in
    absurd (omega (arith, ints)))

-- p q = 1 gives q = 1/p
pub inverse_unique : (p q : ℚ) → of_int (pos 0) <ℚ p → p *ℚ q ≡ of_int (pos 1) → q ≡ inverse p
inverse_unique p q h e =
    combine rational_ring (neg_ℚ q) (inverse_right p h)
    (combine rational_ring (inverse p) e (ring3 rational_ring p q (inverse p) (λ p q r. search quotes depth 12) tt))

-- 0 < p q
pub positive_mul : (p q : ℚ) → of_int (pos 0) <ℚ p → of_int (pos 0) <ℚ q → of_int (pos 0) <ℚ p *ℚ q
positive_mul p q h k = <ℚ-from_not _ _ (λ l. not_≤ℚ _ _ k (not_above l))
  where
    cancels : inverse p *ℚ neg_ℚ (p *ℚ q) ≡ neg_ℚ q
    cancels = combine rational_ring (neg_ℚ q) (inverse_right p h) (ring3 rational_ring p q (inverse p) (λ p q r. search quotes depth 12) tt)

    not_above : p *ℚ q ≤ℚ of_int (pos 0) → q ≤ℚ of_int (pos 0)
    not_above l = from_difference (subst (λ z. of_int (pos 0) ≤ℚ z) (cancels ∙ ring1 rational_ring q (λ q. search quotes depth 12) tt)
        (*ℚ-nonneg (inverse p) (neg_ℚ (p *ℚ q)) (≤-from_< (inverse_positive p h)) (negative l)))

-- 1/(p q) = (1/p) (1/q)
pub inverse-mul : (p q : ℚ) → of_int (pos 0) <ℚ p → of_int (pos 0) <ℚ q → inverse (p *ℚ q) ≡ inverse p *ℚ inverse q
inverse-mul p q h k = sym (inverse_unique (p *ℚ q) _ (positive_mul p q h k)
    (combine rational_ring (q *ℚ inverse q) (inverse_right p h)
    (combine rational_ring (of_int (pos 1)) (inverse_right q k) (ring4 rational_ring p q (inverse p) (inverse q) (λ p q r s. search quotes depth 12) tt))))

-- a factor that is positive cancels
pub cancel_mul : (c : ℚ) {p q : ℚ} → of_int (pos 0) <ℚ c → c *ℚ p ≤ℚ c *ℚ q → p ≤ℚ q
cancel_mul c {p} {q} h k = subst₂ (λ a b. a ≤ℚ b) (back p) (back q) (mul_mono (inverse c) (≤-from_< (inverse_positive c h)) k)
  where
    back : (p : ℚ) → inverse c *ℚ (c *ℚ p) ≡ p
    back p = combine rational_ring p (inverse_right c h) (ring3 rational_ring c (inverse c) p (λ c d p. search quotes depth 9) tt)

-- ---- the absolute value
pub absolute : ℚ → ℚ
absolute p = ⊎_elim (λ h. p) (λ h. neg_ℚ p) (compare_ℚ (of_int (pos 0)) p)

module _ (X : ℚ → Type 0) (p : ℚ) where
  -- by the two cases of |p|
  pub by_absolute : (of_int (pos 0) ≤ℚ p → X p) → (p ≤ℚ of_int (pos 0) → X (neg_ℚ p)) → X (absolute p)
  unfolding absolute
  by_absolute f g = case (compare_ℚ (of_int (pos 0)) p)
    where
      case : (c : (of_int (pos 0) ≤ℚ p) ⊎ (p <ℚ of_int (pos 0))) → X (⊎_elim (λ h. p) (λ h. neg_ℚ p) c)
      case (inl h) = f h
      case (inr h) = g (≤-from_< h)

-- 0 <= |p|
pub absolute_nonneg : (p : ℚ) → of_int (pos 0) ≤ℚ absolute p
absolute_nonneg p = by_absolute (λ z. of_int (pos 0) ≤ℚ z) p (λ h. h) negative

-- p <= |p|
pub le_absolute : (p : ℚ) → p ≤ℚ absolute p
le_absolute p = by_absolute (λ z. p ≤ℚ z) p (λ h. ≤ℚ-refl p) (λ h. ≤ℚ-trans _ _ _ h (negative h))

-- -p <= |p|
pub neg_le_absolute : (p : ℚ) → neg_ℚ p ≤ℚ absolute p
neg_le_absolute p = by_absolute (λ z. neg_ℚ p ≤ℚ z) p (λ h. ≤ℚ-trans _ _ _ (from_difference (subst (λ z. of_int (pos 0) ≤ℚ z) (ring1 rational_ring p (λ p. search quotes depth 9) tt) h)) h) (λ h. ≤ℚ-refl _)

-- |p| <= r from p <= r and -p <= r
pub absolute_le : (p r : ℚ) → p ≤ℚ r → neg_ℚ p ≤ℚ r → absolute p ≤ℚ r
absolute_le p r h k = by_absolute (λ z. z ≤ℚ r) p (λ l. h) (λ l. k)

-- p <= q since q is p and something that is at least 0
pub le_plus : (d : ℚ) {p q : ℚ} → of_int (pos 0) ≤ℚ d → q ≡ p +ℚ d → p ≤ℚ q
le_plus d {p} {q} h e = rw e (subst (λ z. z ≤ℚ p +ℚ d) (+ℚ-zero p) (add_mono (≤ℚ-refl p) h))

-- both signs at once
pub absolute_within : (p r : ℚ) → absolute p ≤ℚ r → (neg_ℚ r ≤ℚ p) × (p ≤ℚ r)
absolute_within p r h =
    (rearrange (≤ℚ-trans _ _ _ (neg_le_absolute p) h) (ring2 rational_ring p r (λ p r. search quotes depth 9) tt), ≤ℚ-trans _ _ _ (le_absolute p) h)

-- |p| = p, where p is at least 0
pub absolute_is : (p : ℚ) → of_int (pos 0) ≤ℚ p → absolute p ≡ p
absolute_is p h = ≤ℚ-antisym _ _ (absolute_le p p (≤ℚ-refl p) (≤ℚ-trans _ _ _ (rearrange h (ring1 rational_ring p (λ p. search quotes depth 9) tt)) h)) (le_absolute p)

-- |-p| = |p|
pub absolute_neg : (p : ℚ) → absolute (neg_ℚ p) ≡ absolute p
absolute_neg p = ≤ℚ-antisym _ _
    (absolute_le _ _ (neg_le_absolute p) (subst (λ z. z ≤ℚ absolute p) (ring1 rational_ring p (λ p. search quotes depth 9) tt) (le_absolute p)))
    (absolute_le _ _ (subst (λ z. z ≤ℚ absolute (neg_ℚ p)) (ring1 rational_ring p (λ p. search quotes depth 9) tt) (neg_le_absolute (neg_ℚ p))) (le_absolute (neg_ℚ p)))
