-- The order of the integers and its products. `≤ℤ` binds more tightly than `+ℤ` and `*ℤ` (infix 50): write parentheses round both sides.
use mathlib.Core.Path.{◌≡◌, refl, subst}
use Prim.Native.Nat.{ℕ, zero, suc, ◌*◌, ◌≤◌}
use native.Mathlib.Nat.{le_of_mul-le-mul_left, zero-lt-suc}
use native.Mathlib.Omega.{arith}
use lib.IntN.{ℤ, pos, negsuc, ◌+ℤ◌, ◌-ℤ◌, ◌*ℤ◌}
use lib.Signed.{◌<ℤ◌, ◌≤ℤ◌, le_z}
use mathlib.Core.Bool.{Bool, true, false}
use borrow.Author.Differences.{ints}
use Rattle.exact_math.proofs.Ring.{int_ring}
use Rattle.exact_math.proofs.RingTactic.{int_quotes, ring3}

pub ≤-refl : (a : ℤ) → a ≤ℤ a
≤-refl a = omega (arith, ints)

pub ≤-trans : {a b c : ℤ} → a ≤ℤ b → b ≤ℤ c → a ≤ℤ c
≤-trans h k = omega (arith, ints)

pub ≤-antisym : {a b : ℤ} → a ≤ℤ b → b ≤ℤ a → a ≡ b
≤-antisym h k = omega (arith, ints)

-- what is not at most b is at least b
pub ≤-total : (a b : ℤ) → ¬ (a ≤ℤ b) → b ≤ℤ a
≤-total a b n = case (le_z a b) refl
  where
    case : (t : Bool) → le_z a b ≡ t → b ≤ℤ a
    case true e = absurd (n (omega (arith, ints)))
    case false e = omega (arith, ints)

pub ≤-from_< : {a b : ℤ} → a <ℤ b → a ≤ℤ b
≤-from_< h = omega (arith, ints)

-- sums of inequalities
pub +-mono : {a b c d : ℤ} → a ≤ℤ b → c ≤ℤ d → (a +ℤ c) ≤ℤ (b +ℤ d)
+-mono h k = omega (arith, ints)

pub *-comm : (a b : ℤ) → a *ℤ b ≡ b *ℤ a
*-comm a b = omega (arith, ints)

-- 0 <= a b
pub *-nonneg : (a b : ℤ) → pos 0 ≤ℤ a → pos 0 ≤ℤ b → pos 0 ≤ℤ (a *ℤ b)
*-nonneg (pos a) (pos b) h k = omega (arith, ints)
*-nonneg (pos a) (negsuc b) h k = absurd (omega (arith, ints))
*-nonneg (negsuc a) b h k = absurd (omega (arith, ints))

-- 0 < a b
pub *-positive : (a b : ℤ) → pos 0 <ℤ a → pos 0 <ℤ b → pos 0 <ℤ (a *ℤ b)
*-positive (pos zero) b h k = absurd (omega (arith, ints))
*-positive (pos (suc a)) (pos zero) h k = absurd (omega (arith, ints))
*-positive (pos (suc a)) (pos (suc b)) h k = omega (arith, ints)
*-positive (pos (suc a)) (negsuc b) h k = absurd (omega (arith, ints))
*-positive (negsuc a) b h k = absurd (omega (arith, ints))

-- 0 <= a a
pub square_nonneg : (a : ℤ) → pos 0 ≤ℤ (a *ℤ a)
square_nonneg (pos n) = omega (arith, ints)
square_nonneg (negsuc n) = omega (arith, ints)

-- c a <= c b from a <= b, where c is at least 0
pub *-mono_left : (c a b : ℤ) → pos 0 ≤ℤ c → a ≤ℤ b → (c *ℤ a) ≤ℤ (c *ℤ b)
*-mono_left c a b h k =
    let d : pos 0 ≤ℤ (c *ℤ (b -ℤ a)) = *-nonneg c (b -ℤ a) h (omega (arith, ints)) in
    let e : c *ℤ (b -ℤ a) ≡ c *ℤ b -ℤ c *ℤ a = ring3 int_ring a b c (λ a b c. search int_quotes depth 9) tt in
    let d' : pos 0 ≤ℤ (c *ℤ b -ℤ c *ℤ a) = subst (λ z. pos 0 ≤ℤ z) e d in
    omega (arith, ints)

nat_cancel : (c a b : ℕ) → suc c * a ≤ suc c * b → a ≤ b
nat_cancel c a b h = le_of_mul-le-mul_left h (zero-lt-suc c)

-- a <= b from c a <= c b, where c is above 0
pub *-cancel_≤ : (c a b : ℤ) → pos 0 <ℤ c → (c *ℤ a) ≤ℤ (c *ℤ b) → a ≤ℤ b
*-cancel_≤ (pos zero) a b h k = absurd (omega (arith, ints))
*-cancel_≤ (negsuc c) a b h k = absurd (omega (arith, ints))
*-cancel_≤ (pos (suc c)) (pos a) (pos b) h k =
    let n : suc c * a ≤ suc c * b = omega (arith, ints) in
    let m = nat_cancel c a b n in
    omega (arith, ints)
*-cancel_≤ (pos (suc c)) (pos a) (negsuc b) h k = absurd (omega (arith, ints))
*-cancel_≤ (pos (suc c)) (negsuc a) (pos b) h k = omega (arith, ints)
*-cancel_≤ (pos (suc c)) (negsuc a) (negsuc b) h k =
    let n : suc c * suc b ≤ suc c * suc a = omega (arith, ints) in
    let m = nat_cancel c (suc b) (suc a) n in
    omega (arith, ints)

-- a = b from c a = c b, where c is above 0
pub *-cancel : (c a b : ℤ) → pos 0 <ℤ c → c *ℤ a ≡ c *ℤ b → a ≡ b
*-cancel c a b h e = ≤-antisym (*-cancel_≤ c a b h (omega (arith, ints))) (*-cancel_≤ c b a h (omega (arith, ints)))
