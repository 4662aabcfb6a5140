-- Rounded quotients are the greatest and the least whole numbers that they are said to be.
use lib.Signed.{le_z}
use Rattle.std.proofs.Common.{◌≡◌, refl, Bool, true, false, ℕ, ◌<◌, arith, ℤ, pos, negsuc, neg_ℤ, ◌+ℤ◌, ◌*ℤ◌, ◌≤ℤ◌, ◌<ℤ◌}
use Rattle.std.proofs.lemmas.Int.{ints}
use Rattle.exact_math.specs.Rounding.{floor_div, FloorIsGreatest, CeilIsLeast}
use Rattle.exact_math.proofs.Ring.{int_ring}
use Rattle.exact_math.proofs.RingTactic.{int_quotes, ring2}
use Rattle.exact_math.proofs.Integers.{*-comm, *-mono_left}
use Rattle.exact_math.proofs.Enclosures.{floor_div_le}

-- a number is less than one divisor above its quotient that rounds down
floor_near_at : (a : ℤ) (k : ℕ) → 0 < k → a <ℤ (pos k *ℤ floor_div a (pos k) +ℤ pos k)
floor_near_at (pos a) k h = omega (arith, ints)
floor_near_at (negsuc a) k h = omega (arith, ints)

pub floor_near : (a n : ℤ) → pos 1 ≤ℤ n → a <ℤ (n *ℤ floor_div a n +ℤ n)
floor_near a (pos k) h = floor_near_at a k (omega (arith, ints))
floor_near a (negsuc k) h = absurd (omega (arith, ints))

-- m n <= z < n f + n puts m up to f
up_to : (m n z f : ℤ) → pos 1 ≤ℤ n → (m *ℤ n) ≤ℤ z → z <ℤ (n *ℤ f +ℤ n) → m ≤ℤ f
up_to m n z f h k l =
    let e : n *ℤ (f +ℤ pos 1) ≡ n *ℤ f +ℤ n = ring2 int_ring n f (λ n f. search int_quotes depth 9) tt in
    let c = *-comm m n in
    not_less m f (λ less. let d = *-mono_left n (f +ℤ pos 1) m (omega (arith, ints)) (omega (arith, ints)) in absurd (omega (arith, ints)))
  where
    not_less : (a b : ℤ) → (b <ℤ a → ⊥) → a ≤ℤ b
    not_less a b h = case (le_z a b) refl
      where
        case : (t : Bool) → le_z a b ≡ t → a ≤ℤ b
        case true e = omega (arith, ints)
        case false e = absurd (h (omega (arith, ints)))

pub floor_is_greatest : FloorIsGreatest
floor_is_greatest m n z h = (
  (λ k. up_to m n z (floor_div z n) h k (floor_near z n h)),
  (λ k. let d = floor_div_le z n h in let e = *-mono_left n m (floor_div z n) (omega (arith, ints)) k in let c = *-comm m n in omega (arith, ints)),
)

pub ceil_is_least : CeilIsLeast
ceil_is_least m n z h =
    let down = floor_is_greatest (neg_ℤ m) n (neg_ℤ z) h in
    let e : neg_ℤ m *ℤ n ≡ neg_ℤ (m *ℤ n) = ring2 int_ring m n (λ m n. search int_quotes depth 9) tt in
    ((λ k. let d = down.0 (omega (arith, ints)) in omega (arith, ints)), (λ k. let d = down.1 (omega (arith, ints)) in omega (arith, ints)))
