-- What counts that enclose a box contain.
use Rattle.std.proofs.Common.{◌≡◌, ◌^◌, ℤ, pos, ◌*ℤ◌, ◌≤ℤ◌, ◌<ℤ◌, arith}
use borrow.Author.Differences.{ints}
use Rattle.exact_math.proofs.Ring.{int_ring}
use Rattle.exact_math.proofs.RingTactic.{int_quotes, ring3}
use Rattle.exact_math.proofs.Integers.{*-mono_left, *-cancel_≤, ≤-from_<}
use Rattle.exact_math.specs.Contains.{Contains}
use Rattle.exact_math.specs.Ends.{Ends, BoxEnds, BoxEndsContain}
use Rattle.exact_math.specs.Ratio.{Ratio, ComplexRatio, re_part, im_part}
use Rattle.soundness.specs.Counts.{AreAround, EncloseBox, CountsHold}

-- products of three, with the first factor in the second place, or in the third
swapped : (a b c : ℤ) → a *ℤ (b *ℤ c) ≡ b *ℤ (a *ℤ c)
swapped a b c = ring3 int_ring a b c (λ a b c. search int_quotes depth 9) tt

turned : (a b c : ℤ) → a *ℤ (b *ℤ c) ≡ b *ℤ (c *ℤ a)
turned a b c = ring3 int_ring a b c (λ a b c. search int_quotes depth 9) tt

-- m/d is at least n/u, and f at most k n/u
pub below_any : (u k n d m f : ℤ) → pos 0 <ℤ u → pos 0 ≤ℤ k → pos 0 <ℤ d → (u *ℤ f) ≤ℤ (k *ℤ n) → (n *ℤ d) ≤ℤ (u *ℤ m) → (f *ℤ d) ≤ℤ (k *ℤ m)
below_any u k n d m f hu hk hd low h =
    let a : (d *ℤ (u *ℤ f)) ≤ℤ (d *ℤ (k *ℤ n)) = *-mono_left d (u *ℤ f) (k *ℤ n) (≤-from_< hd) low in
    let b : (k *ℤ (n *ℤ d)) ≤ℤ (k *ℤ (u *ℤ m)) = *-mono_left k (n *ℤ d) (u *ℤ m) hk h in
    let c : (u *ℤ (f *ℤ d)) ≤ℤ (u *ℤ (k *ℤ m)) = omega (arith, ints, a, b, turned d u f, turned d k n, swapped k u m) in
    *-cancel_≤ u (f *ℤ d) (k *ℤ m) hu c

-- m/d is at most n/u, and f at least k n/u
pub above_any : (u k n d m f : ℤ) → pos 0 <ℤ u → pos 0 ≤ℤ k → pos 0 <ℤ d → (k *ℤ n) ≤ℤ (u *ℤ f) → (u *ℤ m) ≤ℤ (n *ℤ d) → (k *ℤ m) ≤ℤ (f *ℤ d)
above_any u k n d m f hu hk hd high h =
    let a : (d *ℤ (k *ℤ n)) ≤ℤ (d *ℤ (u *ℤ f)) = *-mono_left d (k *ℤ n) (u *ℤ f) (≤-from_< hd) high in
    let b : (k *ℤ (u *ℤ m)) ≤ℤ (k *ℤ (n *ℤ d)) = *-mono_left k (u *ℤ m) (n *ℤ d) hk h in
    let c : (u *ℤ (k *ℤ m)) ≤ℤ (u *ℤ (f *ℤ d)) = omega (arith, ints, a, b, turned d u f, turned d k n, swapped k u m) in
    *-cancel_≤ u (k *ℤ m) (f *ℤ d) hu c

-- of the ends of one part
around-contain : (ends counts : Ends) (x : Ratio) → AreAround ends counts → Contains (pos (2 ^ 40)) ends.lo ends.hi x → Contains (pos (10 ^ 12)) counts.lo counts.hi x
around-contain ends counts x a h = record {
  fraction = h.fraction;
  above = below_any (pos (2 ^ 40)) (pos (10 ^ 12)) ends.lo x.denominator x.numerator counts.lo (omega (arith, ints)) (omega (arith, ints)) h.fraction a.lower h.above;
  below = above_any (pos (2 ^ 40)) (pos (10 ^ 12)) ends.hi x.denominator x.numerator counts.hi (omega (arith, ints)) (omega (arith, ints)) h.fraction a.upper h.below;
}

-- of a box
pub counts-contain : (box : BoxEnds) (re im : Ends) (z : ComplexRatio) → EncloseBox box re im → BoxEndsContain (pos (2 ^ 40)) box z → CountsHold re im z
counts-contain box re im z a h = record { re = around-contain box.re re (re_part z) a.re h.re; im = around-contain box.im im (im_part z) a.im h.im }
