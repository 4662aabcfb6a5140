-- How large the ends of the kernel's powers and entries are.
use mathlib.Core.Path.{◌≡◌, sym, ap, subst, subst₂, ◌∙◌}
use Prim.Native.Nat.{ℕ, zero, suc, ◌+◌, ◌*◌, ◌^◌, ◌≤◌, ◌<◌}
use native.Mathlib.Nat.{lt_of_not-le, mul-le-mul_right, mul-le-mul}
use native.Mathlib.Omega.{arith}
use lib.IntN.{ℤ, pos, negsuc, neg_ℤ, ◌+ℤ◌, ◌-ℤ◌, ◌*ℤ◌}
use lib.Signed.{◌<ℤ◌, ◌≤ℤ◌}
use Rattle.std.proofs.lemmas.Int.{ints, clamps}
use Rattle.exact_math.specs.Contains.{Contains}
use Rattle.exact_math.specs.Ends.{Ends, BoxEnds, add_ends, sub_ends, neg_ends, scale_ends, scale_box, quot_ends, EndsWithin, BoxEndsWithin, EndsNarrow}
use Rattle.exact_math.specs.Gaussian.{Gaussian, norm_gaussian}
use Rattle.exact_math.specs.Ratio.{Ratio, ComplexRatio, ◌*ᶜ◌, reciprocal}
use Rattle.exact_math.specs.Rounding.{floor_div}
use Rattle.exact_math.specs.Sums.{pow_complex}
use Rattle.exact_math.specs.Within.{Within}
use Rattle.exact_math.proofs.Ring.{int_ring}
use Rattle.exact_math.proofs.RingTactic.{int_quotes, ring2, ring3, ring5}
use Rattle.exact_math.proofs.Integers as Z
use Rattle.exact_math.specs.Binomials.{choose}
use Rattle.exact_math.proofs.Enclosures.{floor_div_le}
use Rattle.exact_math.proofs.GaussianSizes.{norm_count-is}
use Rattle.exact_math.proofs.Integers.{square_nonneg}
use Rattle.complex_box.specs.Box.{GscaleFits}
use Rattle.kernel_table.specs.Kernel.{IsKernelDistance, kernel_power, kernel_entry, alternate_box}
use Rattle.kernel_table.proofs.Contained.{kernel_power_contains}
use Rattle.kernel_table.proofs.PowersOfTwo.{two_power, power_positive, power_add, choose_le}
use Rattle.exact_math.proofs.Widths.{floor_div_gt, at_most}
use Rattle.kernel_table.proofs.Widths.{norm_count≥4, widths, widths_le, kernel_power_narrow}

times_neg : (c d : ℤ) → c *ℤ neg_ℤ d ≡ neg_ℤ (c *ℤ d)
times_neg c d = ring2 int_ring c d (λ c d. search int_quotes depth 9) tt

-- ---- roots
pub count_root_le : (a b : ℕ) → a * a ≤ b * b → a ≤ b
count_root_le a b h =
    let l : a < suc b = lt_of_not-le (λ k. let m = mul-le-mul k k in absurd (omega arith)) in
    omega arith

root_le : (y d : ℤ) → pos 0 ≤ℤ d → (y *ℤ y) ≤ℤ (d *ℤ d) → (neg_ℤ d ≤ℤ y) × (y ≤ℤ d)
root_le (pos a) (pos b) p h = let l = count_root_le a b (omega (arith, ints, h)) in (omega (arith, ints), omega (arith, ints))
root_le (negsuc a) (pos b) p h = let l = count_root_le (suc a) b (omega (arith, ints, h)) in (omega (arith, ints), omega (arith, ints))
root_le y (negsuc b) p h = absurd (omega (arith, ints))

-- ---- 1/e^m is at most 2^-m in size
-- with x = (a + i b)/d, the square of (c x) is at most 1
pub record Shrunk (c : ℤ) (x : ComplexRatio) : Type 0 where
  pub positive : pos 0 <ℤ x.denominator
  pub square : (c *ℤ x.re *ℤ (c *ℤ x.re) +ℤ c *ℤ x.im *ℤ (c *ℤ x.im)) ≤ℤ (x.denominator *ℤ x.denominator)

shrunk-parts : {c : ℤ} {x : ComplexRatio} → Shrunk c x → ((neg_ℤ x.denominator ≤ℤ (c *ℤ x.re)) × ((c *ℤ x.re) ≤ℤ x.denominator)) × ((neg_ℤ x.denominator ≤ℤ (c *ℤ x.im)) × ((c *ℤ x.im) ≤ℤ x.denominator))
shrunk-parts {c} {x} h =
    let r = square_nonneg (c *ℤ x.re) in
    let i = square_nonneg (c *ℤ x.im) in
    let d>0 : pos 0 ≤ℤ x.denominator = omega (arith, ints, h.positive) in
    (root_le _ _ d>0 (omega (arith, ints, h.square, i)), root_le _ _ d>0 (omega (arith, ints, h.square, r)))

step_le : (n s d : ℤ) → pos 4 ≤ℤ n → s ≤ℤ (d *ℤ d) → (pos 4 *ℤ n *ℤ s) ≤ℤ (n *ℤ d *ℤ (n *ℤ d))
step_le n s d n≥4 h =
    let a = Z.*-mono_left (pos 4 *ℤ n) s (d *ℤ d) (omega (arith, ints, n≥4)) h in
    let b = Z.*-mono_left (d *ℤ d) (pos 4 *ℤ n) (n *ℤ n) (square_nonneg d) (subst (λ z. z ≤ℤ (n *ℤ n)) (Z.*-comm n (pos 4)) (Z.*-mono_left n (pos 4) n (omega (arith, ints, n≥4)) n≥4)) in
    subst (λ z. (pos 4 *ℤ n *ℤ s) ≤ℤ z) (ring2 int_ring n d (λ n d. search int_quotes depth 12) tt)
    (Z.≤-trans a (subst (λ z. z ≤ℤ (d *ℤ d *ℤ (n *ℤ n))) (Z.*-comm (d *ℤ d) (pos 4 *ℤ n)) b))

-- dividing by e shrinks by 2 at least
shrunk-step : (e : Gaussian) → pos 4 ≤ℤ norm_gaussian e → {c : ℤ} {x : ComplexRatio} → Shrunk c x → Shrunk (pos 2 *ℤ c) (reciprocal e *ᶜ x)
shrunk-step e n≥4 {c} {x} h = record {
  positive = Z.*-positive _ _ (omega (arith, ints, n≥4)) h.positive;
  square = subst (λ z. z ≤ℤ (norm_gaussian e *ℤ x.denominator *ℤ (norm_gaussian e *ℤ x.denominator))) (product_is c e.re e.im x.re x.im)
      (step_le (norm_gaussian e) _ x.denominator n≥4 h.square);
}
  where
    product_is : (c p q a b : ℤ) → pos 4 *ℤ (p *ℤ p +ℤ q *ℤ q) *ℤ (c *ℤ a *ℤ (c *ℤ a) +ℤ c *ℤ b *ℤ (c *ℤ b))
        ≡ pos 2 *ℤ c *ℤ (p *ℤ a -ℤ neg_ℤ q *ℤ b) *ℤ (pos 2 *ℤ c *ℤ (p *ℤ a -ℤ neg_ℤ q *ℤ b)) +ℤ pos 2 *ℤ c *ℤ (p *ℤ b +ℤ neg_ℤ q *ℤ a) *ℤ (pos 2 *ℤ c *ℤ (p *ℤ b +ℤ neg_ℤ q *ℤ a))
    product_is c p q a b = ring5 int_ring c p q a b (λ c p q a b. search int_quotes depth 20) tt

pub shrunk : (e : Gaussian) → pos 4 ≤ℤ norm_gaussian e → (m : ℕ) → Shrunk (pos (2 ^ m)) (pow_complex (reciprocal e) m)
shrunk e n≥4 zero = record { positive = omega (arith, ints); square = omega (arith, ints) }
shrunk e n≥4 (suc m) = subst (λ c. Shrunk c (reciprocal e *ᶜ pow_complex (reciprocal e) m)) (ap pos (sym (two_power m))) (shrunk-step e n≥4 (shrunk e n≥4 m))

-- ---- the powers
-- ends that contain a number of at most n units, at most w apart, are at most n + w in size
within-near : {u lo hi : ℤ} {x : Ratio} (n w : ℕ) → Contains u lo hi x → EndsNarrow w (record { lo = lo; hi = hi })
    → (neg_ℤ (pos n *ℤ x.denominator) ≤ℤ (u *ℤ x.numerator)) × ((u *ℤ x.numerator) ≤ℤ (pos n *ℤ x.denominator)) → EndsWithin (n + w) (record { lo = lo; hi = hi })
within-near {u} {lo} {hi} {x} n w h narrow small =
    let up : lo ≤ℤ pos n = Z.*-cancel_≤ x.denominator lo (pos n) h.fraction (subst₂ ◌≤ℤ◌ (Z.*-comm lo x.denominator) (Z.*-comm (pos n) x.denominator) (Z.≤-trans h.above small.1)) in
    let down : neg_ℤ (pos n) ≤ℤ hi = Z.*-cancel_≤ x.denominator (neg_ℤ (pos n)) hi h.fraction
    (subst₂ ◌≤ℤ◌ (sym (times_neg x.denominator (pos n) ∙ ap neg_ℤ (Z.*-comm x.denominator (pos n)))) (Z.*-comm hi x.denominator) (Z.≤-trans small.0 h.below)) in
    let o = narrow.ordered in
    let a = narrow.width in
    record {
      lo = record { above = omega (arith, ints, o, a, up, down); below = omega (arith, ints, o, a, up, down) };
      hi = record { above = omega (arith, ints, o, a, up, down); below = omega (arith, ints, o, a, up, down) };
    }

within-more : {n m : ℕ} {i : Ends} → n ≤ m → EndsWithin n i → EndsWithin m i
within-more {n} {m} {i} l k = record {
  lo = record { above = omega (arith, ints, l, k.lo.above); below = omega (arith, ints, l, k.lo.below) };
  hi = record { above = omega (arith, ints, l, k.hi.above); below = omega (arith, ints, l, k.hi.below) };
}

module _ (e : Gaussian) (h : IsKernelDistance e) where
  pub norm≥4 : pos 4 ≤ℤ norm_gaussian e
  norm≥4 = let k = norm_count≥4 e h in subst (λ n. pos 4 ≤ℤ n) (norm_count-is e) (omega (arith, ints, k))

  -- 2^(60 + n)/e^(n + 1) is at most 2^59 in size
  units-le : (n : ℕ) (d y : ℤ) → (neg_ℤ d ≤ℤ (pos (2 ^ suc n) *ℤ y)) × ((pos (2 ^ suc n) *ℤ y) ≤ℤ d) → (neg_ℤ (pos (2 ^ 59) *ℤ d) ≤ℤ (pos (2 ^ (60 + n)) *ℤ y)) × ((pos (2 ^ (60 + n)) *ℤ y) ≤ℤ (pos (2 ^ 59) *ℤ d))
  units-le n d y k =
      let up = Z.*-mono_left (pos (2 ^ 59)) (pos (2 ^ suc n) *ℤ y) d (omega (arith, ints)) k.1 in
      let down = Z.*-mono_left (pos (2 ^ 59)) (neg_ℤ d) (pos (2 ^ suc n) *ℤ y) (omega (arith, ints)) k.0 in
      (subst₂ ◌≤ℤ◌ (times_neg (pos (2 ^ 59)) d) again down, subst (λ z. z ≤ℤ (pos (2 ^ 59) *ℤ d)) again up)
    where
      regroup : (a b y : ℤ) → a *ℤ (b *ℤ y) ≡ a *ℤ b *ℤ y
      regroup a b y = ring3 int_ring a b y (λ a b y. search int_quotes depth 9) tt

      again : pos (2 ^ 59) *ℤ (pos (2 ^ suc n) *ℤ y) ≡ pos (2 ^ (60 + n)) *ℤ y
      again =
          regroup (pos (2 ^ 59)) (pos (2 ^ suc n)) y
          ∙ ap (λ c. pos c *ℤ y) (sym (power_add 59 (suc n)) ∙ ap (λ m. 2 ^ m) {x = 59 + suc n} {y = 60 + n} (omega arith))

  pub kernel_power_within : (n : ℕ) → n ≤ 62 → BoxEndsWithin (2 ^ 59 + 2 ^ 20) (kernel_power e n)
  kernel_power_within n small =
      let k = kernel_power_contains e (omega (arith, ints, norm≥4)) n in
      let w = kernel_power_narrow e h n in
      let s = shrunk-parts (shrunk e norm≥4 (suc n)) in
      let room : 2 ^ 59 + widths n ≤ 2 ^ 59 + 2 ^ 20 = let l = widths_le n small in omega (arith, l) in
      record { re = within-more room (within-near (2 ^ 59) (widths n) k.re w.re (units-le n _ _ s.0)); im = within-more room (within-near (2 ^ 59) (widths n) k.im w.im (units-le n _ _ s.1)) }

-- so they fit 61 bits and a sign
pub power-fits : (e : Gaussian) → IsKernelDistance e → (n : ℕ) → n ≤ 62 → BoxEndsWithin (2 ^ 60) (kernel_power e n)
power-fits e h n small = let w = kernel_power_within e h n small in record { re = within-more (omega arith) w.re; im = within-more (omega arith) w.im }

-- ---- the entries
within-scale : (n c : ℕ) {i : Ends} → EndsWithin n i → EndsWithin (c * n) (scale_ends i (pos c))
within-scale n c {i} h =
    let c≥0 : pos 0 ≤ℤ pos c = omega (arith, ints) in
    let e : pos c *ℤ neg_ℤ (pos n) ≡ neg_ℤ (pos (c * n)) = times_neg (pos c) (pos n) in
    let a = Z.*-mono_left (pos c) (neg_ℤ (pos n)) i.lo c≥0 h.lo.above in
    let b = Z.*-mono_left (pos c) i.lo (pos n) c≥0 h.lo.below in
    let a' = Z.*-mono_left (pos c) (neg_ℤ (pos n)) i.hi c≥0 h.hi.above in
    let b' = Z.*-mono_left (pos c) i.hi (pos n) c≥0 h.hi.below in
    record {
      lo = record { above = omega (arith, ints, clamps, e, a, a'); below = omega (arith, ints, clamps, e, b, b') };
      hi = record { above = omega (arith, ints, clamps, e, a, a'); below = omega (arith, ints, clamps, e, b, b') };
    }

-- the same for a factor of either sign
pub within-factor : (n c : ℕ) (k : ℤ) {i : Ends} → Within c k → EndsWithin n i → EndsWithin (c * n) (scale_ends i k)
within-factor n c (pos k) {i} small h = let l : k ≤ c = omega (arith, ints, small.below) in within-more (mul-le-mul_right n l) (within-scale n k h)
within-factor n c (negsuc k) {i} small h =
    let s : EndsWithin (suc k * n) (scale_ends i (pos (suc k))) = within-scale n (suc k) h in
    let l = turned i.lo in
    let m = turned i.hi in
    let o : suc k ≤ c = omega (arith, ints, small.above) in
    within-more (mul-le-mul_right n o) (record {
      lo = record { above = omega (arith, ints, clamps, l, m, s.hi.below); below = omega (arith, ints, clamps, l, m, s.lo.above) };
      hi = record { above = omega (arith, ints, clamps, l, m, s.hi.below); below = omega (arith, ints, clamps, l, m, s.lo.above) };
    })
  where
    turned : (a : ℤ) → a *ℤ negsuc k ≡ neg_ℤ (a *ℤ pos (suc k))
    turned a = times_neg a (pos (suc k))

-- the product of a power with twice a distance fits
pub gscale-fits : {b : BoxEnds} {g : Gaussian} → BoxEndsWithin (2 ^ 60) b → Within 6 g.re → Within 6 g.im → GscaleFits b g
gscale-fits {b} {g} w x y =
    let p = within-factor (2 ^ 60) 6 g.re x w.re in
    let q = within-factor (2 ^ 60) 6 g.im y w.im in
    let r = within-factor (2 ^ 60) 6 g.im y w.re in
    let s = within-factor (2 ^ 60) 6 g.re x w.im in
    record {
      re_re = within-more (omega arith) p;
      im_im = within-more (omega arith) q;
      im_re = within-more (omega arith) r;
      re_im = within-more (omega arith) s;
      whole = record { re = within-sub p q; im = within-add r s };
    }
  where
    within-sub : {i j : Ends} → EndsWithin (6 * 2 ^ 60) i → EndsWithin (6 * 2 ^ 60) j → EndsWithin (2 ^ 126) (sub_ends i j)
    within-sub {i} {j} h k = record {
      lo = record { above = omega (arith, ints, h.lo.above, k.hi.below); below = omega (arith, ints, h.lo.below, k.hi.above) };
      hi = record { above = omega (arith, ints, h.hi.above, k.lo.below); below = omega (arith, ints, h.hi.below, k.lo.above) };
    }

    within-add : {i j : Ends} → EndsWithin (6 * 2 ^ 60) i → EndsWithin (6 * 2 ^ 60) j → EndsWithin (2 ^ 126) (add_ends i j)
    within-add {i} {j} h k = record {
      lo = record { above = omega (arith, ints, h.lo.above, k.lo.above); below = omega (arith, ints, h.lo.below, k.lo.below) };
      hi = record { above = omega (arith, ints, h.hi.above, k.hi.above); below = omega (arith, ints, h.hi.below, k.hi.below) };
    }

-- the product of a power with a binomial coefficient fits
pub scale-fits : {b : BoxEnds} {k : ℤ} → BoxEndsWithin (2 ^ 60) b → pos 0 ≤ℤ k → k ≤ℤ pos (2 ^ 62) → BoxEndsWithin (2 ^ 126) (scale_box b k)
scale-fits {b} {k} w h l =
    let small : Within (2 ^ 62) k = record { above = omega (arith, ints, h); below = l } in
    record { re = within-more (omega arith) (within-factor (2 ^ 60) (2 ^ 62) k small w.re); im = within-more (omega arith) (within-factor (2 ^ 60) (2 ^ 62) k small w.im) }

floor-within : (n m : ℕ) (a : ℤ) → 0 < m → Within (m * n) a → Within n (floor_div a (pos m))
floor-within n m a m>0 h =
    let f = floor_div a (pos m) in
    let g = floor_div_gt a m m>0 in
    let l = floor_div_le a (pos m) (omega (arith, ints)) in
    let e : pos m *ℤ neg_ℤ f ≡ neg_ℤ (pos m *ℤ f) = times_neg (pos m) f in
    let low : neg_ℤ f ≤ℤ pos n = at_most m n (neg_ℤ f) (omega (arith, ints, e, g, h.above)) in
    let high : f ≤ℤ pos n = at_most m n f (omega (arith, ints, l, h.below)) in
    record { above = omega (arith, ints, low); below = high }

within-quot : (n m : ℕ) {i : Ends} → 0 < m → EndsWithin (m * n) i → EndsWithin n (quot_ends i (pos m))
within-quot n m {i} m>0 h =
    let f = floor-within n m (neg_ℤ i.hi) m>0 (record { above = omega (arith, ints, h.hi.below); below = omega (arith, ints, h.hi.above) }) in
    record { lo = floor-within n m i.lo m>0 h.lo; hi = record { above = omega (arith, ints, f.below); below = omega (arith, ints, f.above) } }

within-alternate : (l : ℕ) {n : ℕ} {b : BoxEnds} → BoxEndsWithin n b → BoxEndsWithin n (alternate_box l b)
within-alternate zero h = h
within-alternate (suc l) {n} h = let k = within-alternate l h in record { re = turned k.re; im = turned k.im }
  where
    turned : {i : Ends} → EndsWithin n i → EndsWithin n (neg_ends i)
    turned {i} k = record {
      lo = record { above = omega (arith, ints, k.hi.below); below = omega (arith, ints, k.hi.above) };
      hi = record { above = omega (arith, ints, k.lo.below); below = omega (arith, ints, k.lo.above) };
    }

-- each end of an entry is at most 2^39 + 1 in size
pub kernel_entry_within : (e : Gaussian) → IsKernelDistance e → (k l : ℕ) → k + l ≤ 62 → BoxEndsWithin (2 ^ 39 + 1) (kernel_entry e k l)
unfolding kernel_entry
kernel_entry_within e h k l small =
    let w = kernel_power_within e h (k + l) small in
    within-alternate l (record { re = part w.re; im = part w.im })
  where
    room : choose (k + l) k * (2 ^ 59 + 2 ^ 20) ≤ 2 ^ (k + l + 20) * (2 ^ 39 + 1)
    room =
        let c : choose (k + l) k * (2 ^ 59 + 2 ^ 20) ≤ 2 ^ (k + l) * (2 ^ 59 + 2 ^ 20) = mul-le-mul_right (2 ^ 59 + 2 ^ 20) (choose_le (k + l) k) in
        let p = power_add (k + l) 20 in
        omega arith

    part : {i : Ends} → EndsWithin (2 ^ 59 + 2 ^ 20) i → EndsWithin (2 ^ 39 + 1) (quot_ends (scale_ends i (pos (choose (k + l) k))) (pos (2 ^ (k + l + 20))))
    part {i} w = within-quot (2 ^ 39 + 1) (2 ^ (k + l + 20)) (power_positive (k + l + 20)) (within-more room (within-scale (2 ^ 59 + 2 ^ 20) (choose (k + l) k) w))
