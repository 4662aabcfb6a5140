-- How large the contribution of a row to that of a cell 2 or 3 sides away is. The parts of an entry of the kernel are together at most
-- 17/12 of C(k + l, k)/2^(k + l + 1), since 17/12 is more than the root of 2, and rounding; the sum of these over k is at most 1.
use Rattle.std.proofs.Common.{◌≡◌, refl, sym, ap, ap₂, ◌∙◌, subst, subst₂, ℕ, zero, suc, ◌+◌, ◌*◌, ◌^◌, ◌≤◌, ◌<◌, arith, ℤ, pos, negsuc, neg_ℤ, ◌+ℤ◌, ◌-ℤ◌, ◌*ℤ◌, ◌≤ℤ◌, ◌<ℤ◌}
use native.Mathlib.Nat.{lt_of_not-le}
use Rattle.std.proofs.Math.Nat.{mul-le-mul_left, mul-le-mul_right}
use Rattle.std.proofs.lemmas.Int.{ints, unsigned_abs-mul}
use Rattle.std.specs.Prelude.{unsigned_abs}
use Rattle.exact_math.specs.Binomials.{choose}
use Rattle.exact_math.specs.Contains.{Contains}
use Rattle.exact_math.specs.Ends.{Ends, BoxEnds, EndsWithin, BoxEndsWithin, EndsNarrow, times_box, times_ends}
use Rattle.exact_math.specs.Gaussian.{Gaussian}
use Rattle.exact_math.specs.Ratio.{Ratio, ComplexRatio, ◌*ᶜ◌, reciprocal}
use Rattle.exact_math.specs.Sums.{pow_complex, natural_complex}
use Rattle.exact_math.proofs.Ring.{int_ring}
use Rattle.exact_math.proofs.RingTactic.{int_quotes, ring2, ring3}
use Rattle.exact_math.proofs.Integers as Z
use Rattle.fixed_interval.proofs.Sizes.{add_within, sub_within, times_within}
use Rattle.complex_box.proofs.Sizes.{box_wider, add_box_within, zero_within}
use Rattle.kernel_table.specs.Kernel.{IsKernelDistance, kernel_entry, kernel_fraction, alternate_complex}
use Rattle.kernel_table.proofs.Entries.{kernel_entries}
use Rattle.kernel_table.proofs.Sizes.{Shrunk, shrunk, norm≥4, count_root_le}
use Rattle.exact_math.proofs.GaussianSizes.{square_abs}
use Rattle.exact_math.proofs.WholeSizes.{within-size}
use Rattle.row_recursions.specs.Rows.{sum_boxes, converted}
use Rattle.row_recursions.specs.Sizes.{RowWithin, ConvertedSizes}
use Rattle.row_recursions.proofs.KernelCounts.{column_count, column_count-next, column_count-bounded}
use Rattle.row_recursions.proofs.RowSizes.{box_quot_within, power_positive, two_products}

-- ---- the exact kernel
sum_root : (x y d : ℕ) → x * x + y * y ≤ d * d → 12 * (x + y) ≤ 17 * d
sum_root x y d h = let t = two_products x y in count_root_le (12 * (x + y)) (17 * d) (omega (arith, h, t))

scaled_square : (n : ℕ) (a : ℤ) → pos n *ℤ a *ℤ (pos n *ℤ a) ≡ pos (n * unsigned_abs a * (n * unsigned_abs a))
scaled_square n a = sym (square_abs (pos n *ℤ a)) ∙ ap (λ m. pos (m * m)) (unsigned_abs-mul (pos n) a)

positive_is : (d : ℤ) → pos 0 <ℤ d → d ≡ pos (unsigned_abs d)
positive_is (pos n) h = refl
positive_is (negsuc n) h = absurd (omega (arith, ints))

shrunk_sum : (n : ℕ) (x : ComplexRatio) → Shrunk (pos n) x → 12 * (n * unsigned_abs x.re + n * unsigned_abs x.im) ≤ 17 * unsigned_abs x.denominator
shrunk_sum n x h = sum_root (n * unsigned_abs x.re) (n * unsigned_abs x.im) (unsigned_abs x.denominator) (whole
    (subst₂ ◌≤ℤ◌ (ap₂ ◌+ℤ◌ (scaled_square n x.re) (scaled_square n x.im)) (ap₂ ◌*ℤ◌ (positive_is x.denominator h.positive) (positive_is x.denominator h.positive)) h.square))
  where
    whole : {a b : ℕ} → pos a ≤ℤ pos b → a ≤ b
    whole h = omega (arith, ints, h)

-- ---- an entry
-- the lower ends, and what the others may have more
abbrev pub parts_size : BoxEnds → ℕ
parts_size b = unsigned_abs b.re.lo + 2 + (unsigned_abs b.im.lo + 2)

pub narrow_within : (w : ℕ) (i : Ends) → EndsNarrow w i → EndsWithin (unsigned_abs i.lo + w) i
narrow_within w i h =
    let l = within-size i.lo in
    let a = l.above in
    let b = l.below in
    let o = h.ordered in
    let n = h.width in
    record {
      lo = record { above = omega (arith, ints); below = omega (arith, ints) };
      hi = record { above = omega (arith, ints); below = omega (arith, ints) };
    }

-- ends at most w apart that contain t/d in size
end_size : (w : ℕ) (lo d t : ℤ) → pos 0 ≤ℤ d → (lo *ℤ d) ≤ℤ t → neg_ℤ t ≤ℤ (lo *ℤ d +ℤ pos w *ℤ d) → (pos (unsigned_abs lo) *ℤ d) ≤ℤ (t +ℤ pos w *ℤ d)
end_size w (pos n) d t p a b = let q = Z.*-nonneg (pos w) d (omega (arith, ints)) p in omega (arith, ints, p, a, b, q)
end_size w (negsuc n) d t p a b = let e = turned (pos (suc n)) d in omega (arith, ints, p, a, b, e)
  where
    turned : (x d : ℤ) → neg_ℤ x *ℤ d ≡ neg_ℤ (x *ℤ d)
    turned x d = ring2 int_ring x d (λ x d. search int_quotes depth 9) tt

pub lower_size : (w : ℕ) {u lo hi : ℤ} {x : Ratio} (t : ℤ) → Contains u lo hi x → EndsNarrow w (record { lo = lo; hi = hi }) → neg_ℤ t ≤ℤ (u *ℤ x.numerator) → (u *ℤ x.numerator) ≤ℤ t
    → (pos (unsigned_abs lo) *ℤ x.denominator) ≤ℤ (t +ℤ pos w *ℤ x.denominator)
lower_size w {u} {lo} {hi} {x} t h narrow low high =
    let d : pos 0 ≤ℤ x.denominator = omega (arith, ints, h.fraction) in
    let m = Z.*-mono_left x.denominator hi (lo +ℤ pos w) d (omega (arith, ints, narrow.width)) in
    let e = Z.*-comm x.denominator hi in
    let f = spread x.denominator lo (pos w) in
    end_size w lo x.denominator t d (omega (arith, ints, h.above, high)) (omega (arith, ints, h.below, low, m, e, f))
  where
    spread : (d a w : ℤ) → d *ℤ (a +ℤ w) ≡ a *ℤ d +ℤ w *ℤ d
    spread d a w = ring3 int_ring d a w (λ d a w. search int_quotes depth 12) tt

neg_size : (a : ℤ) → unsigned_abs (neg_ℤ a) ≡ unsigned_abs a
neg_size (pos zero) = refl
neg_size (pos (suc n)) = refl
neg_size (negsuc n) = refl

record SameSizes (x y : ComplexRatio) : Type 0 where
  re : unsigned_abs x.re ≡ unsigned_abs y.re
  im : unsigned_abs x.im ≡ unsigned_abs y.im
  denominator : x.denominator ≡ y.denominator

alternate_sizes : (l : ℕ) (x : ComplexRatio) → SameSizes (alternate_complex l x) x
alternate_sizes zero x = record { re = refl; im = refl; denominator = refl }
alternate_sizes (suc l) x =
    let h = alternate_sizes l x in
    record { re = neg_size _ ∙ h.re; im = neg_size _ ∙ h.im; denominator = h.denominator }

counted_sizes : (n : ℕ) (x : ComplexRatio) → SameSizes (natural_complex n *ᶜ x) (record { re = pos n *ℤ x.re; im = pos n *ℤ x.im; denominator = x.denominator })
counted_sizes n x = record { re = ap unsigned_abs (less (pos n *ℤ x.re) x.im); im = ap unsigned_abs (more (pos n *ℤ x.im) x.re); denominator = whole x.denominator }
  where
    less : (a b : ℤ) → a -ℤ pos 0 *ℤ b ≡ a
    less a b = omega (arith, ints)

    more : (a b : ℤ) → a +ℤ pos 0 *ℤ b ≡ a
    more a b = omega (arith, ints)

    whole : (d : ℤ) → pos 1 *ℤ d ≡ d
    whole d = omega (arith, ints)

pub times_units : (z : ℤ) (m : ℕ) → unsigned_abs z ≡ m → (neg_ℤ (pos (2 ^ 40 * m)) ≤ℤ (pos (2 ^ 40) *ℤ z)) × ((pos (2 ^ 40) *ℤ z) ≤ℤ pos (2 ^ 40 * m))
times_units z m e = let w = within-size z in let a = w.above in let b = w.below in (omega (arith, ints, a, b, e), omega (arith, ints, a, b, e))

pub cancelled : (a b d : ℕ) → 1 ≤ d → a * d ≤ b * d → a ≤ b
cancelled a b d p h =
    let l : a < suc b = lt_of_not-le (λ k. let m = mul-le-mul_right d k in absurd (omega (arith, p, h, m))) in
    omega (arith, l)

module _ (e : Gaussian) (distance : IsKernelDistance e) where
  module _ (k l : ℕ) (small : k + l ≤ 62) where
    abbrev power : ComplexRatio
    power = pow_complex (reciprocal e) (suc (k + l))

    abbrev steps : ℕ
    steps = 2 ^ suc (k + l)

    shrunk_power : Shrunk (pos steps) power
    shrunk_power = shrunk e (norm≥4 e distance) (suc (k + l))

    abbrev bottom : ℕ
    bottom = unsigned_abs power.denominator

    part_bounded : (r b n : ℕ) (d : ℤ) → d ≡ pos n → (pos b *ℤ d) ≤ℤ (pos (2 ^ 40 * r) +ℤ pos 2 *ℤ d) → b * n ≤ 2 ^ 40 * r + 2 * n
    part_bounded r b n d e h = whole (subst (λ d. (pos b *ℤ d) ≤ℤ (pos (2 ^ 40 * r) +ℤ pos 2 *ℤ d)) e h)
      where
        whole : (pos b *ℤ pos n) ≤ℤ (pos (2 ^ 40 * r) +ℤ pos 2 *ℤ pos n) → b * n ≤ 2 ^ 40 * r + 2 * n
        whole h = omega (arith, ints, h)

    parts_bounded : (unsigned_abs (kernel_entry e k l).re.lo * bottom ≤ 2 ^ 40 * (choose (k + l) k * unsigned_abs power.re) + 2 * bottom)
        × (unsigned_abs (kernel_entry e k l).im.lo * bottom ≤ 2 ^ 40 * (choose (k + l) k * unsigned_abs power.im) + 2 * bottom)
    unfolding kernel_fraction
    parts_bounded =
        let h = (kernel_entries e k l distance small).contains in
        let w = (kernel_entries e k l distance small).narrow in
        let x = natural_complex (choose (k + l) k) *ᶜ power in
        let a = alternate_sizes l x in
        let b = counted_sizes (choose (k + l) k) power in
        let d = a.denominator ∙ b.denominator ∙ positive_is power.denominator shrunk_power.positive in
        let re = times_units (alternate_complex l x).re _ (a.re ∙ b.re ∙ unsigned_abs-mul (pos (choose (k + l) k)) power.re) in
        let im = times_units (alternate_complex l x).im _ (a.im ∙ b.im ∙ unsigned_abs-mul (pos (choose (k + l) k)) power.im) in (
          part_bounded _ _ _ _ d (lower_size 2 _ h.re w.re re.0 re.1),
          part_bounded _ _ _ _ d (lower_size 2 _ h.im w.im im.0 im.1),
        )

    entry_bounded : 12 * steps * parts_size (kernel_entry e k l) ≤ 17 * 2 ^ 40 * choose (k + l) k + 96 * steps
    entry_bounded =
        let p = parts_bounded in
        let s = shrunk_sum steps power shrunk_power in
        cancelled _ _ bottom (one power.denominator shrunk_power.positive)
        (gathered steps (choose (k + l) k) (unsigned_abs power.re) (unsigned_abs power.im) bottom (unsigned_abs (kernel_entry e k l).re.lo) (unsigned_abs (kernel_entry e k l).im.lo) p.0 p.1 s)
      where
        one : (d : ℤ) → pos 0 <ℤ d → 1 ≤ unsigned_abs d
        one (pos n) h = omega (arith, ints, h)
        one (negsuc n) h = absurd (omega (arith, ints, h))

        gathered : (c C r i d x y : ℕ) → x * d ≤ 2 ^ 40 * (C * r) + 2 * d → y * d ≤ 2 ^ 40 * (C * i) + 2 * d → 12 * (c * r + c * i) ≤ 17 * d
            → 12 * c * (x + 2 + (y + 2)) * d ≤ (17 * 2 ^ 40 * C + 96 * c) * d
        gathered c C r i d x y h k s =
            let a = mul-le-mul_left (12 * c) h in
            let b = mul-le-mul_left (12 * c) k in
            let f = mul-le-mul_left (2 ^ 40 * C) s in
            omega (arith, a, b, f)

  -- ---- a column
  module _ (l : ℕ) where
    unfoldable pub column_size : ℕ → ℕ
    column_size zero = 0
    column_size (suc K) = column_size K + parts_size (kernel_entry e K l)

    together : (p W w A C K : ℕ) → 12 * p * W ≤ 17 * 2 ^ 40 * A + 96 * K * p → 12 * (2 * p) * w ≤ 17 * 2 ^ 40 * C + 96 * (2 * p) → 12 * (2 * p) * (W + w) ≤ 17 * 2 ^ 40 * (2 * A + C) + 96 * suc K * (2 * p)
    together p W w A C K h k = omega (arith, h, k)

    column_bounded : (K : ℕ) → K + l ≤ 63 → 12 * 2 ^ (K + l) * column_size K ≤ 17 * 2 ^ 40 * column_count K l + 96 * K * 2 ^ (K + l)
    unfolding column_size
    column_bounded zero h = omega arith
    column_bounded (suc K) h =
        let p : 2 ^ (suc K + l) ≡ 2 * 2 ^ (K + l) = doubled K in
        let q : 2 ^ suc (K + l) ≡ 2 * 2 ^ (K + l) = two_power (K + l) in
        subst₂ (λ n c. 12 * n * (column_size K + parts_size (kernel_entry e K l)) ≤ 17 * 2 ^ 40 * c + 96 * suc K * n) (sym p) (sym (column_count-next K l))
        (together (2 ^ (K + l)) (column_size K) (parts_size (kernel_entry e K l)) (column_count K l) (choose (K + l) K) K (column_bounded K (omega (arith, h)))
        (subst (λ n. 12 * n * parts_size (kernel_entry e K l) ≤ 17 * 2 ^ 40 * choose (K + l) K + 96 * n) q (entry_bounded K l (omega (arith, h)))))
      where
        two_power : (n : ℕ) → 2 ^ suc n ≡ 2 * 2 ^ n
        two_power n = omega arith

        doubled : (K : ℕ) → 2 ^ (suc K + l) ≡ 2 * 2 ^ (K + l)
        doubled K = ap (λ n. 2 ^ n) {x = suc K + l} {y = suc (K + l)} (omega arith) ∙ two_power (K + l)

    pub column_small : (K : ℕ) → K ≤ 32 → l < 32 → column_size K ≤ 3 * 2 ^ 39
    column_small K h k = last (2 ^ (K + l)) (column_size K) (column_count K l) K h (power_positive (K + l)) (column_count-bounded K l) (column_bounded K (omega (arith, h, k)))
      where
        last : (p W A K : ℕ) → K ≤ 32 → 1 ≤ p → A ≤ p → 12 * p * W ≤ 17 * 2 ^ 40 * A + 96 * K * p → W ≤ 3 * 2 ^ 39
        last p W A K h one a b =
            let c = mul-le-mul_right p h in
            let t : 12 * W * p ≤ 12 * (3 * 2 ^ 39) * p = omega (arith, a, b, c) in
            let d = cancelled (12 * W) (12 * (3 * 2 ^ 39)) p one t in
            omega (arith, d)

    -- ---- the sum of products
    product_within : (n : ℕ) (b c : BoxEnds) (x y : ℕ) → EndsWithin x b.re → EndsWithin y b.im → BoxEndsWithin n c → BoxEndsWithin ((x + y) * n) (times_box b c)
    product_within n b c x y v w h = box_wider (x * n + y * n) ((x + y) * n) (times_box b c) (omega arith) (record {
      re = sub_within (x * n) (y * n) (times_ends b.re c.re) (times_ends b.im c.im) (times_within x n b.re c.re v h.re) (times_within y n b.im c.im w h.im);
      im = add_within (x * n) (y * n) (times_ends b.re c.im) (times_ends b.im c.re) (times_within x n b.re c.im v h.im) (times_within y n b.im c.re w h.re);
    })

    sum_within : (n : ℕ) (m : ℕ → BoxEnds) (K : ℕ) → K + l ≤ 63 → RowWithin K n m → BoxEndsWithin (column_size K * n) (sum_boxes K (λ k. times_box (kernel_entry e k l) (m k)))
    unfolding column_size
    sum_within n m zero h bounded = zero_within (0 * n)
    sum_within n m (suc K) h bounded =
        let w = (kernel_entries e K l distance (omega (arith, h))).narrow in
        box_wider (column_size K * n + parts_size (kernel_entry e K l) * n) ((column_size K + parts_size (kernel_entry e K l)) * n) _ (omega arith)
        (add_box_within (column_size K * n) (parts_size (kernel_entry e K l) * n) (sum_boxes K (λ k. times_box (kernel_entry e k l) (m k))) (times_box (kernel_entry e K l) (m K))
        (sum_within n m K (omega (arith, h)) (λ k i. bounded k (omega (arith, i))))
        (product_within n (kernel_entry e K l) (m K) (unsigned_abs (kernel_entry e K l).re.lo + 2) (unsigned_abs (kernel_entry e K l).im.lo + 2) (narrow_within 2 (kernel_entry e K l).re w.re) (narrow_within 2 (kernel_entry e K l).im w.im) (bounded K (omega arith))))

    -- before it is rounded
    pub products_within : (n : ℕ) (m : ℕ → BoxEnds) (K : ℕ) → K ≤ 32 → l < 32 → RowWithin K (2 * n) m → BoxEndsWithin (3 * n * 2 ^ 40) (sum_boxes K (λ k. times_box (kernel_entry e k l) (m k)))
    products_within n m K h k bounded = box_wider (column_size K * (2 * n)) (3 * n * 2 ^ 40) _ (fewer (column_size K) n (column_small K h k)) (sum_within (2 * n) m K (omega (arith, h, k)) bounded)
      where
        fewer : (W n : ℕ) → W ≤ 3 * 2 ^ 39 → W * (2 * n) ≤ 3 * n * 2 ^ 40
        fewer W n h = let a = mul-le-mul_right (2 * n) h in omega (arith, a)

pub converted_within : ConvertedSizes
unfolding converted
converted_within P n e m few distance bounded l h = box_quot_within (3 * n) (2 ^ 40) _ (omega arith) (products_within e distance l n m P few (omega (arith, few, h)) bounded)
