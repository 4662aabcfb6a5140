-- How wide the contribution of a row to that of a cell 2 or 3 sides away is: an entry of the kernel times the width of a box, and twice the size of what the box contains.
use Rattle.std.proofs.Common.{refl, ℕ, zero, suc, ◌+◌, ◌-◌, ◌*◌, ◌^◌, ◌≤◌, ◌<◌, arith, ℤ, pos, negsuc, ◌+ℤ◌, ◌*ℤ◌, ◌≤ℤ◌, ◌<ℤ◌}
use Rattle.std.proofs.Math.Nat.{mul-le-mul_left, mul-le-mul_right}
use Rattle.std.proofs.lemmas.Int.{ints}
use Rattle.std.specs.Prelude.{unsigned_abs}
use Rattle.exact_math.specs.Ends.{BoxEnds, EndsWithin, BoxEndsNarrow, times_box}
use Rattle.exact_math.specs.Gaussian.{Gaussian}
use Rattle.exact_math.proofs.Widths.{narrow-wider, narrow-add, narrow-sub, narrow-times, narrow-box, narrow-zero_box, narrow-add_box, narrow-quot_box}
use Rattle.kernel_table.specs.Kernel.{IsKernelDistance, kernel_entry}
use Rattle.kernel_table.proofs.Entries.{kernel_entries}
use Rattle.row_recursions.specs.Rows.{sum_boxes, converted}
use Rattle.row_recursions.specs.Widths.{RowNarrow, HoldsWithin, RowHoldsWithin, ConvertedWidths}
use Rattle.row_recursions.proofs.ConvertedSizes.{parts_size, narrow_within, lower_size, times_units, cancelled, column_size, column_small}

-- ---- a box of a row
-- the sizes of the lower ends are together at most those of the fraction, and twice the width
holds_size : (w A : ℕ) (b : BoxEnds) → BoxEndsNarrow w b → HoldsWithin A b → unsigned_abs b.re.lo + unsigned_abs b.im.lo ≤ 2 ^ 40 * A + 2 * w
holds_size w A b n h =
    let x = h.held in
    let re = times_units x.re _ refl in
    let im = times_units x.im _ refl in
    together (unsigned_abs x.re) (unsigned_abs x.im) (unsigned_abs b.re.lo) (unsigned_abs b.im.lo) x.denominator h.contains.re.fraction h.small
    (lower_size w _ h.contains.re n.re re.0 re.1) (lower_size w _ h.contains.im n.im im.0 im.1)
  where
    counts : (r i x y d : ℕ) → 1 ≤ d → r + i ≤ A * d → x * d ≤ 2 ^ 40 * r + w * d → y * d ≤ 2 ^ 40 * i + w * d → x + y ≤ 2 ^ 40 * A + 2 * w
    counts r i x y d one s h k = cancelled (x + y) (2 ^ 40 * A + 2 * w) d one (let m = mul-le-mul_left (2 ^ 40) s in omega (arith, h, k, m))

    together : (r i x y : ℕ) (d : ℤ) → pos 0 <ℤ d → pos (r + i) ≤ℤ (pos A *ℤ d) → (pos x *ℤ d) ≤ℤ (pos (2 ^ 40 * r) +ℤ pos w *ℤ d) → (pos y *ℤ d) ≤ℤ (pos (2 ^ 40 * i) +ℤ pos w *ℤ d)
        → x + y ≤ 2 ^ 40 * A + 2 * w
    together r i x y (pos d) p s h k = counts r i x y d (omega (arith, ints, p)) (omega (arith, ints, s)) (omega (arith, ints, h)) (omega (arith, ints, k))
    together r i x y (negsuc d) p s h k = absurd (omega (arith, ints, p))

-- ---- products
-- of a box 2 wide and one w wide
product_narrow : (X Y R I w : ℕ) (b c : BoxEnds) → EndsWithin X b.re → EndsWithin Y b.im → EndsWithin R c.re → EndsWithin I c.im → BoxEndsNarrow 2 b → BoxEndsNarrow w c
    → BoxEndsNarrow ((X + Y) * w + 2 * (R + I)) (times_box b c)
product_narrow X Y R I w b c x y r i v n = record {
  re = narrow-wider (omega arith) (narrow-sub (narrow-times X R x r v.re n.re) (narrow-times Y I y i v.im n.im));
  im = narrow-wider (omega arith) (narrow-add (narrow-times X I x i v.re n.im) (narrow-times Y R y r v.im n.re));
}

module _ (e : Gaussian) (distance : IsKernelDistance e) (l w A : ℕ) (m : ℕ → BoxEnds) where
  entry_narrow : (k : ℕ) → k + l ≤ 62 → BoxEndsNarrow w (m k) → HoldsWithin A (m k)
      → BoxEndsNarrow (parts_size (kernel_entry e k l) * w + 2 * (2 ^ 40 * A + 4 * w)) (times_box (kernel_entry e k l) (m k))
  entry_narrow k small n h =
      let v = (kernel_entries e k l distance small).narrow in
      let s = holds_size w A (m k) n h in
      narrow-box (omega (arith, s)) (product_narrow (unsigned_abs (kernel_entry e k l).re.lo + 2) (unsigned_abs (kernel_entry e k l).im.lo + 2) (unsigned_abs (m k).re.lo + w) (unsigned_abs (m k).im.lo + w) w
      (kernel_entry e k l) (m k) (narrow_within 2 (kernel_entry e k l).re v.re) (narrow_within 2 (kernel_entry e k l).im v.im) (narrow_within w (m k).re n.re) (narrow_within w (m k).im n.im) v n)

  sum_narrow : (K : ℕ) → K + l ≤ 63 → RowNarrow K w m → RowHoldsWithin K A m
      → BoxEndsNarrow (column_size e distance l K * w + K * (2 * (2 ^ 40 * A + 4 * w))) (sum_boxes K (λ k. times_box (kernel_entry e k l) (m k)))
  unfolding column_size
  sum_narrow zero h row holds = narrow-zero_box _
  sum_narrow (suc K) h row holds = narrow-box (omega arith)
      (narrow-add_box (sum_narrow K (omega (arith, h)) (λ k i. row k (omega (arith, i))) (λ k i. holds k (omega (arith, i)))) (entry_narrow K (omega (arith, h)) (row K (omega arith)) (holds K (omega arith))))

pub converted_narrow : ConvertedWidths
unfolding converted
converted_narrow P w A e m few distance row holds l h = narrow-quot_box (2 ^ 40) (omega arith) (sum_narrow e distance l w A m P (omega (arith, few, h)) row holds)
    (enough (column_size e distance l P) (column_small e distance l P few (omega (arith, few, h))))
  where
    enough : (W : ℕ) → W ≤ 3 * 2 ^ 39 → W * w + P * (2 * (2 ^ 40 * A + 4 * w)) + 2 * (2 ^ 40 - 1) < 2 ^ 40 * suc (2 * w + 2 * P * A + 3)
    enough W s =
        let a = mul-le-mul_right w s in
        let b = mul-le-mul_right w few in
        omega (arith, a, b)
