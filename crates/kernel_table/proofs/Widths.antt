-- The widths of the kernel's powers and entries.
use mathlib.Core.Path.{◌≡◌, sym, subst, subst₂}
use mathlib.Core.Logic.{◌⊎◌, inl, inr, ⊎_elim}
use Prim.Native.Nat.{ℕ, zero, suc, ◌+◌, ◌-◌, ◌*◌, ◌/◌, ◌^◌, ◌≤◌, ◌<◌}
use native.Mathlib.Nat.{mul-le-mul_left, mul-le-mul_right, mul-le-mul}
use native.Mathlib.Omega.{arith}
use lib.IntN.{ℤ, pos, negsuc, neg_ℤ, ◌*ℤ◌}
use Rattle.std.proofs.lemmas.Int.{ints, unsigned_abs-mul}
use Rattle.std.specs.Prelude.{unsigned_abs}
use Rattle.exact_math.specs.Ends.{Ends, BoxEnds, quot_ends, EndsNarrow, BoxEndsNarrow}
use Rattle.exact_math.specs.Gaussian.{Gaussian, norm_gaussian}
use Rattle.exact_math.proofs.GaussianSizes.{norm_count, norm_count-is}
use Rattle.exact_math.proofs.Widths.{narrow-point, narrow-add, narrow-sub, narrow-neg, narrow-scale, narrow-quot}
use Rattle.exact_math.specs.Binomials.{choose}
use Rattle.kernel_table.specs.Kernel.{IsKernelDistance, kernel_power, kernel_entry, alternate_box}
use Rattle.kernel_table.proofs.PowersOfTwo.{power_positive, power_add, choose_le}

-- ---- the bound: 2 at first, then 6/5 of it and 2 more, rounded down, so at most 10 (6/5)^(n + 1) - 10
abbrev pub next_width : ℕ → ℕ
next_width w = (6 * w + 10) / 5

pub widths : ℕ → ℕ
widths zero = 2
widths (suc n) = next_width (widths n)

-- 10 (|x| + |y|) <= 6 (x^2 + y^2) where one is at least 2: the factor 6/5 is met at 2 + i
six_fifths : (x y : ℕ) → 2 ≤ x → 10 * (x + y) ≤ 6 * (x * x + y * y)
six_fifths zero y h = absurd (omega arith)
six_fifths (suc zero) y h = absurd (omega arith)
six_fifths (suc (suc x)) zero h = omega arith
six_fifths (suc (suc x)) (suc zero) h = omega arith
six_fifths (suc (suc x)) (suc (suc y)) h = omega arith

pub greater_norm : (e : Gaussian) → IsKernelDistance e → 10 * (unsigned_abs e.re + unsigned_abs e.im) ≤ 6 * norm_count e
greater_norm e h = ⊎_elim (six_fifths (unsigned_abs e.re) (unsigned_abs e.im))
    (λ k. turned (unsigned_abs e.re) (unsigned_abs e.im) (six_fifths (unsigned_abs e.im) (unsigned_abs e.re) k))
    h.apart
  where
    turned : (x y : ℕ) → 10 * (y + x) ≤ 6 * (y * y + x * x) → 10 * (x + y) ≤ 6 * (x * x + y * y)
    turned x y h = omega arith

pub norm_count≥4 : (e : Gaussian) → IsKernelDistance e → 4 ≤ norm_count e
norm_count≥4 e h = squares (unsigned_abs e.re) (unsigned_abs e.im) h.apart
  where
    square : (x : ℕ) → 2 ≤ x → 4 ≤ x * x
    square x h = mul-le-mul h h

    squares : (x y : ℕ) → (2 ≤ x) ⊎ (2 ≤ y) → 4 ≤ x * x + y * y
    squares x y (inl h) = let k = square x h in omega arith
    squares x y (inr h) = let k = square y h in omega arith

enough_width : (X Y N w v : ℕ) → 10 * (X + Y) ≤ 6 * N → 0 < N → 6 * w + 6 ≤ 5 * v → 2 * X * w + 2 * Y * w + 2 * (N - 1) < N * suc v
enough_width X Y N w v h n>0 k =
    let l : 10 * (X + Y) * w ≤ 6 * N * w = mul-le-mul_right w h in
    let m : N * (6 * w + 6) ≤ N * (5 * v) = mul-le-mul_left N k in
    omega arith

next_width_ge : (w : ℕ) → 6 * w + 6 ≤ 5 * next_width w
next_width_ge w = omega arith

narrow-quot_norm : (e : Gaussian) {i : Ends} {w v : ℕ} → 0 < norm_count e → EndsNarrow w i → w + 2 * (norm_count e - 1) < norm_count e * suc v → EndsNarrow v (quot_ends i (norm_gaussian e))
narrow-quot_norm e {i} {w} {v} n>0 h enough = subst (λ n. EndsNarrow v (quot_ends i n)) (norm_count-is e) (narrow-quot (norm_count e) n>0 h enough)

module _ (e : Gaussian) (h : IsKernelDistance e) where
  norm_count>0 : 0 < norm_count e
  norm_count>0 = let k = norm_count≥4 e h in omega arith

  start_width : (a : ℤ) → EndsNarrow 2 (quot_ends (record { lo = a; hi = a }) (norm_gaussian e))
  start_width a = narrow-quot_norm e norm_count>0 (narrow-point a) (enough (norm_count e) norm_count>0)
    where
      enough : (n : ℕ) → 0 < n → 0 + 2 * (n - 1) < n * suc 2
      enough n h = omega arith

  twice : (a : ℤ) → unsigned_abs (pos 2 *ℤ a) ≡ 2 * unsigned_abs a
  twice a = unsigned_abs-mul (pos 2) a

  twice_neg : (a : ℤ) → unsigned_abs (neg_ℤ (pos 2 *ℤ a)) ≡ 2 * unsigned_abs a
  twice_neg (pos a) = omega (arith, ints)
  twice_neg (negsuc a) = omega (arith, ints)

  enough_re : (w : ℕ) → unsigned_abs (pos 2 *ℤ e.re) * w + unsigned_abs (neg_ℤ (pos 2 *ℤ e.im)) * w + 2 * (norm_count e - 1) < norm_count e * suc (next_width w)
  enough_re w = subst₂ (λ a b. a * w + b * w + 2 * (norm_count e - 1) < norm_count e * suc (next_width w)) (sym (twice e.re)) (sym (twice_neg e.im))
      (enough_width (unsigned_abs e.re) (unsigned_abs e.im) (norm_count e) w (next_width w) (greater_norm e h) norm_count>0 (next_width_ge w))

  enough_im : (w : ℕ) → unsigned_abs (neg_ℤ (pos 2 *ℤ e.im)) * w + unsigned_abs (pos 2 *ℤ e.re) * w + 2 * (norm_count e - 1) < norm_count e * suc (next_width w)
  enough_im w = turned (unsigned_abs (pos 2 *ℤ e.re) * w) (unsigned_abs (neg_ℤ (pos 2 *ℤ e.im)) * w) (2 * (norm_count e - 1)) (enough_re w)
    where
      turned : (a b c : ℕ) {d : ℕ} → a + b + c < d → b + a + c < d
      turned a b c k = omega arith

  pub kernel_power_narrow : (n : ℕ) → BoxEndsNarrow (widths n) (kernel_power e n)
  unfolding kernel_power widths
  kernel_power_narrow zero = record { re = start_width _; im = start_width _ }
  kernel_power_narrow (suc n) =
      let k = kernel_power_narrow n in
      record {
        re = narrow-quot_norm e norm_count>0 (narrow-sub (narrow-scale (pos 2 *ℤ e.re) k.re) (narrow-scale (neg_ℤ (pos 2 *ℤ e.im)) k.im)) (enough_re (widths n));
        im = narrow-quot_norm e norm_count>0 (narrow-add (narrow-scale (neg_ℤ (pos 2 *ℤ e.im)) k.re) (narrow-scale (pos 2 *ℤ e.re) k.im)) (enough_im (widths n));
      }

-- ---- up to the power 62
le_split : (m n : ℕ) → m ≤ suc n → (m ≤ n) ⊎ (m ≡ suc n)
le_split zero n h = inl (omega arith)
le_split (suc m) zero h = inr (omega arith)
le_split (suc m) (suc n) h = ⊎_elim (λ k. inl (omega arith)) (λ e. inr (omega arith)) (le_split m n (omega arith))

widths-grow : (n : ℕ) → widths n ≤ widths (suc n)
unfolding widths
widths-grow n = omega arith

widths-mono : (m n : ℕ) → m ≤ n → widths m ≤ widths n
widths-mono m zero h = let e : m ≡ 0 = omega arith in rw e (omega arith)
widths-mono m (suc n) h = ⊎_elim (λ k. let l = widths-mono m n k in let g = widths-grow n in omega arith) (λ e. rw e (omega arith)) (le_split m n h)

last_width : widths 62 ≤ 2 ^ 20
unfolding widths
last_width = omega arith

pub widths_le : (n : ℕ) → n ≤ 62 → widths n ≤ 2 ^ 20
widths_le n h = let k = widths-mono n 62 h in let l = last_width in omega arith

narrow-alternate : (l : ℕ) {b : BoxEnds} {w : ℕ} → BoxEndsNarrow w b → BoxEndsNarrow w (alternate_box l b)
narrow-alternate zero h = h
narrow-alternate (suc l) h = let k = narrow-alternate l h in record { re = narrow-neg k.re; im = narrow-neg k.im }

-- each part of an entry is at most 2 wide
pub kernel_entry_narrow : (e : Gaussian) → IsKernelDistance e → (k l : ℕ) → k + l ≤ 62 → BoxEndsNarrow 2 (kernel_entry e k l)
unfolding kernel_entry
kernel_entry_narrow e h k l small =
    let K = kernel_power_narrow e h (k + l) in
    narrow-alternate l (record {
      re = narrow-quot (2 ^ (k + l + 20)) (power_positive (k + l + 20)) (narrow-scale (pos (choose (k + l) k)) K.re) enough;
      im = narrow-quot (2 ^ (k + l + 20)) (power_positive (k + l + 20)) (narrow-scale (pos (choose (k + l) k)) K.im) enough;
    })
  where
    enough : choose (k + l) k * widths (k + l) + 2 * (2 ^ (k + l + 20) - 1) < 2 ^ (k + l + 20) * suc 2
    enough =
        let a = mul-le-mul (choose_le (k + l) k) (widths_le (k + l) small) in
        let c = power_add (k + l) 20 in
        let d = power_positive (k + l + 20) in
        omega arith
