-- How wide the parts of rows grow: a factor of at most 1 widens no box, and its rounding by a unit or less.
use Rattle.std.proofs.Common.{sym, subst, ℕ, zero, suc, ◌+◌, ◌-◌, ◌*◌, ◌/◌, ◌≤◌, ◌<◌, arith, pos}
use Rattle.std.proofs.Math.Nat.{lt-mul-div-succ, mul-le-mul, mul-le-mul_left}
use Rattle.std.specs.Prelude.{unsigned_abs}
use Rattle.exact_math.specs.Ends.{BoxEnds, BoxEndsNarrow, add_box, quot_box, gquot_box}
use Rattle.exact_math.specs.Gaussian.{Gaussian, conj, scale_gaussian}
use Rattle.exact_math.specs.Within.{GaussianWithin, GaussianBeyond}
use Rattle.exact_math.proofs.GaussianSizes.{norm_count, norm_count-is}
use Rattle.exact_math.proofs.WholeSizes.{within-mul, within-neg, within-size}
use Rattle.exact_math.proofs.Widths.{narrow-point, narrow-box, narrow-zero_box, narrow-add_box, narrow-neg_box, narrow-scale_box, narrow-gscale_box, narrow-quot_box, narrow-gquot_box}
use Rattle.row_recursions.specs.Rows.{RowsAdd, units_box, units_over, ratio_box, source_moment, up_round, shifted_up, far_source, down_round, shifted_down, local_round, local_value, multipole_round, multipole_value, powers, far_powers}
use Rattle.row_recursions.specs.Widths.{RowNarrow, MomentWidths, UpWidths, FarWidths, DownWidths, LocalValueWidths, MultipoleValueWidths}
use Rattle.row_recursions.proofs.RowSizes.{number_within, far_sum, far_positive}

-- ---- first boxes
units_narrow : (a : Gaussian) → BoxEndsNarrow 0 (units_box a)
units_narrow a = record { re = narrow-point _; im = narrow-point _ }

units_over_narrow : (b : Gaussian) (s : ℕ) → 1 ≤ s → BoxEndsNarrow 1 (units_over b s)
units_over_narrow b s h = narrow-quot_box s h (units_narrow b) (enough s h)
  where
    enough : (s : ℕ) → 1 ≤ s → 0 + 2 * (s - 1) < s * suc 1
    enough s h = omega arith

-- ---- moments
module _ (s : ℕ) (o : Gaussian) (s≥1 : 1 ≤ s) (near : GaussianWithin s o) where
  near_narrow : (w : ℕ) (b : BoxEnds) → BoxEndsNarrow w b → BoxEndsNarrow (suc w) (gquot_box b o (pos (2 * s)))
  near_narrow w b h = narrow-gquot_box s s (2 * s) (omega (arith, s≥1)) (omega arith) near.re near.im h

  powers_narrow : (w : ℕ) (first : BoxEnds) → BoxEndsNarrow w first → (k : ℕ) → BoxEndsNarrow (k + w) (powers first o (2 * s) k)
  unfolding powers
  powers_narrow w first h zero = narrow-box (omega arith) h
  powers_narrow w first h (suc k) = narrow-box (omega arith) (near_narrow (k + w) (powers first o (2 * s) k) (powers_narrow w first h k))

  local_round_narrow : (P w : ℕ) (m : ℕ → BoxEnds) → RowNarrow P w m → (n : ℕ) → n ≤ P → BoxEndsNarrow (n * suc w) (local_round P m s o n)
  unfolding local_round
  local_round_narrow P w m row zero h = narrow-zero_box (0 * suc w)
  local_round_narrow P w m row (suc n) h = narrow-box (omega arith)
      (narrow-add_box (near_narrow (n * suc w) (local_round P m s o n) (local_round_narrow P w m row n (omega (arith, h)))) (row (P - suc n) (omega (arith, h))))

pub source_moment_narrow : MomentWidths
unfolding source_moment
source_moment_narrow s a b o zero h near = narrow-box (omega arith) (units_narrow a)
source_moment_narrow s a b o (suc k) h near = narrow-box (omega arith)
    (narrow-add_box (powers_narrow s o h near 0 (units_box a) (units_narrow a) (suc k)) (narrow-scale_box (suc k) (powers_narrow s o h near 1 (units_over b s) (units_over_narrow b s h) k)))

-- ---- shifts
module _ (q : Gaussian) (m : ℕ → BoxEnds) (one : GaussianWithin 1 q) where
  up_round_narrow : (P w : ℕ) → RowNarrow P w m → (r i : ℕ) → r + i < P → BoxEndsNarrow (w + r) (up_round m q r i)
  unfolding up_round
  up_round_narrow P w row zero i h = narrow-box (omega arith) (row i (omega (arith, h)))
  up_round_narrow P w row (suc r) i h = narrow-quot_box 4 (omega arith)
      (narrow-add_box (narrow-scale_box 2 (up_round_narrow P w row r (suc i) (omega (arith, h)))) (narrow-gscale_box 1 1 one.re one.im (up_round_narrow P w row r i (omega (arith, h))))) (omega arith)

  down_round_narrow : (P w : ℕ) → RowNarrow P w m → (n k : ℕ) → n ≤ P → BoxEndsNarrow (2 * w + n) (down_round P m q n k)
  unfolding down_round
  down_round_narrow P w row zero k h = narrow-zero_box (2 * w + 0)
  down_round_narrow P w row (suc n) zero h = narrow-box {v = w + (w + suc n)} (omega arith)
      (narrow-add_box (row (P - suc n) (omega (arith, h))) (narrow-quot_box 4 (omega arith) (narrow-gscale_box 1 1 one.re one.im (down_round_narrow P w row n zero (omega (arith, h)))) (omega arith)))
  down_round_narrow P w row (suc n) (suc k) h = narrow-quot_box 4 (omega arith)
      (narrow-add_box (narrow-gscale_box 1 1 one.re one.im (down_round_narrow P w row n (suc k) (omega (arith, h)))) (narrow-scale_box 2 (down_round_narrow P w row n k (omega (arith, h))))) (omega arith)

pub shifted_up_narrow : UpWidths
unfolding shifted_up
shifted_up_narrow w k q m one row = narrow-box {v = w + k} (omega arith) (up_round_narrow q m one (suc k) w row k 0 (omega arith))

pub shifted_down_narrow : DownWidths
unfolding shifted_down
shifted_down_narrow P w q m one row k h = narrow-quot_box 2 (omega arith) (down_round_narrow q m one P w row P k (omega arith)) (omega arith)

-- ---- far sources
module _ (s : ℕ) (zeta : Gaussian) (s≥1 : 1 ≤ s) (far : GaussianBeyond (3 * s) zeta) where
  ratio_narrow : (w : ℕ) (b : BoxEnds) → BoxEndsNarrow w b → BoxEndsNarrow (suc w) (ratio_box (2 * s) zeta b)
  ratio_narrow w b h = subst (λ d. BoxEndsNarrow (suc w) (gquot_box b (conj (scale_gaussian (2 * s) zeta)) d)) (norm_count-is zeta)
      (narrow-gquot_box (2 * s * unsigned_abs zeta.re) (2 * s * unsigned_abs zeta.im) (norm_count zeta) (far_positive s zeta s≥1 far) (far_sum s zeta far)
      (within-mul (2 * s) (unsigned_abs zeta.re) (pos (2 * s)) zeta.re (number_within (2 * s)) (within-size zeta.re))
      (within-neg (within-mul (2 * s) (unsigned_abs zeta.im) (pos (2 * s)) zeta.im (number_within (2 * s)) (within-size zeta.im))) h)

  far_powers_narrow : (w : ℕ) (first : BoxEnds) → BoxEndsNarrow w first → (l : ℕ) → BoxEndsNarrow (l + w) (far_powers first (2 * s) zeta l)
  unfolding far_powers
  far_powers_narrow w first h zero = narrow-box (omega arith) h
  far_powers_narrow w first h (suc l) = narrow-box (omega arith) (ratio_narrow (l + w) (far_powers first (2 * s) zeta l) (far_powers_narrow w first h l))

  multipole_round_narrow : (P w : ℕ) (m : ℕ → BoxEnds) → RowNarrow P w m → (n : ℕ) → n ≤ P → BoxEndsNarrow (n * suc w) (multipole_round P m s zeta n)
  unfolding multipole_round
  multipole_round_narrow P w m row zero h = narrow-zero_box (0 * suc w)
  multipole_round_narrow P w m row (suc n) h = narrow-box (omega arith) (ratio_narrow (n * suc w + w) (add_box (multipole_round P m s zeta n) (m (P - suc n)))
      (narrow-add_box (multipole_round_narrow P w m row n (omega (arith, h))) (row (P - suc n) (omega (arith, h)))))

pub far_source_narrow : FarWidths
unfolding far_source
far_source_narrow P s a b zeta h far l l<P = narrow-box (small P l l<P)
    (narrow-add_box (narrow-neg_box (far_powers_narrow s zeta h far 0 (units_box a) (units_narrow a) (suc l)))
    (narrow-scale_box (suc l) (far_powers_narrow s zeta h far 1 (units_over b s) (units_over_narrow b s h) (suc (suc l)))))
  where
    small : (P l : ℕ) → l < P → suc l + 0 + suc l * (suc (suc l) + 1) ≤ 2 * (P * P) + 2 * P
    small P l h = let m : suc l * suc l ≤ P * P = mul-le-mul (omega (arith, h)) (omega (arith, h)) in let p = mul-le-mul_left P (one P l h) in omega (arith, h, m, p)
      where
        one : (P l : ℕ) → l < P → 1 ≤ P
        one P l h = omega (arith, h)

-- ---- values
over_side : (P w s : ℕ) (b : BoxEnds) → 1 ≤ s → BoxEndsNarrow (P * suc w) b → BoxEndsNarrow (P * (w + 2) / s + 2) (quot_box b (pos s))
over_side P w s b h n = narrow-quot_box s h n (enough (P * (w + 2) / s) (lt-mul-div-succ (P * (w + 2)) h))
  where
    enough : (d : ℕ) → P * (w + 2) < s * (d + 1) → P * suc w + 2 * (s - 1) < s * suc (d + 2)
    enough d l = omega (arith, h, l)

pub local_value_narrow : LocalValueWidths
unfolding local_value
local_value_narrow P w s o m h near row = over_side P w s (local_round P m s o P) h (local_round_narrow s o h near P w m row P (omega arith))

pub multipole_value_narrow : MultipoleValueWidths
unfolding multipole_value
multipole_value_narrow P w s zeta m h far row = over_side P w s (multipole_round P m s zeta P) h (multipole_round_narrow s zeta h far P w m row P (omega arith))

-- ---- sums of rows
pub added_narrow : (P : ℕ) (old part new : ℕ → BoxEnds) → RowsAdd P old part new → (k : ℕ) → k < P → {v w : ℕ} → BoxEndsNarrow v (old k) → BoxEndsNarrow w (part k) → BoxEndsNarrow (v + w) (new k)
added_narrow P old part new adds k h {v} {w} n m = subst (BoxEndsNarrow (v + w)) (sym (adds k h)) (narrow-add_box n m)
