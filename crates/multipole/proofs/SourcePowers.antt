-- The powers of a place are the moments of a pole, and the slopes those of a dipole.
use Rattle.std.proofs.Common.{◌≡◌, refl, sym, ap, ap₂, ◌∙◌, subst, ℕ, zero, suc, ◌+◌, ◌-◌, ◌*◌, ◌^◌, ◌≤◌, arith, pos}
use Rattle.std.proofs.lemmas.Int.{ints}
use Rattle.std.proofs.Math.Pow.{pow_mono}
use Rattle.exact_math.specs.Ends.{BoxEnds, BoxEndsWithin, zero_box, add_box, scale_box, gquot_box}
use Rattle.exact_math.specs.Gaussian.{Gaussian, zero_gaussian}
use Rattle.exact_math.proofs.WholeSizes.{within-weaker}
use Rattle.complex_box.specs.Box.{GscaleFits}
use Rattle.limits.specs.Limits.{widest_grid}
use Rattle.complex_box.proofs.Sizes.{gscale_fits}
use Rattle.exact_math.specs.Within.{GaussianWithin}
use Rattle.row_recursions.specs.Rows.{units_box, units_over, source_moment, powers}
use Rattle.row_recursions.proofs.RowSizes.{box_gquot_within}
use Rattle.complex_box.proofs.ZeroBoxes.{zero_scaled, zero_over, zero_turned, zero_right, zero_left}
use Rattle.multipole.specs.Powers.{slopes}

-- ---- powers of two
pub power_le : (m n : ℕ) → m ≤ n → 2 ^ m ≤ 2 ^ n
power_le m n h = pow_mono h

pub two_halves : (n : ℕ) → 1 ≤ n → 2 ^ (n - 1) + 2 ^ (n - 1) ≤ 2 ^ n
two_halves zero h = absurd (omega arith)
two_halves (suc n) h =
    let e : 2 ^ (suc n - 1) ≡ 2 ^ n = ap (λ k. 2 ^ k) {x = suc n - 1} {y = n} (omega arith) in
    let f : 2 ^ suc n ≡ 2 * 2 ^ n = omega arith in
    omega arith

-- ---- one step
pub step_fits : (n : ℕ) (b : BoxEnds) (o : Gaussian) → n ≤ widest_grid + 1 → GaussianWithin (2 ^ (n - 1)) o → BoxEndsWithin (2 ^ 60) b → GscaleFits b o
step_fits n b o h near w =
    let l = power_le (n - 1) widest_grid (omega arith) in
    gscale_fits (2 ^ 60) (2 ^ widest_grid) b o w (within-weaker l near.re) (within-weaker l near.im) (omega arith)

pub step_within : (m n : ℕ) (b : BoxEnds) (o : Gaussian) → 1 ≤ n → GaussianWithin (2 ^ (n - 1)) o → BoxEndsWithin m b → BoxEndsWithin m (gquot_box b o (pos (2 ^ n)))
step_within m n b o h near w = box_gquot_within m (2 ^ (n - 1)) (2 ^ (n - 1)) (2 ^ n) b o (power_le 0 n (omega arith)) (two_halves n h) near.re near.im w

-- ---- moments
pub powers-zero : (b : BoxEnds) (o : Gaussian) (m : ℕ) → powers b o m 0 ≡ b
unfolding powers
powers-zero b o m = refl

pub powers-next : (b : BoxEnds) (o : Gaussian) (m k : ℕ) → powers b o m (k + 1) ≡ gquot_box (powers b o m k) o (pos m)
unfolding powers
powers-next b o m k = ap (powers b o m) {x = k + 1} {y = suc k} (omega arith)

-- ---- nothing
no_pole : (s : ℕ) (o : Gaussian) → 1 ≤ s → (k : ℕ) → powers (units_box zero_gaussian) o (2 * s) k ≡ zero_box
unfolding powers
no_pole s o h zero = refl
no_pole s o h (suc k) = ap (λ b. gquot_box b o (pos (2 * s))) (no_pole s o h k) ∙ zero_turned o (pos (2 * s)) (omega (arith, ints))

no_dipole : (s : ℕ) (o : Gaussian) → 1 ≤ s → (k : ℕ) → powers (units_over zero_gaussian s) o (2 * s) k ≡ zero_box
unfolding powers
no_dipole s o h zero = zero_over (pos s) (omega (arith, ints))
no_dipole s o h (suc k) = ap (λ b. gquot_box b o (pos (2 * s))) (no_dipole s o h k) ∙ zero_turned o (pos (2 * s)) (omega (arith, ints))

-- a pole alone
pub pole_alone : (s : ℕ) (a o : Gaussian) → 1 ≤ s → (k : ℕ) → source_moment s a zero_gaussian o k ≡ powers (units_box a) o (2 * s) k
unfolding source_moment powers
pole_alone s a o h zero = refl
pole_alone s a o h (suc k) = ap (λ b. add_box (powers (units_box a) o (2 * s) (suc k)) (scale_box b (pos (suc k)))) (no_dipole s o h k) ∙ ap (add_box (powers (units_box a) o (2 * s) (suc k))) (zero_scaled (pos (suc k))) ∙ zero_right _

-- a dipole alone
pub dipole_alone : (s n : ℕ) (b o : Gaussian) → 1 ≤ s → 2 ^ n ≡ 2 * s → (k : ℕ) → source_moment s zero_gaussian b o k ≡ slopes (units_over b s) o n k
unfolding source_moment powers
dipole_alone s n b o h e zero = no_pole s o h zero
dipole_alone s n b o h e (suc k) =
    ap (λ x. add_box x (scale_box (powers (units_over b s) o (2 * s) k) (pos (suc k)))) (no_pole s o h (suc k)) ∙ zero_left _ ∙ ap (λ (b : BoxEnds). scale_box b (pos (suc k))) (sym (ap (λ m. powers (units_over b s) o m k) e))

-- neither
pub none_alone : (s : ℕ) (o : Gaussian) → 1 ≤ s → (k : ℕ) → source_moment s zero_gaussian zero_gaussian o k ≡ zero_box
none_alone s o h k = pole_alone s zero_gaussian o h k ∙ no_pole s o h k

-- the slope after k powers
pub slopes-next : (b : BoxEnds) (o : Gaussian) (n k : ℕ) → 1 ≤ k → slopes b o n k ≡ scale_box (powers b o (2 ^ n) (k - 1)) (pos k)
slopes-next b o n zero h = absurd (omega arith)
slopes-next b o n (suc k) h = ap (λ i. scale_box (powers b o (2 ^ n) i) (pos (suc k))) {x = k} {y = suc k - 1} (omega arith)

-- ---- a place in a cell whose side is 2^n
pub near_next : (n s : ℕ) (o x : Gaussian) → 2 ^ n ≡ s → x ≡ o → GaussianWithin s o → GaussianWithin (2 ^ (n + 1 - 1)) x
near_next n s o x e f h = subst (λ m. GaussianWithin m x) (sym e ∙ ap (λ k. 2 ^ k) {x = n} {y = n + 1 - 1} (omega arith)) (subst (GaussianWithin s) (sym f) h)

pub doubled_side : (n s : ℕ) → 2 ^ n ≡ s → 2 ^ (n + 1) ≡ 2 * s
doubled_side n s e = let f : 2 ^ suc n ≡ 2 * 2 ^ n = omega arith in let g : 2 ^ (n + 1) ≡ 2 ^ suc n = ap (λ k. 2 ^ k) {x = n + 1} {y = suc n} (omega arith) in omega arith

-- ---- what the rows hold, of a cell of side 2^n
pub pole_moments : (s n : ℕ) (a o x : Gaussian) (first : BoxEnds) (k : ℕ) → 1 ≤ s → 2 ^ n ≡ s → x ≡ o → first ≡ units_box a → powers first x (2 ^ (n + 1)) k ≡ source_moment s a zero_gaussian o k
pole_moments s n a o x first k h e f g = ap₂ (λ b z. powers b z (2 ^ (n + 1)) k) g f ∙ ap (λ m. powers (units_box a) o m k) (doubled_side n s e) ∙ sym (pole_alone s a o h k)

pub dipole_moments : (s n : ℕ) (b o x : Gaussian) (first : BoxEnds) (k : ℕ) → 1 ≤ s → 2 ^ n ≡ s → x ≡ o → first ≡ units_over b s → slopes first x (n + 1) k ≡ source_moment s zero_gaussian b o k
dipole_moments s n b o x first k h e f g = ap₂ (λ c z. slopes c z (n + 1) k) g f ∙ sym (dipole_alone s (n + 1) b o h (doubled_side n s e) k)
