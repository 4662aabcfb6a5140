-- The powers are the contributions of a far pole and of a far dipole.
use Rattle.std.proofs.Common.{◌≡◌, sym, ap, ap₂, ◌∙◌, subst₂, ℕ, zero, suc, ◌*◌, ◌^◌, ◌≤◌, arith, pos, ◌≤ℤ◌}
use Rattle.std.proofs.lemmas.Int.{ints}
use Rattle.exact_math.specs.Ends.{BoxEnds, zero_box, add_box, neg_box, scale_box}
use Rattle.exact_math.specs.Gaussian.{Gaussian, norm_gaussian, conj, scale_gaussian, zero_gaussian}
use Rattle.exact_math.specs.Within.{GaussianBeyond}
use Rattle.row_recursions.specs.Rows.{units_box, units_over, ratio_box, far_source, far_powers}
use Rattle.row_recursions.proofs.RowSizes.{far_norm_positive}
use Rattle.complex_box.proofs.ZeroBoxes.{zero_scaled, zero_over, zero_turned, zero_right, zero_left}

-- ---- nothing
no_pole : (s : ℕ) (zeta : Gaussian) → pos 1 ≤ℤ norm_gaussian zeta → (l : ℕ) → far_powers (units_box zero_gaussian) (2 * s) zeta (suc l) ≡ zero_box
unfolding far_powers
no_pole s zeta h zero = zero_turned (conj (scale_gaussian (2 * s) zeta)) (norm_gaussian zeta) h
no_pole s zeta h (suc l) = ap (ratio_box (2 * s) zeta) (no_pole s zeta h l) ∙ zero_turned (conj (scale_gaussian (2 * s) zeta)) (norm_gaussian zeta) h

no_dipole : (s : ℕ) (zeta : Gaussian) → 1 ≤ s → pos 1 ≤ℤ norm_gaussian zeta → (l : ℕ) → far_powers (units_over zero_gaussian s) (2 * s) zeta (suc l) ≡ zero_box
unfolding far_powers
no_dipole s zeta p h zero = ap (ratio_box (2 * s) zeta) (zero_over (pos s) (omega (arith, ints))) ∙ zero_turned (conj (scale_gaussian (2 * s) zeta)) (norm_gaussian zeta) h
no_dipole s zeta p h (suc l) = ap (ratio_box (2 * s) zeta) (no_dipole s zeta p h l) ∙ zero_turned (conj (scale_gaussian (2 * s) zeta)) (norm_gaussian zeta) h

-- a pole alone
pole_alone : (s : ℕ) (a zeta : Gaussian) → 1 ≤ s → pos 1 ≤ℤ norm_gaussian zeta → (l : ℕ) → far_source s a zero_gaussian zeta l ≡ neg_box (far_powers (units_box a) (2 * s) zeta (suc l))
unfolding far_source
pole_alone s a zeta p h l = ap (λ b. add_box (neg_box (far_powers (units_box a) (2 * s) zeta (suc l))) (scale_box b (pos (suc l)))) (no_dipole s zeta p h (suc l)) ∙ ap (add_box (neg_box (far_powers (units_box a) (2 * s) zeta (suc l)))) (zero_scaled (pos (suc l))) ∙ zero_right _

-- a dipole alone
dipole_alone : (s : ℕ) (b zeta : Gaussian) → pos 1 ≤ℤ norm_gaussian zeta → (l : ℕ) → far_source s zero_gaussian b zeta l ≡ scale_box (far_powers (units_over b s) (2 * s) zeta (suc (suc l))) (pos (suc l))
unfolding far_source
dipole_alone s b zeta h l = ap (λ x. add_box (neg_box x) (scale_box (far_powers (units_over b s) (2 * s) zeta (suc (suc l))) (pos (suc l)))) (no_pole s zeta h l) ∙ zero_left _

-- ---- what the rows hold, of a cell of side 2^n
module _ (s n : ℕ) (zeta x : Gaussian) (s≥1 : 1 ≤ s) (side : 2 ^ n ≡ s) (offset : x ≡ zeta) (far : GaussianBeyond (3 * s) zeta) where
  apart : pos 1 ≤ℤ norm_gaussian zeta
  apart = far_norm_positive s zeta s≥1 far

  pub far_here : GaussianBeyond (3 * 2 ^ n) x
  far_here = subst₂ (λ m z. GaussianBeyond (3 * m) z) (sym side) (sym offset) far

  pub pole_coefficients : (a : Gaussian) (first : BoxEnds) (l : ℕ) → first ≡ units_box a → neg_box (far_powers first (2 * 2 ^ n) x (suc l)) ≡ far_source s a zero_gaussian zeta l
  pole_coefficients a first l e =
      ap (λ b. neg_box (far_powers b (2 * 2 ^ n) x (suc l))) e ∙ ap₂ (λ m z. neg_box (far_powers (units_box a) (2 * m) z (suc l))) side offset
      ∙ sym (pole_alone s a zeta s≥1 apart l)

  pub dipole_coefficients : (b : Gaussian) (first : BoxEnds) (l : ℕ) → first ≡ units_over b s → scale_box (far_powers first (2 * 2 ^ n) x (suc (suc l))) (pos (suc l)) ≡ far_source s zero_gaussian b zeta l
  dipole_coefficients b first l e =
      ap (λ c. scale_box (far_powers c (2 * 2 ^ n) x (suc (suc l))) (pos (suc l))) e ∙ ap₂ (λ m z. scale_box (far_powers (units_over b s) (2 * m) z (suc (suc l))) (pos (suc l))) side offset
      ∙ sym (dipole_alone s b zeta apart l)

  pub no_coefficients : (l : ℕ) → zero_box ≡ far_source s zero_gaussian zero_gaussian zeta l
  no_coefficients l = sym (pole_alone s zero_gaussian zeta s≥1 apart l ∙ ap neg_box (no_pole s zeta apart l))
