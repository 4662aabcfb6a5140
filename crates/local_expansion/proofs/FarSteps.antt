-- The powers of a far source: of a ratio 2 s/zeta, with s = 2^bits.
use Rattle.std.proofs.Common.{◌≡◌, refl, sym, ap, ap₂, ◌∙◌, subst, ℕ, suc, ◌+◌, ◌*◌, ◌^◌, ◌<◌, arith, ℤ}
use Rattle.exact_math.specs.Ends.{BoxEnds, BoxEndsWithin, add_box, gquot_box}
use Rattle.exact_math.specs.Gaussian.{Gaussian, norm_gaussian, conj, scale_gaussian}
use Rattle.complex_box.specs.Box.{GscaleFits}
use Rattle.complex_box.proofs.Sizes.{box_wider, add_box_within, gscale_fits}
use Rattle.exact_math.specs.Within.{GaussianWithin, GaussianBeyond}
use Rattle.limits.specs.Limits.{widest_grid}
use Rattle.row_recursions.specs.Rows.{ratio_box, far_powers}
use Rattle.row_recursions.specs.Sizes.{RowWithin}
use Rattle.row_recursions.proofs.RowSizes.{ratio_within, power_positive}

pub far_powers-zero : (b : BoxEnds) (m : ℕ) (zeta : Gaussian) → far_powers b m zeta 0 ≡ b
unfolding far_powers
far_powers-zero b m zeta = refl

pub far_powers-next : (b : BoxEnds) (m : ℕ) (zeta : Gaussian) (l : ℕ) → far_powers b m zeta (suc l) ≡ ratio_box m zeta (far_powers b m zeta l)
unfolding far_powers
far_powers-next b m zeta l = refl

-- the product of a power with the factor
pub turn_fits : (b : BoxEnds) (g : Gaussian) → BoxEndsWithin (2 ^ 60) b → GaussianWithin (2 ^ (2 * widest_grid + 2)) g → GscaleFits b g
turn_fits b g w h = gscale_fits (2 ^ 60) (2 ^ (2 * widest_grid + 2)) b g w h.re h.im (omega arith)

module _ (bits : ℕ) (zeta : Gaussian) where
  -- a power and the next one
  pub power_next : (b v t : BoxEnds) (g : Gaussian) (d : ℤ) (l : ℕ) → v ≡ far_powers b (2 * 2 ^ bits) zeta l → g ≡ conj (scale_gaussian (2 * 2 ^ bits) zeta) → d ≡ norm_gaussian zeta → t ≡ gquot_box v g d
      → t ≡ far_powers b (2 * 2 ^ bits) zeta (suc l)
  power_next b v t g d l e i j k =
      k ∙ ap₂ (gquot_box v) i j ∙ ap (ratio_box (2 * 2 ^ bits) zeta) e ∙ sym (far_powers-next b (2 * 2 ^ bits) zeta l)

  pub power_next_within : (v t : BoxEnds) (g : Gaussian) (d : ℤ) → GaussianBeyond (3 * 2 ^ bits) zeta → BoxEndsWithin (2 ^ 60) v → g ≡ conj (scale_gaussian (2 * 2 ^ bits) zeta) → d ≡ norm_gaussian zeta → t ≡ gquot_box v g d
      → BoxEndsWithin (2 ^ 60) t
  power_next_within v t g d far w i j k = subst (BoxEndsWithin (2 ^ 60)) (sym (k ∙ ap₂ (gquot_box v) i j)) (ratio_within (2 ^ 60) (2 ^ bits) zeta v (power_positive bits) far w)

-- the index after the next
pub index_next : (b : BoxEnds) (m : ℕ) (zeta : Gaussian) (l : ℕ) {v : BoxEnds} → v ≡ far_powers b m zeta (suc l) → v ≡ far_powers b m zeta (l + 1)
index_next b m zeta l e = e ∙ ap (far_powers b m zeta) {x = suc l} {y = l + 1} (omega arith)

-- a power, added
pub added_fits : (old : ℕ → BoxEnds) (n l : ℕ) (a b : BoxEnds) → RowWithin n (2 ^ 110) old → l < n → a ≡ old l → BoxEndsWithin (2 ^ 65) b → BoxEndsWithin (2 ^ 126) (add_box a b)
added_fits old n l a b within h e w = box_wider (2 ^ 110 + 2 ^ 65) (2 ^ 126) (add_box a b) (omega arith) (add_box_within (2 ^ 110) (2 ^ 65) a b (subst (BoxEndsWithin (2 ^ 110)) (sym e) (within l h)) w)
