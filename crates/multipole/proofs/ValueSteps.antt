-- The steps of a multipole row's value: of a row m of P boxes that are at most 2^80 in size, in a cell of side 2^bits, at a far place.
use Rattle.std.proofs.Common.{◌≡◌, sym, ap, ap₂, ◌∙◌, subst, ℕ, ◌+◌, ◌-◌, ◌*◌, ◌^◌, ◌<◌, arith, ℤ}
use Rattle.exact_math.specs.Ends.{BoxEnds, BoxEndsWithin, add_box, gquot_box}
use Rattle.exact_math.specs.Gaussian.{Gaussian, norm_gaussian, conj, scale_gaussian}
use Rattle.complex_box.specs.Box.{GscaleFits}
use Rattle.complex_box.proofs.Sizes.{box_wider, add_box_within, gscale_fits}
use Rattle.exact_math.specs.Within.{GaussianWithin, GaussianBeyond}
use Rattle.limits.specs.Limits.{widest_grid}
use Rattle.row_recursions.specs.Rows.{multipole_round}
use Rattle.row_recursions.specs.Sizes.{RowWithin}
use Rattle.row_recursions.proofs.Equations.{multipole_round-next}
use Rattle.row_recursions.proofs.RowSizes.{multipole_round_bounded, power_positive}

module _ (P bits : ℕ) (m : ℕ → BoxEnds) (zeta : Gaussian) (far : GaussianBeyond (3 * 2 ^ bits) zeta) (bounded : RowWithin P (2 ^ 80) m) where
  -- what is added to the value before
  pub sum_within : (n : ℕ) (v r : BoxEnds) → n < P → v ≡ multipole_round P m (2 ^ bits) zeta n → r ≡ m (P - 1 - n) → BoxEndsWithin (6 * 2 ^ 80) (add_box v r)
  sum_within n v r h e f = subst (BoxEndsWithin (6 * 2 ^ 80)) (sym (ap₂ add_box e f))
      (box_wider (5 * 2 ^ 80 + 2 ^ 80) (6 * 2 ^ 80) _ (omega arith)
      (add_box_within (5 * 2 ^ 80) (2 ^ 80) (multipole_round P m (2 ^ bits) zeta n) (m (P - 1 - n))
      (multipole_round_bounded (2 ^ bits) zeta (power_positive bits) far P (2 ^ 80) m bounded n (omega arith)) (bounded (P - 1 - n) (omega arith))))

  pub sum_fits : (n : ℕ) (v r : BoxEnds) → n < P → v ≡ multipole_round P m (2 ^ bits) zeta n → r ≡ m (P - 1 - n) → BoxEndsWithin (2 ^ 126) (add_box v r)
  sum_fits n v r h e f = box_wider (6 * 2 ^ 80) (2 ^ 126) (add_box v r) (omega arith) (sum_within n v r h e f)

  -- its product with the factor
  pub product_fits : (n : ℕ) (v r t : BoxEnds) (g : Gaussian) → n < P → v ≡ multipole_round P m (2 ^ bits) zeta n → r ≡ m (P - 1 - n) → t ≡ add_box v r → GaussianWithin (2 ^ (2 * widest_grid + 2)) g → GscaleFits t g
  product_fits n v r t g h e f i w = gscale_fits (6 * 2 ^ 80) (2 ^ (2 * widest_grid + 2)) t g (subst (BoxEndsWithin (6 * 2 ^ 80)) (sym i) (sum_within n v r h e f)) w.re w.im (omega arith)

  -- one step
  pub value_next : (n : ℕ) (v r t w : BoxEnds) (g : Gaussian) (d : ℤ) → v ≡ multipole_round P m (2 ^ bits) zeta n → r ≡ m (P - 1 - n) → t ≡ add_box v r
      → g ≡ conj (scale_gaussian (2 * 2 ^ bits) zeta) → d ≡ norm_gaussian zeta → w ≡ gquot_box t g d → w ≡ multipole_round P m (2 ^ bits) zeta (n + 1)
  value_next n v r t w g d e f i j k l =
      l ∙ ap₂ (gquot_box t) j k ∙ ap (λ b. gquot_box b (conj (scale_gaussian (2 * 2 ^ bits) zeta)) (norm_gaussian zeta)) (i ∙ ap₂ add_box e f) ∙ sym (multipole_round-next P m (2 ^ bits) zeta n)
