-- The contribution of a far source to a local row: -L(r^(l + 1)) with r = 1/(zeta + t), in sides, where t^2 = 0.
use Rattle.exact_math.proofs.Common.{◌≡◌, ap, ◌∙◌, ℕ, zero, suc, pos, ◌<ℤ◌, pow, quotes, combine, ring5, ℂ, complex_rationals, of_int_ℂ, ◌+ℂ◌, ◌*ℂ◌, neg_ℂ}
use Prim.Native.Nat.{◌*◌, ◌<◌}
use Rattle.exact_math.specs.Gaussian.{Gaussian, norm_gaussian}
use Rattle.exact_math.proofs.BoxEnclosures.{EnclosesBox, EnclosesBox-add, EnclosesBox-neg}
use Rattle.exact_math.proofs.Gaussians.{value}
use Rattle.row_recursions.specs.Rows.{far_source, far_powers, units_box, units_over}
use Rattle.row_recursions.proofs.BoxSums.{units, EnclosesBox-scale, EnclosesBox-ratio, EnclosesBox-units}
use Rattle.row_recursions.proofs.Sides.{reciprocal, EnclosesBox-units_over}

module _ (s : ℕ) (a b zeta : Gaussian) (r : ℂ) (s>0 : 0 < s) (apart : pos 0 <ℤ norm_gaussian zeta) (r-is : value zeta *ℂ r ≡ of_int_ℂ (pos (2 * s))) where
  step_power : (z : ℂ) (l : ℕ) → value zeta *ℂ (z *ℂ pow complex_rationals r (suc l)) ≡ of_int_ℂ (pos (2 * s)) *ℂ (z *ℂ pow complex_rationals r l)
  step_power z l = combine complex_rationals (z *ℂ pow complex_rationals r l) r-is
      (ring5 complex_rationals z r (pow complex_rationals r l) (value zeta) (of_int_ℂ (pos (2 * s))) (λ z r p g s. search quotes depth 12) tt)

  far_pole_holds : (l : ℕ) → EnclosesBox (far_powers (units_box a) (2 * s) zeta (suc l)) (units *ℂ value a *ℂ pow complex_rationals r (suc l))
  unfolding far_powers
  far_pole_holds zero = EnclosesBox-ratio (2 * s) zeta apart (EnclosesBox-units a)
      (step_power (units *ℂ value a) 0 ∙ ap (λ z. of_int_ℂ (pos (2 * s)) *ℂ z) (complex_rationals.mul_one _))
  far_pole_holds (suc l) = EnclosesBox-ratio (2 * s) zeta apart (far_pole_holds l) (step_power (units *ℂ value a) (suc l))

  far_dipole_holds : (l : ℕ) → EnclosesBox (far_powers (units_over b s) (2 * s) zeta (suc l)) (units *ℂ value b *ℂ reciprocal s *ℂ pow complex_rationals r (suc l))
  unfolding far_powers
  far_dipole_holds zero = EnclosesBox-ratio (2 * s) zeta apart (EnclosesBox-units_over b s s>0)
      (step_power (units *ℂ value b *ℂ reciprocal s) 0 ∙ ap (λ z. of_int_ℂ (pos (2 * s)) *ℂ z) (complex_rationals.mul_one _))
  far_dipole_holds (suc l) = EnclosesBox-ratio (2 * s) zeta apart (far_dipole_holds l) (step_power (units *ℂ value b *ℂ reciprocal s) (suc l))

  -- -a r^(l + 1) + (l + 1) b r^(l + 2)/s, in units
  abbrev pub exact_far : ℕ → ℂ
  exact_far l = neg_ℂ (units *ℂ value a *ℂ pow complex_rationals r (suc l)) +ℂ of_int_ℂ (pos (suc l)) *ℂ (units *ℂ value b *ℂ reciprocal s *ℂ pow complex_rationals r (suc (suc l)))

  pub far_source_holds : (l : ℕ) → EnclosesBox (far_source s a b zeta l) (exact_far l)
  unfolding far_source
  far_source_holds l = EnclosesBox-add (EnclosesBox-neg (far_pole_holds l)) (EnclosesBox-scale (pos (suc l)) (far_dipole_holds (suc l)))
