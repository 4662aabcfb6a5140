-- The moments of one source, and the shift up of the moments of a list of sources, in units.
use Rattle.exact_math.proofs.Common.{sym, subst, ℕ, zero, suc, arith, ints, pos, pow, quotes, combine, ring4, ring5, ring6, ℂ, complex_rationals, of_int_ℂ, ◌+ℂ◌, ◌*ℂ◌}
use mathlib.Core.List.{List}
use Prim.Native.Nat.{◌*◌, ◌<◌}
use Rattle.exact_math.specs.Ends.{BoxEnds, add_box, scale_box}
use Rattle.exact_math.specs.Gaussian.{Gaussian}
use Rattle.exact_math.proofs.BoxEnclosures.{EnclosesBox, EnclosesBox-add, EnclosesBox-gquot}
use Rattle.exact_math.proofs.Gaussians.{value}
use Rattle.exact_math.proofs.QuadraticExtension.{Pair, pow_slope}
use Rattle.row_recursions.specs.Rows.{units_box, units_over, source_moment, shifted_up, powers}
use Rattle.row_recursions.proofs.BoxSums.{units, EnclosesBox-scale, EnclosesBox-units}
use Rattle.row_recursions.proofs.LinearFunctionals.{LinearFunctional, function_ring, sources}
use Rattle.row_recursions.proofs.Sides.{dual_complex, place, sides, sides-doubled, reciprocal, parent_offset, place-parent, EnclosesBox-units_over}
use Rattle.row_recursions.proofs.UpRows.{shifted_up_holds}

module _ (s : ℕ) (a b o : Gaussian) (s>0 : 0 < s) where
  abbrev x : ℂ
  x = sides s o

  pole_holds : (k : ℕ) → EnclosesBox (powers (units_box a) o (2 * s) k) (units *ℂ value a *ℂ pow complex_rationals x k)
  unfolding powers
  pole_holds zero = subst (EnclosesBox (units_box a)) (sym (complex_rationals.mul_one _)) (EnclosesBox-units a)
  pole_holds (suc k) = EnclosesBox-gquot o (pos (2 * s)) (omega (arith, ints)) (pole_holds k)
      (combine complex_rationals (units *ℂ value a *ℂ pow complex_rationals x k) (sides-doubled s o s>0)
      (ring5 complex_rationals (of_int_ℂ (pos (2 * s))) x (value o) (units *ℂ value a) (pow complex_rationals x k) (λ s x o a p. search quotes depth 12) tt))

  dipole_holds : (k : ℕ) → EnclosesBox (powers (units_over b s) o (2 * s) k) (units *ℂ value b *ℂ reciprocal s *ℂ pow complex_rationals x k)
  unfolding powers
  dipole_holds zero = subst (EnclosesBox (units_over b s)) (sym (complex_rationals.mul_one _)) (EnclosesBox-units_over b s s>0)
  dipole_holds (suc k) = EnclosesBox-gquot o (pos (2 * s)) (omega (arith, ints)) (dipole_holds k)
      (combine complex_rationals (units *ℂ value b *ℂ reciprocal s *ℂ pow complex_rationals x k) (sides-doubled s o s>0)
      (ring5 complex_rationals (of_int_ℂ (pos (2 * s))) x (value o) (units *ℂ value b *ℂ reciprocal s) (pow complex_rationals x k) (λ s x o b p. search quotes depth 12) tt))

  -- a x^k + b k x^(k - 1)/s, in units
  abbrev pub exact_moment : ℕ → ℂ
  exact_moment k = units *ℂ value a *ℂ pow complex_rationals (sides s o) k +ℂ units *ℂ value b *ℂ (reciprocal s *ℂ pow_slope complex_rationals (sides s o) k)

  pub source_moment_holds : (k : ℕ) → EnclosesBox (source_moment s a b o k) (exact_moment k)
  unfolding source_moment powers
  source_moment_holds zero = subst (EnclosesBox (powers (units_box a) o (2 * s) zero))
      (ring4 complex_rationals (units *ℂ value a) (units *ℂ value b) (reciprocal s) x (λ a b r x. search quotes depth 12) tt) (pole_holds zero)
  source_moment_holds (suc k) = subst (EnclosesBox (add_box (powers (units_box a) o (2 * s) (suc k)) (scale_box (powers (units_over b s) o (2 * s) k) (pos (suc k)))))
      (ring6 complex_rationals (units *ℂ value a) (units *ℂ value b) (reciprocal s) x (pow complex_rationals x k) (of_int_ℂ (pos (suc k))) (λ a b r x p n. search quotes depth 12) tt)
      (EnclosesBox-add (pole_holds (suc k)) (EnclosesBox-scale (pos (suc k)) (dipole_holds k)))

module _ {A : Type 0} (pole dipole : A → Gaussian) (xs : List A) where
  -- the sources of xs as one functional, in units
  abbrev pub charges : LinearFunctional complex_rationals (function_ring A dual_complex)
  charges = sources complex_rationals (λ j. units *ℂ value (pole j)) (λ j. units *ℂ value (dipole j)) xs

  abbrev pub places : ℕ → (A → Gaussian) → A → Pair complex_rationals
  places s offset j = place s (offset j)

  -- the shift up, in terms of the parent's centre and side
  pub parent_moments_held : (s : ℕ) (q : Gaussian) (offset : A → Gaussian) → 0 < s → (P : ℕ) (m : ℕ → BoxEnds)
      → ((k : ℕ) → k < P → EnclosesBox (m k) (charges.apply (pow (function_ring A dual_complex) (places s offset) k)))
      → (k : ℕ) → k < P → EnclosesBox (shifted_up m q k) (charges.apply (pow (function_ring A dual_complex) (places (2 * s) (λ j. parent_offset s q (offset j))) k))
  parent_moments_held s q offset h P m contains k below =
      shifted_up_holds (function_ring A dual_complex) charges (places s offset) (places (2 * s) (λ j. parent_offset s q (offset j))) q
      (λ i j. place-parent s q (offset j) h i) P m contains k below
