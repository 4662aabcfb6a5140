-- What the kernel's entries stand for, and the contribution of a pair of cells, which holds the sums of the exact kernel times the moments.
use Rattle.exact_math.proofs.Common.{subst, ◌∙◌, ℕ, zero, suc, arith, ints, pos, ◌<ℤ◌, quotes, ring1, ring2, sum_below, sum_below-congruence, sum_below-mul, ℂ, complex_rationals, ◌*ℂ◌, inverse_ℂ}
use Prim.Native.Nat.{◌+◌, ◌^◌, ◌<◌}
use Rattle.exact_math.specs.Binomials.{choose}
use Rattle.exact_math.specs.Ends.{BoxEnds, times_box}
use Rattle.exact_math.specs.Gaussian.{Gaussian, norm_gaussian}
use Rattle.exact_math.specs.Ratio.{ComplexRatio}
use Rattle.exact_math.proofs.BoxEnclosures.{EnclosesBox, EnclosesBox-times, EnclosesBox-quot, enclosed_from_contained}
use Rattle.exact_math.proofs.DirectTerms.{Stands-reciprocal}
use Rattle.exact_math.proofs.Fractions.{Stands, Stands-neg, Stands-mul, Stands-count, Stands-pow}
use Rattle.exact_math.proofs.Gaussians.{value}
use Rattle.kernel_table.specs.Kernel.{kernel_entry, kernel_fraction, alternate_complex}
use Rattle.kernel_table.proofs.Contained.{kernel_entry_contains}
use Rattle.row_recursions.specs.Rows.{sum_boxes, converted}
use Rattle.row_recursions.proofs.BoxSums.{units, EnclosesBox-sum}
use Rattle.row_recursions.proofs.ExactKernel.{sign, exact_kernel}

Stands-alternate : (l : ℕ) {x : ComplexRatio} {z : ℂ} → Stands x z → Stands (alternate_complex l x) (sign complex_rationals l *ℂ z)
Stands-alternate zero {x} {z} h = subst (Stands x) (ring1 complex_rationals z (λ z. search quotes depth 9) tt) h
Stands-alternate (suc l) {x} {z} h = subst (Stands (alternate_complex (suc l) x))
    (ring2 complex_rationals (sign complex_rationals l) z (λ s z. search quotes depth 12) tt) (Stands-neg (Stands-alternate l h))

module _ (e : Gaussian) (apart : pos 0 <ℤ norm_gaussian e) where
  -- (-1)^l C(k + l, k)/e^(k + l + 1)
  pub Stands-kernel_fraction : (k l : ℕ) → Stands (kernel_fraction e k l) (exact_kernel complex_rationals (inverse_ℂ (value e)) k l)
  unfolding kernel_fraction
  Stands-kernel_fraction k l = Stands-alternate l (Stands-mul (Stands-count (choose (k + l) k)) (Stands-pow (Stands-reciprocal e apart) (suc (k + l))))

  pub kernel_entry_holds : (k l : ℕ) → EnclosesBox (kernel_entry e k l) (units *ℂ exact_kernel complex_rationals (inverse_ℂ (value e)) k l)
  kernel_entry_holds k l = enclosed_from_contained (pos (2 ^ 40)) (kernel_entry e k l) (Stands-kernel_fraction k l) (kernel_entry_contains e (omega (arith, ints)) k l)

-- coefficient l holds the sum over k of the kernel times the moments
module _ (P : ℕ) (kernel : ℕ → ℕ → BoxEnds) (K : ℕ → ℕ → ℂ) (m : ℕ → BoxEnds) (M : ℕ → ℂ) where
  pub converted_holds : (l : ℕ) → ((k : ℕ) → k < P → EnclosesBox (kernel k l) (units *ℂ K k l)) → ((k : ℕ) → k < P → EnclosesBox (m k) (M k))
      → EnclosesBox (converted P kernel m l) (sum_below complex_rationals P (λ k. K k l *ℂ M k))
  unfolding converted
  converted_holds l h g = EnclosesBox-quot (pos (2 ^ 40)) (omega (arith, ints)) (subst (EnclosesBox (sum_boxes P (λ k. times_box (kernel k l) (m k))))
      (sum_below-congruence complex_rationals P _ _ (λ k b. complex_rationals.mul_assoc _ _ _) ∙ sum_below-mul complex_rationals units P _)
      (EnclosesBox-sum P _ _ (λ k b. EnclosesBox-times (h k b) (g k b))))
