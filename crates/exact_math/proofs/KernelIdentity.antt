-- The identity of the truncated kernel and its derivative over complex fractions, from those for every commutative ring.
use mathlib.Core.Path.{◌≡◌, subst}
use Prim.Native.Nat.{ℕ, zero, suc, ◌+◌, ◌-◌}
use native.Mathlib.Omega.{arith}
use lib.IntN.{pos}
use Rattle.exact_math.specs.Binomials.{choose}
use Rattle.exact_math.specs.Ratio.{ComplexRatio}
use Rattle.exact_math.specs.TruncatedKernel.{truncated_kernel, truncated_slope, kernel_remainder, remainder_slope, one_less, KernelIdentity, KernelSlopeIdentity}
use Rattle.exact_math.proofs.ComplexRationals.{ℂ, complex_rationals, of_int_ℂ, ◌-ℂ◌}
use Rattle.exact_math.proofs.Fractions.{complex_value, Stands, Stands-itself, Stands-count, Stands-add, Stands-sub, Stands-mul, Stands-pow, Stands-slope, Stands-sum, same_from_stands}
use Rattle.exact_math.proofs.TruncatedKernel as Kernel
use Rattle.exact_math.proofs.KernelSlope as Slope
use Rattle.exact_math.specs.Sums.{natural_complex}

module _ {x y : ComplexRatio} {z w : ℂ} (h : Stands x z) (k : Stands y w) where
  -- the truncated kernel
  pub Stands-kernel : (P : ℕ) → Stands (truncated_kernel P x y) (Kernel.kernel_sum complex_rationals z w P P)
  Stands-kernel P = Stands-sum P (λ l. Stands-sum P (λ m. Stands-mul (Stands-count (choose (m + l) m)) (Stands-mul (Stands-pow h m) (Stands-pow k l))))

  -- and its derivative
  pub Stands-kernel_slope : (P : ℕ) → Stands (truncated_slope P x y) (Slope.slope_sum complex_rationals z w P P)
  Stands-kernel_slope P = Stands-sum P (λ l. Stands-sum P (λ m. Stands-mul (Stands-count (choose (m + l) m)) (Stands-mul (Stands-slope h m) (Stands-pow k l))))

  count_is : (p l : ℕ) → Stands (natural_complex (choose (suc p + l - 1) l)) (of_int_ℂ (pos (choose (p + l) l)))
  count_is p l = subst (λ n. Stands (natural_complex (choose (suc p + l - 1) l)) (of_int_ℂ (pos (choose n l)))) (less p l) (Stands-count (choose (suc p + l - 1) l))
    where
      less : (p l : ℕ) → suc p + l - 1 ≡ p + l
      less p l = omega arith

  -- the remainder of order p + 1
  pub Stands-remainder : (p : ℕ) → Stands (kernel_remainder (suc p) x y) (Kernel.kernel_remainder complex_rationals z w p)
  Stands-remainder p = Stands-sum (suc p) (λ l. Stands-mul (count_is p l) (Stands-add (Stands-mul (Stands-pow h (suc p)) (Stands-pow k l)) (Stands-mul (Stands-pow k (suc p)) (Stands-pow h l))))

  -- and its derivative
  pub Stands-remainder_slope : (p : ℕ) → Stands (remainder_slope (suc p) x y) (Slope.remainder_slope complex_rationals z w p)
  Stands-remainder_slope p = Stands-sum (suc p) (λ l. Stands-mul (count_is p l) (Stands-add (Stands-mul (Stands-slope h (suc p)) (Stands-pow k l)) (Stands-mul (Stands-pow k (suc p)) (Stands-slope h l))))

  less_stands : Stands (one_less x y) (of_int_ℂ (pos 1) -ℂ z -ℂ w)
  less_stands = Stands-sub (Stands-sub (Stands-count 1) h) k

-- 1 - (1 - x - y) T = N
pub kernel_identity : KernelIdentity
kernel_identity zero x y order p q = absurd (omega arith)
kernel_identity (suc n) x y order p q =
    let h = Stands-itself x p in
    let k = Stands-itself y q in
    same_from_stands (subst (Stands _) (Kernel.kernel_identity complex_rationals (complex_value x) (complex_value y) n) (Stands-sub (Stands-count 1) (Stands-mul (less_stands h k) (Stands-kernel h k (suc n))))) (Stands-remainder h k n)

-- T - (1 - x - y) T' = N'
pub kernel_slope_identity : KernelSlopeIdentity
kernel_slope_identity zero x y order p q = absurd (omega arith)
kernel_slope_identity (suc n) x y order p q =
    let h = Stands-itself x p in
    let k = Stands-itself y q in
    same_from_stands (subst (Stands _) (Slope.kernel_slope_identity complex_rationals (complex_value x) (complex_value y) n) (Stands-sub (Stands-kernel h k (suc n)) (Stands-mul (less_stands h k) (Stands-kernel_slope h k (suc n))))) (Stands-remainder_slope h k n)
