-- Values that are known beforehand, by computation.
use mathlib.Core.Path.{◌≡◌, refl}
use mathlib.Core.List.{[], ◌∷◌}
use native.Mathlib.Omega.{arith}
use lib.IntN.{ℤ, pos, negsuc}
use borrow.Author.Differences.{ints}
use Rattle.exact_math.specs.Binomials.{choose}
use Rattle.exact_math.specs.Contains.{Contains}
use Rattle.exact_math.specs.Gaussian.{gaussian}
use Rattle.exact_math.specs.Ratio.{ComplexRatio, SameComplex, whole_complex}
use Rattle.exact_math.specs.Sums.{sum_terms}
use Rattle.exact_math.specs.Terms.{pole_term, dipole_term}
use Rattle.exact_math.specs.Rounding.{floor_div, ceil_div}
use Rattle.exact_math.specs.TruncatedKernel.{truncated_kernel, truncated_slope, kernel_remainder, remainder_slope}
use Rattle.exact_math.proofs.Ring.{CommutativeRing}
use Rattle.exact_math.proofs.RingTactic.{quotes, ring2}
use Rattle.exact_math.proofs.TruncatedKernel as Kernel

-- the remainder of order 2 is x^2 + y^2 + 2 x^2 y + 2 x y^2
remainder_of_order_2 : (R : CommutativeRing) (x y : R.carrier)
    → Kernel.kernel_remainder R x y 1 ≡ R.add (R.add (R.mul x x) (R.mul y y)) (R.mul (R.of_int (pos 2)) (R.add (R.mul (R.mul x x) y) (R.mul x (R.mul y y))))
remainder_of_order_2 R x y = ring2 R x y (λ x y. search quotes depth 15) tt

abbrev whole : ℤ → ComplexRatio
whole n = whole_complex (gaussian n (pos 0))

abbrev fraction : ℤ → ℤ → ℤ → ComplexRatio
fraction R I D = record { re = R; im = I; denominator = D }

-- at 3 and 5, at 2 and -1, at 1 + 2i and 3 - i, at 1/2 and 1/3
remainders : (kernel_remainder 2 (whole (pos 3)) (whole (pos 5)) ≡ whole (pos 274))
    × (kernel_remainder 2 (whole (pos 2)) (whole (negsuc 0)) ≡ whole (pos 1))
    × (kernel_remainder 2 (fraction (pos 1) (pos 2) (pos 1)) (fraction (pos 3) (negsuc 0) (pos 1)) ≡ fraction (pos 35) (pos 48) (pos 1))
    × SameComplex (kernel_remainder 2 (fraction (pos 1) (pos 0) (pos 2)) (fraction (pos 1) (pos 0) (pos 3))) (fraction (pos 23) (pos 0) (pos 36))
remainders = (refl, refl, refl, record { left_fraction = omega (arith, ints); right_fraction = omega (arith, ints); re = refl; im = refl })

-- order 1 is 1, order 2 is 1 + x + y + 2 x y, and at 2 and 3 order 3 is 337 and leaves 1349 = 1 - (1 - 2 - 3) 337
kernels : (truncated_kernel 1 (whole (pos 3)) (whole (pos 5)) ≡ whole (pos 1))
    × (truncated_kernel 2 (whole (pos 3)) (whole (pos 5)) ≡ whole (pos 39))
    × (truncated_kernel 3 (whole (pos 2)) (whole (pos 3)) ≡ whole (pos 337))
    × (kernel_remainder 3 (whole (pos 2)) (whole (pos 3)) ≡ whole (pos 1349))
    × SameComplex (truncated_kernel 2 (fraction (pos 1) (pos 0) (pos 2)) (fraction (pos 1) (pos 0) (pos 3))) (fraction (pos 13) (pos 0) (pos 6))
kernels = (refl, refl, refl, refl, record { left_fraction = omega (arith, ints); right_fraction = omega (arith, ints); re = refl; im = refl })

-- by x, order 2 gives 1 + 2 y and leaves 2 x + 4 x y + 2 y^2
slopes : (truncated_slope 2 (whole (pos 3)) (whole (pos 5)) ≡ whole (pos 11)) × (remainder_slope 2 (whole (pos 3)) (whole (pos 5)) ≡ whole (pos 116))
slopes = (refl, refl)

binomials : (choose 6 3 ≡ 20) × (choose 10 4 ≡ 210) × (choose 3 5 ≡ 0) × (choose 0 0 ≡ 1)
binomials = (refl, refl, refl, refl)

-- rounding of -7/2 and of 7/2
roundings : (floor_div (negsuc 6) (pos 2) ≡ negsuc 3) × (ceil_div (negsuc 6) (pos 2) ≡ negsuc 2) × (floor_div (pos 7) (pos 2) ≡ pos 3) × (ceil_div (pos 7) (pos 2) ≡ pos 4)
roundings = (refl, refl, refl, refl)

-- 3/(1 + 2i) = (3 - 6i)/5, 1/(1 + i)^2 = -2i/4, and their sum from 0/1 on is (12 - 34i)/20
terms : (pole_term (gaussian (pos 3) (pos 0)) (gaussian (pos 1) (pos 2)) ≡ record { re = pos 3; im = negsuc 5; denominator = pos 5 })
    × (dipole_term (gaussian (pos 1) (pos 0)) (gaussian (pos 1) (pos 1)) ≡ record { re = pos 0; im = negsuc 1; denominator = pos 4 })
    × (sum_terms (λ x. x) (pole_term (gaussian (pos 3) (pos 0)) (gaussian (pos 1) (pos 2)) ∷ dipole_term (gaussian (pos 1) (pos 0)) (gaussian (pos 1) (pos 1)) ∷ []) ≡ record { re = pos 12; im = negsuc 33; denominator = pos 20 })
terms = (refl, refl, refl)

-- in tenths, 3 and 4 are whole ends round 1/3
third : Contains (pos 10) (pos 3) (pos 4) (record { numerator = pos 1; denominator = pos 3 })
third = record { fraction = omega (arith, ints); above = omega (arith, ints); below = omega (arith, ints) }
