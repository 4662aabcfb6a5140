-- The truncated kernel in two variables, over complex fractions: the square of side P cut out of the series of 1/(1 - x - y), what it leaves, and
-- the derivatives of both by x.
use Rattle.std.specs.Prelude.{ℕ, ◌+◌, ◌-◌, ◌≤◌, ◌<ℤ◌, pos}
use Rattle.exact_math.specs.Binomials.{choose}
use Rattle.exact_math.specs.Ratio.{ComplexRatio, SameComplex, ◌+ᶜ◌, ◌-ᶜ◌, ◌*ᶜ◌}
use Rattle.exact_math.specs.Sums.{pow_complex, slope_complex, sum_complex, double_sum, natural_complex}

-- T: the sum of C(k + l, k) x^k y^l over k < P and l < P
abbrev pub truncated_kernel : ℕ → ComplexRatio → ComplexRatio → ComplexRatio
truncated_kernel P x y = double_sum P (λ k l. natural_complex (choose (k + l) k) *ᶜ (pow_complex x k *ᶜ pow_complex y l))

-- T': the sum of k C(k + l, k) x^(k - 1) y^l
abbrev pub truncated_slope : ℕ → ComplexRatio → ComplexRatio → ComplexRatio
truncated_slope P x y = double_sum P (λ k l. natural_complex (choose (k + l) k) *ᶜ (slope_complex x k *ᶜ pow_complex y l))

-- N: the sum of C(P + l - 1, l) (x^P y^l + y^P x^l) over l < P
abbrev pub kernel_remainder : ℕ → ComplexRatio → ComplexRatio → ComplexRatio
kernel_remainder P x y =
    sum_complex P (λ l. natural_complex (choose (P + l - 1) l) *ᶜ (pow_complex x P *ᶜ pow_complex y l +ᶜ pow_complex y P *ᶜ pow_complex x l))

-- N': the sum of C(P + l - 1, l) (P x^(P - 1) y^l + l y^P x^(l - 1)) over l < P
abbrev pub remainder_slope : ℕ → ComplexRatio → ComplexRatio → ComplexRatio
remainder_slope P x y =
    sum_complex P (λ l. natural_complex (choose (P + l - 1) l) *ᶜ (slope_complex x P *ᶜ pow_complex y l +ᶜ pow_complex y P *ᶜ slope_complex x l))

-- 1 - x - y
abbrev pub one_less : ComplexRatio → ComplexRatio → ComplexRatio
one_less x y = natural_complex 1 -ᶜ x -ᶜ y

-- 1 - (1 - x - y) T = N, at every order from 1 on
abbrev pub KernelIdentity : Type 0
KernelIdentity = (P : ℕ) (x y : ComplexRatio) → 1 ≤ P → pos 0 <ℤ x.denominator → pos 0 <ℤ y.denominator
    → SameComplex (natural_complex 1 -ᶜ one_less x y *ᶜ truncated_kernel P x y) (kernel_remainder P x y)

-- T - (1 - x - y) T' = N', its derivative by x
abbrev pub KernelSlopeIdentity : Type 0
KernelSlopeIdentity = (P : ℕ) (x y : ComplexRatio) → 1 ≤ P → pos 0 <ℤ x.denominator → pos 0 <ℤ y.denominator
    → SameComplex (truncated_kernel P x y -ᶜ one_less x y *ᶜ truncated_slope P x y) (remainder_slope P x y)
