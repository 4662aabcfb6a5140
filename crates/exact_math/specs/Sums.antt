-- Powers and sums of complex fractions, and the sum over a list, as (R, I, D) + (r, i, d) = (R d + r D, I d + i D, D d) makes it from 0/1 on.
use Rattle.std.specs.Prelude.{ℕ, zero, suc, pos, List, fold}
use Rattle.exact_math.specs.Gaussian.{gaussian}
use Rattle.exact_math.specs.Ratio.{ComplexRatio, zero_complex, whole_complex, ◌+ᶜ◌, ◌*ᶜ◌}

-- n, as n/1
abbrev pub natural_complex : ℕ → ComplexRatio
natural_complex n = whole_complex (gaussian (pos n) (pos 0))

-- x^n
abbrev pub pow_complex : ComplexRatio → ℕ → ComplexRatio
pow_complex x zero = natural_complex 1
pow_complex x (suc n) = x *ᶜ pow_complex x n

-- n x^(n - 1), the derivative of x^n
abbrev pub slope_complex : ComplexRatio → ℕ → ComplexRatio
slope_complex x zero = natural_complex 0
slope_complex x (suc n) = natural_complex (suc n) *ᶜ pow_complex x n

-- f 0 + .. + f (n - 1)
abbrev pub sum_complex : ℕ → (ℕ → ComplexRatio) → ComplexRatio
sum_complex zero f = zero_complex
sum_complex (suc n) f = sum_complex n f +ᶜ f n

-- the sum of f k l over k < n and l < n
abbrev pub double_sum : ℕ → (ℕ → ℕ → ComplexRatio) → ComplexRatio
double_sum n f = sum_complex n (λ l. sum_complex n (λ k. f k l))

-- the terms of all members of a list, added in list order
abbrev pub sum_terms : {A : Type 0} → (A → ComplexRatio) → List A → ComplexRatio
sum_terms term xs = fold (λ s x. s +ᶜ term x) zero_complex xs
