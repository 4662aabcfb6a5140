-- The size |re| + |im| of a complex number with rational parts.
use lib.IntN.{pos}
use Rattle.exact_math.proofs.Rationals.{ℚ, of_int, ◌+ℚ◌, ◌≤ℚ◌}
use Rattle.exact_math.proofs.RationalOrder.{absolute, absolute_nonneg, nonneg_add}
use Rattle.exact_math.proofs.ComplexRationals.{ℂ}

-- |re| + |im|
abbrev pub size : ℂ → ℚ
size z = absolute z.re +ℚ absolute z.im

-- 0 <= |z|
pub size_nonneg : (z : ℂ) → of_int (pos 0) ≤ℚ size z
size_nonneg z = nonneg_add _ _ (absolute_nonneg _) (absolute_nonneg _)
