-- The size of a complex number is the sum of the sizes of its parts.
use Rattle.std.specs.Prelude.{ℕ, ◌+◌, ◌*◌, unsigned_abs}
use Rattle.exact_math.specs.Gaussian.{Gaussian}

-- |re| + |im|
abbrev pub abs_gaussian : Gaussian → ℕ
abs_gaussian g = unsigned_abs g.re + unsigned_abs g.im

-- |a| + 2 P |b|: how much an expansion that is cut off at order P can leave of the pole a and the dipole b
abbrev pub weight_at : ℕ → Gaussian → Gaussian → ℕ
weight_at P a b = abs_gaussian a + 2 * P * abs_gaussian b
