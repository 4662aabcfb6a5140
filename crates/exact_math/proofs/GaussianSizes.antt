-- The size |re| + |im| of Gaussian integers, which is that of the complex number; weights; and the norm as a natural number.
use mathlib.Core.Path.{◌≡◌, sym, ap, ap₂, ◌∙◌}
use Prim.Native.Nat.{ℕ, suc, ◌+◌, ◌*◌, ◌≤◌}
use native.Mathlib.Nat.{mul-le-mul_right}
use native.Mathlib.Omega.{arith}
use lib.IntN.{ℤ, pos, negsuc, ◌+ℤ◌, ◌*ℤ◌}
use borrow.Author.Differences.{ints}
use Rattle.std.specs.Prelude.{unsigned_abs}
use Rattle.exact_math.specs.Gaussian.{Gaussian, zero_gaussian, norm_gaussian}
use Rattle.exact_math.specs.Sizes.{abs_gaussian, weight_at}
use Rattle.exact_math.proofs.Rationals.{of_int, of_int-add, ◌+ℚ◌}
use Rattle.exact_math.proofs.RationalOrder.{absolute, absolute_is, absolute_neg, nonneg_int}
use Rattle.exact_math.proofs.ComplexSize.{size}
use Rattle.exact_math.proofs.Enclosures.{of_int-neg}
use Rattle.exact_math.proofs.Gaussians.{value}

-- |a| of a whole number
pub absolute_int : (a : ℤ) → absolute (of_int a) ≡ of_int (pos (unsigned_abs a))
absolute_int (pos n) = absolute_is _ (nonneg_int n)
absolute_int (negsuc n) = ap absolute (of_int-neg (pos (suc n))) ∙ absolute_neg _ ∙ absolute_is _ (nonneg_int (suc n))

-- |g| of a Gaussian integer
pub size_value : (g : Gaussian) → size (value g) ≡ of_int (pos (abs_gaussian g))
size_value g = ap₂ ◌+ℚ◌ (absolute_int g.re) (absolute_int g.im) ∙ sym (of_int-add (pos (unsigned_abs g.re)) (pos (unsigned_abs g.im)))

-- the weights of a pole alone and of a dipole alone
pub weight_at-pole : (P : ℕ) (a : Gaussian) → weight_at P a zero_gaussian ≡ abs_gaussian a
weight_at-pole P a = omega arith

pub weight_at-dipole : (P : ℕ) (b : Gaussian) → weight_at P zero_gaussian b ≡ 2 * P * abs_gaussian b
weight_at-dipole P b = omega arith

-- weights grow with the order
pub weight_at-le : (P Q : ℕ) (a b : Gaussian) → P ≤ Q → weight_at P a b ≤ weight_at Q a b
weight_at-le P Q a b h = let m = mul-le-mul_right (abs_gaussian b) h in omega (arith, m)

-- ---- the norm, as a natural number
abbrev pub norm_count : Gaussian → ℕ
norm_count g = unsigned_abs g.re * unsigned_abs g.re + unsigned_abs g.im * unsigned_abs g.im

pub square_abs : (a : ℤ) → pos (unsigned_abs a * unsigned_abs a) ≡ a *ℤ a
square_abs (pos n) = omega (arith, ints)
square_abs (negsuc n) = omega (arith, ints)

pub norm_count-is : (g : Gaussian) → pos (norm_count g) ≡ norm_gaussian g
norm_count-is g = ap₂ ◌+ℤ◌ (square_abs g.re) (square_abs g.im)
