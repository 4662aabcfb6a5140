-- Sizes of whole numbers and of the parts of Gaussian integers.
use Rattle.std.specs.Prelude.{ℕ, ℤ, pos, neg_ℤ, ◌≤◌, ◌≤ℤ◌, ◌⊎◌, unsigned_abs}
use Rattle.exact_math.specs.Gaussian.{Gaussian}

-- z is at most n in size
pub record Within (n : ℕ) (z : ℤ) : Type 0 where
  pub above : neg_ℤ (pos n) ≤ℤ z
  pub below : z ≤ℤ pos n

-- both parts of g are at most m in size
pub record GaussianWithin (m : ℕ) (g : Gaussian) : Type 0 where
  pub re : Within m g.re
  pub im : Within m g.im

-- a part of g is at least m in size
abbrev pub GaussianBeyond : ℕ → Gaussian → Type 0
GaussianBeyond m g = (m ≤ unsigned_abs g.re) ⊎ (m ≤ unsigned_abs g.im)
