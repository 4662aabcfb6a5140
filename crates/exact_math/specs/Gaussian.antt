-- Complex numbers with whole parts.
use Rattle.std.specs.Prelude.{ℕ, ℤ, pos, neg_ℤ, ◌+ℤ◌, ◌-ℤ◌, ◌*ℤ◌}

-- re + i im
pub record Gaussian : Type 0 where
  pub re : ℤ
  pub im : ℤ

abbrev pub gaussian : ℤ → ℤ → Gaussian
gaussian x y = record { re = x; im = y }

abbrev pub zero_gaussian : Gaussian
zero_gaussian = gaussian (pos 0) (pos 0)

-- g h
abbrev pub mul_gaussian : Gaussian → Gaussian → Gaussian
mul_gaussian g h = record { re = g.re *ℤ h.re -ℤ g.im *ℤ h.im; im = g.re *ℤ h.im +ℤ g.im *ℤ h.re }

abbrev pub add_gaussian : Gaussian → Gaussian → Gaussian
add_gaussian g h = record { re = g.re +ℤ h.re; im = g.im +ℤ h.im }

-- g - h
abbrev pub sub_gaussian : Gaussian → Gaussian → Gaussian
sub_gaussian g h = record { re = g.re -ℤ h.re; im = g.im -ℤ h.im }

-- m g
abbrev pub scale_gaussian : ℕ → Gaussian → Gaussian
scale_gaussian m g = gaussian (pos m *ℤ g.re) (pos m *ℤ g.im)

-- 2 g
abbrev pub twice : Gaussian → Gaussian
twice g = add_gaussian g g

-- re - i im
abbrev pub conj : Gaussian → Gaussian
conj g = record { re = g.re; im = neg_ℤ g.im }

-- re^2 + im^2
abbrev pub norm_gaussian : Gaussian → ℤ
norm_gaussian g = g.re *ℤ g.re +ℤ g.im *ℤ g.im
