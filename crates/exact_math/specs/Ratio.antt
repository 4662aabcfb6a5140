-- Fractions of whole numbers, as a reader compares them: by cross multiplication.
use Rattle.std.specs.Prelude.{◌≡◌, ℤ, pos, neg_ℤ, ◌+ℤ◌, ◌-ℤ◌, ◌*ℤ◌, ◌<ℤ◌}
use Rattle.exact_math.specs.Gaussian.{Gaussian, gaussian, norm_gaussian}

-- numerator/denominator; the denominator is meant to be above 0
pub record Ratio : Type 0 where
  pub numerator : ℤ
  pub denominator : ℤ

-- n/1
abbrev pub whole_ratio : ℤ → Ratio
whole_ratio n = record { numerator = n; denominator = pos 1 }

-- x + y
abbrev pub add_ratio : Ratio → Ratio → Ratio
add_ratio x y = record {
  numerator = x.numerator *ℤ y.denominator +ℤ y.numerator *ℤ x.denominator;
  denominator = x.denominator *ℤ y.denominator;
}

-- -x
abbrev pub neg_ratio : Ratio → Ratio
neg_ratio x = record { numerator = neg_ℤ x.numerator; denominator = x.denominator }

-- x - y
abbrev pub sub_ratio : Ratio → Ratio → Ratio
sub_ratio x y = add_ratio x (neg_ratio y)

-- x y
abbrev pub mul_ratio : Ratio → Ratio → Ratio
mul_ratio x y = record { numerator = x.numerator *ℤ y.numerator; denominator = x.denominator *ℤ y.denominator }

-- x/n, for n above 0
abbrev pub over_ratio : Ratio → ℤ → Ratio
over_ratio x n = record { numerator = x.numerator; denominator = x.denominator *ℤ n }

-- (re + i im)/denominator; the denominator is meant to be above 0
pub record ComplexRatio : Type 0 where
  pub re : ℤ
  pub im : ℤ
  pub denominator : ℤ

-- 0
abbrev pub zero_complex : ComplexRatio
zero_complex = record { re = pos 0; im = pos 0; denominator = pos 1 }

-- g/1
abbrev pub whole_complex : Gaussian → ComplexRatio
whole_complex g = record { re = g.re; im = g.im; denominator = pos 1 }

-- x + y, as (R, I, D) + (r, i, d) = (R d + r D, I d + i D, D d)
infixl 6 ◌+ᶜ◌ ◌-ᶜ◌
abbrev pub ◌+ᶜ◌ : ComplexRatio → ComplexRatio → ComplexRatio
x +ᶜ y = let D = x.denominator in let d = y.denominator in record { re = x.re *ℤ d +ℤ y.re *ℤ D; im = x.im *ℤ d +ℤ y.im *ℤ D; denominator = D *ℤ d }

-- -x
abbrev pub neg_complex : ComplexRatio → ComplexRatio
neg_complex x = record { re = neg_ℤ x.re; im = neg_ℤ x.im; denominator = x.denominator }

-- x - y
abbrev pub ◌-ᶜ◌ : ComplexRatio → ComplexRatio → ComplexRatio
x -ᶜ y = x +ᶜ neg_complex y

-- x y
infixl 7 ◌*ᶜ◌
abbrev pub ◌*ᶜ◌ : ComplexRatio → ComplexRatio → ComplexRatio
x *ᶜ y = record {
  re = x.re *ℤ y.re -ℤ x.im *ℤ y.im;
  im = x.re *ℤ y.im +ℤ x.im *ℤ y.re;
  denominator = x.denominator *ℤ y.denominator;
}

-- x/n, for n above 0
abbrev pub over_complex : ComplexRatio → ℤ → ComplexRatio
over_complex x n = record { re = x.re; im = x.im; denominator = x.denominator *ℤ n }

-- 1/g, as the conjugate over the norm, for g other than 0
abbrev pub reciprocal : Gaussian → ComplexRatio
reciprocal g = record { re = g.re; im = neg_ℤ g.im; denominator = norm_gaussian g }

-- 1/x for x = (R + i I)/D, as D times 1/(R + i I)
abbrev pub invert : ComplexRatio → ComplexRatio
invert x = whole_complex (gaussian x.denominator (pos 0)) *ᶜ reciprocal (gaussian x.re x.im)

-- x and y are fractions of one number, by cross multiplication
pub record SameComplex (x y : ComplexRatio) : Type 0 where
  pub left_fraction : pos 0 <ℤ x.denominator
  pub right_fraction : pos 0 <ℤ y.denominator
  pub re : x.re *ℤ y.denominator ≡ y.re *ℤ x.denominator
  pub im : x.im *ℤ y.denominator ≡ y.im *ℤ x.denominator

-- the two parts
abbrev pub re_part : ComplexRatio → Ratio
re_part x = record { numerator = x.re; denominator = x.denominator }

abbrev pub im_part : ComplexRatio → Ratio
im_part x = record { numerator = x.im; denominator = x.denominator }
