-- How large the exact moments of sources in a cell are: at most their weight.
use Rattle.std.proofs.Common.{ℕ, ◌+◌, ◌*◌, ◌≤◌, List, Bool, true, false, arith, pos}
use Rattle.std.specs.Prelude.{All, sum_by}
use Rattle.std.proofs.Math.Nat.{mul-le-mul_right}
use Rattle.std.proofs.lemmas.Int.{ints}
use Rattle.std.proofs.lemmas.List.Elements.{All-weaker}
use Rattle.exact_math.specs.Gaussian.{Gaussian}
use Rattle.exact_math.specs.Ratio.{whole_complex, over_complex, ◌*ᶜ◌}
use Rattle.exact_math.specs.Sizes.{abs_gaussian}
use Rattle.exact_math.specs.Sums.{pow_complex, slope_complex}
use Rattle.exact_math.specs.Within.{GaussianWithin}
use Rattle.exact_math.proofs.WholeSizes.{unsigned_abs-within}
use Rattle.row_recursions.specs.Moments.{pole_of, dipole_of, in_sides, moment_of, moment}
use Rattle.truncation.specs.Entries.{Source, weight}
use Rattle.truncation.specs.Places.{doubled_offset}
use Rattle.field_widths.proofs.FractionSizes.{SizeAtMost, size-wider, size-add, size-mul, size-whole, size-over, size-pow, size-slope, size-sum_terms}

module _ (P s : ℕ) (c : Gaussian) (k : ℕ) (one : 1 ≤ s) (small : k ≤ 2 * P) where
  -- an offset in the cell, in sides
  size-in_sides : (o : Gaussian) → GaussianWithin s o → SizeAtMost 1 (in_sides s o)
  size-in_sides o near = record {
    fraction = omega (arith, ints, one);
    small = let r = unsigned_abs-within s o.re near.re in let i = unsigned_abs-within s o.im near.im in omega (arith, ints, r, i);
  }

  -- one source
  size-moment_of : (x : Source) → GaussianWithin s (doubled_offset x.place c) → SizeAtMost (weight P x) (moment_of s c k x)
  size-moment_of x near =
      let u = in_sides s (doubled_offset x.place c) in
      let h = size-in_sides (doubled_offset x.place c) near in
      size-wider (abs_gaussian (pole_of x) * 1 + abs_gaussian (dipole_of x) * k) (weight P x) (moment_of s c k x) (light x)
      (size-add (abs_gaussian (pole_of x) * 1) (abs_gaussian (dipole_of x) * k) (whole_complex (pole_of x) *ᶜ pow_complex u k) (over_complex (whole_complex (dipole_of x)) (pos s) *ᶜ slope_complex u k)
      (size-mul (abs_gaussian (pole_of x)) 1 (whole_complex (pole_of x)) (pow_complex u k) (size-whole (pole_of x)) (size-pow u h k))
      (size-mul (abs_gaussian (dipole_of x)) k (over_complex (whole_complex (dipole_of x)) (pos s)) (slope_complex u k) (size-over (abs_gaussian (dipole_of x)) s (whole_complex (dipole_of x)) one (size-whole (dipole_of x))) (size-slope u h k)))
    where
      by : (b : Bool) (z g : Gaussian) → abs_gaussian (pole_of (record { place = z; strength = g; dipole = b })) * 1 + abs_gaussian (dipole_of (record { place = z; strength = g; dipole = b })) * k
          ≤ weight P (record { place = z; strength = g; dipole = b })
      by true z g = let m = mul-le-mul_right (abs_gaussian g) small in omega (arith, m)
      by false z g = omega arith

      light : (x : Source) → abs_gaussian (pole_of x) * 1 + abs_gaussian (dipole_of x) * k ≤ weight P x
      light x = by x.dipole x.place x.strength

  -- all of them
  pub size-moment : (xs : List Source) → All (λ x. GaussianWithin s (doubled_offset x.place c)) xs → SizeAtMost (sum_by (weight P) xs) (moment s c xs k)
  size-moment xs near = size-sum_terms (moment_of s c k) (weight P) xs (All-weaker (λ x. GaussianWithin s (doubled_offset x.place c)) (λ x. SizeAtMost (weight P x) (moment_of s c k x)) size-moment_of xs near)
