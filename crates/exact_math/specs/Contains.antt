-- What it means that two whole ends contain a fraction.
use Rattle.std.specs.Prelude.{ℤ, pos, ◌*ℤ◌, ◌≤ℤ◌, ◌<ℤ◌}
use Rattle.exact_math.specs.Ratio.{Ratio}

-- The ends lo and hi count units of 1/unit: x is a fraction with lo ≤ unit x ≤ hi, by cross multiplication.
pub record Contains (unit lo hi : ℤ) (x : Ratio) : Type 0 where
  pub fraction : pos 0 <ℤ x.denominator
  pub above : (lo *ℤ x.denominator) ≤ℤ (unit *ℤ x.numerator)
  pub below : (unit *ℤ x.numerator) ≤ℤ (hi *ℤ x.denominator)
