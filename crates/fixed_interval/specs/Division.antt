-- Division with a rest.
use Rattle.std.specs.Prelude.{◌≡◌, ℤ, pos, ◌+ℤ◌, ◌*ℤ◌, ◌≤ℤ◌, ◌<ℤ◌}

-- z is the multiple q of n and a rest r, which is from 0 to n - 1
pub record HasRest (z n q r : ℤ) : Type 0 where
  pub whole : (q *ℤ n) +ℤ r ≡ z
  pub from_zero : pos 0 ≤ℤ r
  pub below : r <ℤ n
