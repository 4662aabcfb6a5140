-- What is added for an entry makes up for what is cut off.
use Rattle.std.proofs.Common.{ℕ, ◌≡◌, sym, subst, ◌≤◌}
use Rattle.std.specs.Int.{div_ceil}
use Rattle.truncation.specs.Truncation.{MakesUp}
use Rattle.truncation.proofs.Counting.{radius_widens}

pub makes_up : (loss s r : ℕ) → 1 ≤ s → r ≡ div_ceil loss s → MakesUp loss s r
makes_up loss s r least e = subst (MakesUp loss s) (sym e) (radius_widens loss s least)
