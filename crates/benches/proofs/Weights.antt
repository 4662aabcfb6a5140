-- What one source more adds to a row.
use Rattle.std.proofs.Common.{ℕ, ◌+◌, ◌*◌, ◌^◌, ◌≤◌, ◌≡◌, arith, subst, sym}
use Rattle.exact_math.specs.Sizes.{abs_gaussian}
use Rattle.points.specs.Points.{pole, dipole}
use Rattle.points.specs.declared.Kind.{Kind}

pub one_more : (n w : ℕ) → w ≤ 2 ^ 17 → n * 2 ^ 57 + 2 ^ 40 * w ≤ (n + 1) * 2 ^ 57
one_more n w h = omega arith

-- the weight of a point is that of its kind
pub weight_of : (made given : Kind) → made ≡ given → abs_gaussian (pole given) + 64 * abs_gaussian (dipole given) ≤ 2 ^ 17 → abs_gaussian (pole made) + 64 * abs_gaussian (dipole made) ≤ 2 ^ 17
weight_of made given e h = subst (λ kind. abs_gaussian (pole kind) + 64 * abs_gaussian (dipole kind) ≤ 2 ^ 17) (sym e) h
