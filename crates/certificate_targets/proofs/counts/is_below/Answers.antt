use Rattle.std.proofs.Common.{◌≡◌, pos, ◌*ℤ◌, to_z, of_z, arith}
use Rattle.std.specs.Int.{w128}
use Rattle.std.proofs.lemmas.Int.{ints}
use Rattle.cell_name.proofs.Comparisons.{le_from_test, test-from_le}
use Rattle.certificate_targets.proofs.Scaled.{below_scaled, below_unscaled}
use Rattle.certificate_targets.proofs.counts.is_below.Goals as goal

pub returns : goal.returns
returns c =
    let x : to_z w128 (of_z w128 c.args.count) ≡ c.args.count = omega (arith, ints) in
    let y : to_z w128 (of_z w128 c.args.end) ≡ c.args.end = omega (arith, ints) in
    let p : to_z w128 (of_z w128 (pos 268435456 *ℤ c.args.count)) ≡ pos 268435456 *ℤ c.args.count = omega (arith, ints) in
    let q : to_z w128 (of_z w128 (pos 244140625 *ℤ c.args.end)) ≡ pos 244140625 *ℤ c.args.end = omega (arith, ints) in
    rw (x, y, p, q) (λ t. below_scaled c.args.count c.args.end (le_from_test (pos 268435456 *ℤ c.args.count) (pos 244140625 *ℤ c.args.end) t), λ h. test-from_le (pos 268435456 *ℤ c.args.count) (pos 244140625 *ℤ c.args.end) (below_unscaled c.args.count c.args.end h))
