use Rattle.std.proofs.Common.{ℕ, ◌*◌, ◌+◌, ◌^◌, ◌≤◌, arith}
use Rattle.exact_math.specs.Sizes.{abs_gaussian}
use Rattle.points.specs.Points.{pole, dipole}
use Rattle.complex_box.proofs.Sizes.{box_wider}
use Rattle.row_tests.proofs.ZeroRows.{zeros_within}
use Rattle.row_tests.proofs.known.far_point.Goals as goal

light : (w : ℕ) → w ≤ 2 ^ 17 → 0 + 2 ^ 40 * w ≤ 2 ^ 90
light w h = omega arith

pub returns : goal.returns
returns c = λ k h. box_wider (0 + 2 ^ 40 * (abs_gaussian (pole c.args.kind) + 64 * abs_gaussian (dipole c.args.kind))) (2 ^ 90) _ (light _ c.requires.weight) (c.add_far_source.ensures.size 0 (zeros_within 0 c.zero-row.result c.zero-row.ensures.ends) k h)
