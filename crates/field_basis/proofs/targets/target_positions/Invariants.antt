use Rattle.std.proofs.Common.{◌≡◌, filter, not}
use Rattle.std.specs.List.{range_with_len}
use Rattle.points.specs.Points.{is_source}
use Rattle.field_basis.specs.Targets.{point_at}
use Rattle.field_basis.proofs.targets.target_positions.Given as goal

abbrev pub invariant-loop-k : goal.invariant-loop-k
invariant-loop-k l = l.positions.items ≡ filter (λ k. not (is_source (point_at l.points k).kind)) (range_with_len 0 l.k)
