use Rattle.std.proofs.Common.{◌≡◌, length, map}
use Rattle.std.specs.List.{range_with_len}
use Rattle.certificate_nodes.specs.PointRows.{row_at}
use Rattle.certificate_nodes.proofs.under_nodes.own_counts.Given as goal

abbrev pub invariant-loop-n : goal.invariant-loop-n
invariant-loop-n l = l.counts.items ≡ map (λ n. length (row_at l.rows n)) (range_with_len 0 l.n)
