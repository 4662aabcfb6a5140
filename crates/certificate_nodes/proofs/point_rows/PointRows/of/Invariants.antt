-- The rows so far.
use Rattle.std.proofs.Common.{◌≡◌}
use Rattle.certificate_nodes.specs.PointRows.{rows_in, AreRowRanges, grouped_points}
use Rattle.certificate_nodes.proofs.point_rows.PointRows.of.Given as goal

abbrev pub invariant-loop-n : goal.invariant-loop-n
invariant-loop-n l = record {
  rows : rows_in l.gathered.items l.ranges.items ≡ grouped_points l.points l.groups l.n;
  ranges : AreRowRanges l.gathered.items l.ranges.items;
}
