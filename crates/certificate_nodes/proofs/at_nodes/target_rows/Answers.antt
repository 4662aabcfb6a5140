-- The groups are those of the targets, and one more.
use Rattle.std.proofs.Common.{false, arith}
use Rattle.certificate_nodes.proofs.Groups.{many_groups, are_indices}
use Rattle.certificate_nodes.proofs.at_nodes.target_rows.Goals as goal

pub of-requires-clause-count : goal.of-requires-clause-count
of-requires-clause-count c = omega (arith, many_groups c.args.cert.now false c.args.points.now.list c.in_ok-groups.groups c.in_ok-groups.ensures)

pub of-requires-clause-indices : goal.of-requires-clause-indices
of-requires-clause-indices c = are_indices c.args.cert.now false c.args.points.now.list c.points.result.now c.in_ok-groups.groups c.cell_count.result c.in_ok-groups.ensures c.points.ensures
