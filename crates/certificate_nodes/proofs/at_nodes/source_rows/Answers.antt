-- The groups are those of the sources, and one more.
use Rattle.std.proofs.Common.{true, arith}
use Rattle.certificate_nodes.proofs.Groups.{many_groups, are_indices}
use Rattle.certificate_nodes.proofs.at_nodes.source_rows.Goals as goal

pub of-requires-clause-count : goal.of-requires-clause-count
of-requires-clause-count c = omega (arith, many_groups c.args.cert.now true c.args.points.now.list c.in_ok-groups.groups c.in_ok-groups.ensures)

pub of-requires-clause-indices : goal.of-requires-clause-indices
of-requires-clause-indices c = are_indices c.args.cert.now true c.args.points.now.list c.points.result.now c.in_ok-groups.groups c.cell_count-count.result c.in_ok-groups.ensures c.points.ensures

pub group-requires : goal.group-requires
group-requires c = omega (arith, many_groups c.args.cert.now true c.args.points.now.list c.in_ok-groups.groups c.in_ok-groups.ensures)
