-- The law holds at each type.
use Rattle.node_sums.proofs.ByLeaves.{by_leaves}
use Rattle.node_sums.proofs.law.sums_by_leaves.Goals as goal

pub returns : goal.returns
returns g c = by_leaves _
