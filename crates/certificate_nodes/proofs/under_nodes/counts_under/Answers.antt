-- What was added up is written back.
use Rattle.std.proofs.Common.{◌∙◌, arith}
use Rattle.certificate_nodes.specs.UnderNodes.{own_counts}
use Rattle.certificate_nodes.proofs.Sums.{summed}
use Rattle.certificate_nodes.proofs.under_nodes.counts_under.Goals as goal

pub returns : goal.returns
returns c =
    let v = c.in_ok-counts.counts in
    summed c.args.parents.now c.add_up.new.values c.deref_mut.result.now (own_counts c.args.rows.now) v.len _ (c.deref_mut.ensures.value ∙ c.in_ok-counts.ensures) (omega (arith, c.deref_mut.ensures.len)) c.add_up.ensures.len c.add_up.ensures.sums
