use Rattle.certificate_check.proofs.FirstFailures.{node_fails}
use Rattle.certificate_check.proofs.checking.check_nodes.Goals as goal

pub returns-clause-some : goal.returns-clause-some
returns-clause-some c = rw c.no_at.ensures (node_fails c.args.given.now c.cert.ensures.head c.in_ok-n.n c.in_ok-n.ensures.some)
