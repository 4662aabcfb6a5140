use Rattle.certificate_check.proofs.FirstFailures.{point_fails}
use Rattle.certificate_check.proofs.checking.check_points.Goals as goal

pub returns-clause-some : goal.returns-clause-some
returns-clause-some c = rw (c.no_at.ensures, c.cert.ensures.certificate) (point_fails c.args.given.now c.cert.ensures.head c.requires.nodes c.in_ok-k.k c.in_ok-k.ensures.some)
