use Rattle.certificate_check.proofs.FirstFailures.{entry_fails}
use Rattle.certificate_check.proofs.checking.check_entries.Goals as goal

pub returns-clause-some : goal.returns-clause-some
returns-clause-some c =
    rw (c.no_at.ensures, c.cert.ensures.certificate)
    (entry_fails c.args.given.now c.cert.ensures.head c.requires.nodes c.requires.points c.requires.multipoles c.in_ok-e.e c.in_ok-e.ensures.some)
