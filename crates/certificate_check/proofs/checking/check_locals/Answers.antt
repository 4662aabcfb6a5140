use Rattle.certificate_check.proofs.FirstFailures.{local_fails}
use Rattle.certificate_check.proofs.checking.check_locals.Goals as goal

pub returns-in-Some : goal.returns-in-Some
returns-in-Some g c =
    rw (c.no_at.ensures, c.cert-cert.ensures.certificate)
    (local_fails c.args.given.now c.cert-cert.ensures.head c.requires.nodes c.requires.points c.requires.multipoles c.requires.entries c.in-Some.failure.number c.in-Some.failure.rule c.in-Some.ensures.first c.in-Some.ensures.rule)
