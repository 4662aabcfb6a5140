use Rattle.certificate_check.proofs.FirstFailures.{all_hold, target_fails}
use Rattle.certificate_check.proofs.checking.check_targets.Goals as goal

pub returns-in-Some : goal.returns-in-Some
returns-in-Some g c =
    rw (c.no_at.ensures, c.cert-cert.ensures.certificate)
    (target_fails c.args.given.now c.cert-cert.ensures.head c.requires.nodes c.requires.points c.requires.multipoles c.requires.entries c.requires.locals c.in-Some.k c.in-Some.ensures.some)

pub returns-in-None : goal.returns-in-None
returns-in-None g c =
    all_hold c.args.given.now c.cert-cert.ensures.head c.requires.nodes c.requires.points c.requires.multipoles c.requires.entries c.requires.locals c.in-None.ensures.none
