use Rattle.certificate_check.proofs.Sound.{sound}
use Rattle.certificate_check.proofs.checking.check.Goals as goal

pub returns-clause-sound : goal.returns-clause-sound
returns-clause-sound c e = sound c.args.points.now c.args.cert.now c.verdict_on.result c.version-certificate.ensures.certificate c.verdict_on.ensures e
