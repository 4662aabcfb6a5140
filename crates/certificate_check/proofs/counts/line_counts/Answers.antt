use Rattle.certificate_check.proofs.SmallCounts as counts
use Rattle.certificate_check.proofs.counts.line_counts.Goals as goal

pub returns-clause-small : goal.returns-clause-small
returns-clause-small c = counts.small c.args.cert.now c.version-certificate.ensures.certificate
