-- The node is in range.
use Rattle.std.proofs.Common.{ap, sym, ◌∙◌, subst, arith}
use Rattle.std.proofs.lemmas.Int.{ints}
use Rattle.cert_text.specs.Certificate.{Certificate, IsCertificate}
use Rattle.cert_text.specs.Storage.{IsStored}
use Rattle.cert_text.proofs.KeptLines.{at_range}
use Rattle.cert_text.proofs.cert.Cert.at.Goals as goal

pub returns-clause-node : goal.returns-clause-node
returns-clause-node c =
    let seen = c.stored.view_is ∙ c.self.view_is in
    let r = at_range c.args.self.now (subst IsStored seen c.stored.invariant) (subst IsCertificate c.self.view_is c.self.invariant) c.args.k c.stored.inside.ats.items c.index.result.now (sym (ap (λ (s : Certificate). s.ats) seen)) c.requires c.index.ensures in
    omega (arith, ints, r.most)
