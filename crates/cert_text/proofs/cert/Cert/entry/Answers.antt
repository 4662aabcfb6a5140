-- Both nodes are in range.
use Rattle.std.proofs.Common.{ap, sym, ◌∙◌, subst, arith}
use Rattle.std.proofs.lemmas.Int.{ints}
use Rattle.cert_text.specs.Certificate.{Certificate, IsCertificate}
use Rattle.cert_text.specs.Storage.{IsStored}
use Rattle.cert_text.proofs.KeptLines.{entry_range}
use Rattle.cert_text.proofs.cert.Cert.entry.Goals as goal

pub returns-clause-b : goal.returns-clause-b
returns-clause-b c =
    let seen = c.stored.view_is ∙ c.self.view_is in
    let is = subst IsStored seen c.stored.invariant in
    let whole = subst IsCertificate c.self.view_is c.self.invariant in
    let r = entry_range c.args.self.now is whole c.args.e c.stored.inside.entries.items c.index.result.now (sym (ap (λ (s : Certificate). s.entries) seen)) c.requires c.index.ensures in
    omega (arith, ints, r.0.most)

pub returns-clause-c : goal.returns-clause-c
returns-clause-c c =
    let seen = c.stored.view_is ∙ c.self.view_is in
    let is = subst IsStored seen c.stored.invariant in
    let whole = subst IsCertificate c.self.view_is c.self.invariant in
    let r = entry_range c.args.self.now is whole c.args.e c.stored.inside.entries.items c.index.result.now (sym (ap (λ (s : Certificate). s.entries) seen)) c.requires c.index.ensures in
    omega (arith, ints, r.1.most)
