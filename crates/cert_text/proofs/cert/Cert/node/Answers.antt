-- The cell lies in the grid.
use Rattle.std.proofs.Common.{◌≡◌, ap, sym, ◌∙◌, subst, arith}
use Rattle.std.proofs.lemmas.Int.{ints}
use Rattle.limits.specs.Limits.{IsGrid, grid_of}
use Rattle.limits.proofs.Grids.{version_has_grid}
use Rattle.cert_text.specs.Certificate.{Certificate, IsCertificate}
use Rattle.cert_text.specs.Storage.{IsStored}
use Rattle.cert_text.proofs.KeptLines.{node_range}
use Rattle.cert_text.proofs.cert.Cert.node.Goals as goal

pub invariant_of-result : goal.invariant_of-result
invariant_of-result c =
    let seen = c.stored.view_is ∙ c.self.view_is in
    let is = subst IsStored seen c.stored.invariant in
    let whole = subst IsCertificate c.self.view_is c.self.invariant in
    let r = node_range c.args.self.now is whole c.args.n c.stored.inside.nodes.items c.index-node.result.now (sym (ap (λ (s : Certificate). s.nodes) seen)) c.requires c.index-node.ensures in
    let same : grid_of c.args.self.now.head.version ≡ c.grid_of.result = sym (c.grid_of.ensures ∙ ap (λ (s : Certificate). grid_of s.head.version) seen) in
    record { known_grid = subst IsGrid same (version_has_grid c.args.self.now.head.version); level_in_grid = omega (arith, ints, r.1.most, same); column = omega (arith, ints, r.2.most); row = omega (arith, ints, r.3.most) }

pub returns-clause-parent : goal.returns-clause-parent
returns-clause-parent c =
    let seen = c.stored.view_is ∙ c.self.view_is in
    let is = subst IsStored seen c.stored.invariant in
    let whole = subst IsCertificate c.self.view_is c.self.invariant in
    (node_range c.args.self.now is whole c.args.n c.stored.inside.nodes.items c.index-node.result.now (sym (ap (λ (s : Certificate). s.nodes) seen)) c.requires c.index-node.ensures).0
