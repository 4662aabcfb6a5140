use Rattle.std.proofs.Common.{subst}
use Rattle.std.specs.Prelude.{IsTrue, ◌↔◌}
use Rattle.certificate_rules.specs.LineRules.{NodeHolds}
use Rattle.certificate_lines.proofs.given.node_holds.Goals as goal

pub returns : goal.returns
returns c = subst (λ cert. IsTrue c.is_in_place.result ↔ NodeHolds c.args.given.now.points cert c.args.n) c.cert.ensures.certificate (c.is_in_place.ensures c.args.given.now.points)
