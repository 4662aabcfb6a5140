use Rattle.std.proofs.Common.{subst₂, sym}
use Rattle.std.specs.Prelude.{IsTrue, ◌↔◌}
use Rattle.certificate_rules.specs.LineRules.{IsFit}
use Rattle.certificate_lines.proofs.given.is_fit.Goals as goal

pub returns-in-V : goal.returns-in-V
returns-in-V c = subst₂ (λ cert letter. IsTrue c.is_pair.result ↔ IsFit c.args.given.now.points cert letter c.args.entry.b c.args.entry.c)
    c.cert.ensures.certificate (sym c.in-V.is) (c.is_pair.ensures c.args.given.now.points)
