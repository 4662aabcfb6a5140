use Rattle.std.proofs.Common.{arith}
use Rattle.certificate_rows.proofs.LocalRules.{parent_in_range}
use Rattle.certificate_rows.proofs.radius.radius_above.Goals as goal

pub radius_at-requires : goal.radius_at-requires
radius_at-requires c =
    parent_in_range c.args.given.now c.certificate-cert.ensures.over c.args.n (omega arith) c.requires c.certificate-cert.result.now c.node_at-parent.result.0 c.certificate-cert.ensures.certificate c.node_at-parent.ensures.parent
