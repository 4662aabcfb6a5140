use Rattle.std.proofs.Common.{◌∙◌, sym}
use Rattle.certificate_check.proofs.FirstFailures.{inner_row_fails, leaf_row_fails}
use Rattle.certificate_check.proofs.checking.check_multipoles.Goals as goal

pub returns-then-is_leaf-clause-some : goal.returns-then-is_leaf-clause-some
returns-then-is_leaf-clause-some g c =
    rw (c.no_at.ensures, c.cert-cert.ensures.certificate)
    (leaf_row_fails c.args.given.now c.cert-cert.ensures.head c.requires.nodes c.requires.points c.in_ok-n.n (sym c.is_leaf.ensures ∙ c.if-is_leaf.true) c.in_ok-n.ensures.some)

pub returns-clause-some : goal.returns-clause-some
returns-clause-some g c =
    rw (c.no_at-2.ensures, c.cert-cert.ensures.certificate)
    (inner_row_fails c.args.given.now c.cert-cert.ensures.head c.requires.nodes c.requires.points c.in_ok-n.n (sym c.is_leaf.ensures ∙ c.if-is_leaf.false) c.in_ok-n.ensures.some)
