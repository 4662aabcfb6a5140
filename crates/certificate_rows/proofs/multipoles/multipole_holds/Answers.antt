use Rattle.std.proofs.Common.{◌≡◌, ap, sym, subst, arith, IsTrue}
use Rattle.std.specs.Prelude.{◌↔◌}
use Rattle.row_recursions.specs.Rows.{row_of}
use Rattle.soundness.specs.Rules.{RowInside}
use Rattle.certificate_nodes.specs.Presented.{accounting_of}
use Rattle.certificate_rows.specs.Given.{multipole_at}
use Rattle.certificate_rows.specs.Computed.{computed_multipole}
use Rattle.certificate_rows.proofs.MultipoleRules.{BothHold, rule_is, inside_same}
use Rattle.certificate_rows.proofs.Orders.{order_small}
use Rattle.certificate_rows.proofs.multipoles.multipole_holds.Goals as goal

pub whole_as_slice-computed_row : goal.whole_as_slice-computed_row
whole_as_slice-computed_row g c = omega (arith, order_small c.args.given.now.certificate c.certificate-cert.ensures.over.is_certificate, c.requires.order)

pub returns : goal.returns
returns g c =
    let P = g.row.P in
    let A = accounting_of c.args.given.now in
    let n = c.args.n in
    let same : multipole_at c.certificate-cert.result.now n ≡ A.multipole n = ap (λ d. multipole_at d n) c.certificate-cert.ensures.certificate in
    let lies : IsTrue c.lies_in_given.result ↔ RowInside P (row_of c.computed_row.new.row) (A.multipole n) = subst (λ m. IsTrue c.lies_in_given.result ↔ RowInside P (row_of c.computed_row.new.row) m) same c.lies_in_given.ensures in
    let inside = inside_same P (computed_multipole A n) (row_of c.computed_row.new.row) (A.multipole n) c.computed_row.ensures.row in
    let rule : RowInside P (computed_multipole A n) (A.multipole n) ↔ BothHold c.args.given.now.certificate.head.order A n =
    subst (λ order. RowInside P (computed_multipole A n) (A.multipole n) ↔ BothHold order A n) (sym c.requires.order) (rule_is P A n) in
    (λ t. rule.0 (inside.0 (lies.0 t)), λ h. lies.1 (inside.1 (rule.1 h)))
