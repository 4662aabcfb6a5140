use Rattle.std.proofs.Common.{◌∙◌, ◌^◌, ap, sym, subst, to_z-of_z}
use Rattle.accounting_text.specs.Given.{given_cell}
use Rattle.cell_name.specs.Square.{Square, side}
use Rattle.cert_text.specs.Certificate.{Certificate, IsCertificate, nth_box, nth_line}
use Rattle.certificate_nodes.specs.Presented.{accounting_of}
use Rattle.complex_box.proofs.Sizes.{zero_within}
use Rattle.exact_math.specs.Gaussian.{gaussian}
use Rattle.row_recursions.specs.Rows.{multipole_value}
use Rattle.soundness.specs.Squares.{IsFarFrom, offset}
use Rattle.certificate_targets.proofs.Parts.{value_of_other, value_of_w}
use Rattle.certificate_targets.proofs.far.entry_value.Goals as goal

pub row_value-requires-clause-certificate : goal.row_value-requires-clause-certificate
row_value-requires-clause-certificate g c = subst IsCertificate (sym c.cert.ensures.certificate) c.requires.presented.certificate

pub row_value-requires-clause-far : goal.row_value-requires-clause-far
row_value-requires-clause-far g c =
    let x = c.ranges.x in
    let y = c.ranges.y in
    simp to_z-of_z (subst (λ (q : Certificate). IsFarFrom (given_cell q.head.version (nth_line q.nodes c.args.entry.c)) (gaussian c.args.x c.args.y)) (sym c.cert.ensures.certificate) (c.requires.far c.in-W.is))

pub returns-in-W-clause-ends : goal.returns-in-W-clause-ends
returns-in-W-clause-ends g c =
    let x = c.ranges.x in
    let y = c.ranges.y in
    let e = simp to_z-of_z at c.row_value.ensures.ends in
    let n = c.args.entry.c in
    let t = gaussian c.args.x c.args.y in
    e ∙ ap (λ (q : Certificate). let s : Square = given_cell q.head.version (nth_line q.nodes n) in multipole_value g.row.P (nth_box (nth_line q.multipoles n).numbers) (side s) (offset s t)) c.cert.ensures.certificate
    ∙ sym (value_of_w (accounting_of c.args.given.now) c.args.entry g.row.P t c.in-W.is)

pub returns-in-U : goal.returns-in-U
returns-in-U g c = record {
  ends = c.zero.ensures.ends ∙ sym (value_of_other (accounting_of c.args.given.now) c.args.entry g.row.P (gaussian c.args.x c.args.y) c.in-U.is);
  size = rw c.zero.ensures.ends (zero_within (2 ^ 85));
}
