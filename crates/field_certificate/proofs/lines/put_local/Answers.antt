use Rattle.std.proofs.Common.{◌∙◌, ◌∷◌, [], List, ℕ, ap, subst}
use Rattle.std.proofs.lemmas.Int.{to_z-of_z}
use Rattle.std.specs.Int.{w128}
use Rattle.accounting_text.specs.Written.{row_ends}
use Rattle.field_certificate.proofs.Texts.{numbers_before-feed}
use Rattle.field_certificate.specs.Private.{numbers_before}
use Rattle.io_ports.specs.Bytes.{Writes}
use Rattle.row_recursions.specs.Rows.{row_of}
use Rattle.field_certificate.proofs.lines.put_local.Goals as goal

pub returns-in-Some-clause-bytes : goal.returns-in-Some-clause-bytes
returns-in-Some-clause-bytes g c =
    let zs = row_ends g.row.P (row_of c.in-Some.row.cells.now) in
    let row = c.prepend_row.ensures.text ∙ ap (numbers_before zs) c.empty_line-line.ensures ∙ numbers_before-feed zs in
    let number = rw (to_z-of_z w128 c.args.radius c.ranges.radius) at c.prepend_number.ensures.text in
    rw c.in-Some.is
    (subst (λ (t : List ℕ). Writes c.put.result (g.S.Sink.held c.args.sink.now) (g.S.Sink.held c.put.new.sink) t)
    (c.as_bytes.ensures ∙ c.prepend.ensures ∙ ap (λ t. 108 ∷ t) (number ∙ ap (numbers_before (c.args.radius ∷ [])) row))
    c.put.ensures.bytes)
