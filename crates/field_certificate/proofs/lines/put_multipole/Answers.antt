use Rattle.std.proofs.Common.{◌∙◌, ◌∷◌, List, ℕ, ap, subst}
use Rattle.accounting_text.specs.Written.{row_ends}
use Rattle.field_certificate.proofs.Texts.{numbers_before-feed}
use Rattle.field_certificate.specs.Private.{numbers_before}
use Rattle.io_ports.specs.Bytes.{Writes}
use Rattle.row_recursions.specs.Rows.{row_of}
use Rattle.field_certificate.proofs.lines.put_multipole.Goals as goal

pub returns-in-Some-clause-bytes : goal.returns-in-Some-clause-bytes
returns-in-Some-clause-bytes g c =
    let zs = row_ends g.row.P (row_of c.in-Some.row.cells.now) in
    rw c.in-Some.is
    (subst (λ (t : List ℕ). Writes c.put.result (g.S.Sink.held c.args.sink.now) (g.S.Sink.held c.put.new.sink) t)
    (c.as_bytes.ensures ∙ c.prepend.ensures ∙ ap (λ t. 109 ∷ t) (c.prepend_row.ensures.text ∙ ap (numbers_before zs) c.empty_line-line.ensures ∙ numbers_before-feed zs))
    c.put.ensures.bytes)
