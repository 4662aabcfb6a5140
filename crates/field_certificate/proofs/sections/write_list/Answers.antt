use Rattle.std.proofs.Common.{arith}
use Rattle.accounting_text.specs.Written.{entry_line}
use Rattle.cert_text.specs.Lines.{line_bytes}
use Rattle.field_report.proofs.Pieces.{Writes-failed}
use Rattle.field_certificate.proofs.LoopTexts.{list-exit}
use Rattle.field_certificate.specs.ProgramLines.{listed_entry}
use Rattle.field_certificate.proofs.sections.write_list.Goals as goal

pub returns-in_err-put_entry-clause-bytes : goal.returns-in_err-put_entry-clause-bytes
returns-in_err-put_entry-clause-bytes g c =
    Writes-failed _ c.from_residual.result _ _ _ c.from_residual.ensures.1
    (list-exit (λ n. line_bytes (entry_line (listed_entry c.args.letter c.args.b n))) c.args.cells.now c.loop-c.c-index 0 (omega arith) _ _ _ c.loop-c.invariant.held c.in_err-put_entry.ensures.bytes)
