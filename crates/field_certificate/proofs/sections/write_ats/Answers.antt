use Rattle.std.proofs.Common.{◌∙◌, ap, subst, arith}
use Rattle.std.specs.Io.KnownBytes.{Appends}
use Rattle.field_report.proofs.Pieces.{Writes-failed}
use Rattle.field_certificate.proofs.LoopTexts.{texts-exit, texts-step}
use Rattle.field_certificate.specs.ProgramLines.{at_text}
use Rattle.io_ports.specs.Bytes.{AppendsPrefix}
use Rattle.accounting_text.specs.Written.{at_line}
use Rattle.cert_text.specs.Lines.{line_bytes}
use Rattle.field_certificate.proofs.sections.write_ats.Goals as goal

pub returns-in_err-put_at-clause-bytes : goal.returns-in_err-put_at-clause-bytes
returns-in_err-put_at-clause-bytes g c =
    let line = ap (λ n. line_bytes (at_line n)) c.leaf_of.ensures in
    Writes-failed _ c.from_residual.result _ _ _ c.from_residual.ensures.1
    (texts-exit (at_text c.args.tree.now) c.loop-k.k _ (omega arith) _ _ _ c.loop-k.invariant.held (subst (AppendsPrefix _ _) line c.in_err-put_at.ensures.bytes))

pub loop-k-preserved : goal.loop-k-preserved
loop-k-preserved g c =
    let line = ap (λ n. line_bytes (at_line n)) c.leaf_of.ensures in
    record {
      held = texts-step (at_text c.args.tree.now) c.loop-k.k _ _ _ c.loop-k.invariant.held (subst (Appends _ _) line c.in_ok-put_at.ensures.bytes);
      faults = c.in_ok-put_at.ensures.cause.passed ∙ c.loop-k.invariant.faults;
    }
