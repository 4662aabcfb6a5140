use Rattle.std.proofs.Common.{◌∙◌, ap, subst, arith}
use Rattle.std.specs.Io.KnownBytes.{Appends}
use Rattle.field_report.proofs.Pieces.{Writes-failed}
use Rattle.field_certificate.proofs.LoopTexts.{texts-exit, texts-step}
use Rattle.field_certificate.specs.ProgramLines.{box_text}
use Rattle.io_ports.specs.Bytes.{AppendsPrefix}
use Rattle.accounting_text.specs.Written.{given_target_line}
use Rattle.cert_text.specs.Lines.{line_bytes}
use Rattle.complex_box.specs.Box.{box_ends}
use Rattle.field_certificate.proofs.sections.write_targets.Goals as goal

pub returns-in_err-put_target-clause-bytes : goal.returns-in_err-put_target-clause-bytes
returns-in_err-put_target-clause-bytes g c =
    let line = ap (λ v. line_bytes (given_target_line (box_ends v))) c.value.ensures.value in
    Writes-failed _ c.from_residual.result _ _ _ c.from_residual.ensures.1
    (texts-exit (box_text c.args.field.now.values) c.loop-k.k _ (omega arith) _ _ _ c.loop-k.invariant.held (subst (AppendsPrefix _ _) line c.in_err-put_target.ensures.bytes))

pub loop-k-preserved : goal.loop-k-preserved
loop-k-preserved g c =
    let line = ap (λ v. line_bytes (given_target_line (box_ends v))) c.value.ensures.value in
    record {
      held = texts-step (box_text c.args.field.now.values) c.loop-k.k _ _ _ c.loop-k.invariant.held (subst (Appends _ _) line c.in_ok-put_target.ensures.bytes);
      faults = c.in_ok-put_target.ensures.cause.passed ∙ c.loop-k.invariant.faults;
    }
