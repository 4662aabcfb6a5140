use Rattle.std.proofs.Common.{ap₂, []}
use Rattle.fmm_program.proofs.CheckRuns.{faulty_points, none_came, second_any}
use Rattle.fmm_program.specs.Answers.{fault_line}
use Rattle.fmm_program.specs.Endings.{flow}
use Rattle.fmm_program.proofs.checks.answer_input.Goals as goal

pub returns-in-Err-Text-clause-run : goal.returns-in-Err-Text-clause-run
returns-in-Err-Text-clause-run g c =
    let out = flow (g.O.Sink.held c.args.out.now) (g.O.Sink.held c.refuse_text.new.out) (g.O.Sink.faults c.args.out.now) (g.O.Sink.faults c.refuse_text.new.out) in
    second_any c.args.bytes.now (g.B.Source.left c.args.cert_in.now) _ _ _ c.refuse_text.result out [] (none_came (g.B.Source.left c.args.cert_in.now))
    (λ text. faulty_points c.args.bytes.now text out c.refuse_text.result _ _ _ c.requires.length (rw c.in-Err-Text.field-0-is at c.in-Err-Text.ensures)
    (ap₂ fault_line c.in-Err-Text.line-is c.in-Err-Text.what-is) c.refuse_text.ensures.ends)
