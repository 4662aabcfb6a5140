use Rattle.std.proofs.Common.{ap₂}
use Rattle.fmm_program.specs.Answers.{fault_line}
use Rattle.fmm_program.proofs.SolveRuns.{fault_ends}
use Rattle.fmm_program.proofs.solve.answer_text.Goals as goal

pub returns-in-Err-Text-clause-ends : goal.returns-in-Err-Text-clause-ends
returns-in-Err-Text-clause-ends g c =
    fault_ends c.args.order c.args.cap _ _ _ _ c.refuse_text.result _ _ _ c.requires.length (rw c.in-Err-Text.field-0-is at c.in-Err-Text.ensures)
    (ap₂ fault_line c.in-Err-Text.line-is c.in-Err-Text.what-is) c.refuse_text.ensures.ends
