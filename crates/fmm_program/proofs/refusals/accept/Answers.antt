use Rattle.std.proofs.Common.{inr, refl}
use Rattle.fmm_program.specs.CheckAnswers.{accepted_line}
use Rattle.fmm_program.proofs.FlushedEnds.{plain}
use Rattle.fmm_program.specs.declared.status.Status.TheVariants.{Done}
use Rattle.fmm_program.proofs.refusals.accept.Goals as goal

pub returns-in-Err-clause-ends : goal.returns-in-Err-clause-ends
returns-in-Err-clause-ends g c = (Done, plain (accepted_line c.args.targets), (refl, refl, refl), inr (tt, rw (c.as_bytes.ensures, c.accepted_text.ensures) at c.in-Err.ensures.bytes))

pub returns-in-Ok-clause-ends : goal.returns-in-Ok-clause-ends
returns-in-Ok-clause-ends g c = (plain (accepted_line c.args.targets), (refl, refl, refl), rw (c.as_bytes.ensures, c.accepted_text.ensures) at c.in-Ok.ensures.bytes, tt)
