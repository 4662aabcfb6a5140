use Rattle.std.proofs.Common.{inr, refl}
use Rattle.fmm_program.specs.Answers.{usage_line}
use Rattle.fmm_program.proofs.FlushedEnds.{plain}
use Rattle.fmm_program.specs.declared.status.Status.TheVariants.{Usage}
use Rattle.fmm_program.proofs.refusals.refuse_words.Goals as goal

pub returns-in-Err-clause-ends : goal.returns-in-Err-clause-ends
returns-in-Err-clause-ends g c = (Usage, plain usage_line, (refl, refl, refl), inr (tt, c.in-Err.ensures.bytes))

pub returns-in-Ok-clause-ends : goal.returns-in-Ok-clause-ends
returns-in-Ok-clause-ends g c = (plain usage_line, (refl, refl, refl), c.in-Ok.ensures.bytes, tt)
