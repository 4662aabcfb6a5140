use Rattle.std.proofs.Common.{inr, refl}
use Rattle.fmm_program.proofs.FlushedEnds.{plain}
use Rattle.fmm_program.specs.declared.status.Status.TheVariants.{Rejected}
use Rattle.fmm_program.proofs.refusals.reject.Goals as goal

pub returns-in-Err-clause-ends : goal.returns-in-Err-clause-ends
returns-in-Err-clause-ends g c = (Rejected, plain c.args.line.now, (refl, refl, refl), inr (tt, c.in-Err.ensures.bytes))

pub returns-in-Ok-clause-ends : goal.returns-in-Ok-clause-ends
returns-in-Ok-clause-ends g c = (plain c.args.line.now, (refl, refl, refl), c.in-Ok.ensures.bytes, tt)
