use Rattle.fmm_program.proofs.refusals.reject_text.Goals as goal

pub returns-clause-ends : goal.returns-clause-ends
returns-clause-ends g c = rw (c.as_bytes.ensures, c.fault_rejected_text.ensures) at c.reject.ensures.ends
