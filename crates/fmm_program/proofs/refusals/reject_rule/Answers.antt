use Rattle.fmm_program.proofs.refusals.reject_rule.Goals as goal

pub returns-clause-ends : goal.returns-clause-ends
returns-clause-ends g c = rw (c.as_bytes.ensures, c.rule_rejected_text.ensures) at c.reject.ensures.ends
