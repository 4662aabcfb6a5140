use Rattle.std.proofs.Common.{◌∙◌, refl}
use Rattle.certificate_rules.specs.Verdicts.{HoldEverywhere}
use Rattle.fmm_program.proofs.CheckRuns.{accepted, rejected}
use Rattle.fmm_program.proofs.checks.answer_verdict.Goals as goal

pub returns-in-Yes-clause-ends : goal.returns-in-Yes-clause-ends
returns-in-Yes-clause-ends g c input text are spelled =
    let hold : HoldEverywhere c.args.points.now c.args.cert.now = rw c.in-Yes.is at c.requires.verdict in
    accepted input text _ c.accept.result c.args.points.now are c.args.cert.now spelled c.targets.result hold (c.targets.ensures ∙ (hold 1 8 refl).target_count) c.accept.ensures.ends

pub returns-in-No-clause-ends : goal.returns-in-No-clause-ends
returns-in-No-clause-ends g c input text are spelled =
    rejected input text _ c.reject_rule.result c.args.points.now are c.args.cert.now spelled c.in-No.rule c.in-No.line (rw c.in-No.is at c.requires.verdict) c.reject_rule.ensures.ends
