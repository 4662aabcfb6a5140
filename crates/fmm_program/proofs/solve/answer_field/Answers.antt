use Rattle.std.proofs.Common.{refl}
use Rattle.fmm_program.proofs.SolveRuns.{cut_ends, part_ends, report_ends}
use Rattle.fmm_program.proofs.solve.answer_field.Goals as goal

pub returns-in-Err-clause-ends : goal.returns-in-Err-clause-ends
returns-in-Err-clause-ends g c input read has =
    cut_ends g.row.P c.args.cap input c.args.points.now read c.requires.order.most has _ _ _ _ c.args.field.now.basis.cap c.requires.solved.cap_is c.in-Err.ensures.bytes refl

pub returns-in-Ok-write_report-clause-ends : goal.returns-in-Ok-write_report-clause-ends
returns-in-Ok-write_report-clause-ends g c input read has =
    report_ends g.row.P c.args.cap input c.args.points.now read c.requires.order.most has _ _ _ _ c.args.field.now.basis.cap c.requires.solved.cap_is c.in-Ok.ensures.bytes c.in-Ok-write_report.ensures.bytes

pub returns-in-Err-write_report-clause-ends : goal.returns-in-Err-write_report-clause-ends
returns-in-Err-write_report-clause-ends g c input read has =
    part_ends g.row.P c.args.cap input c.args.points.now read c.requires.order.most has _ _ _ _ c.args.field.now.basis.cap c.requires.solved.cap_is c.in-Ok.ensures.bytes c.in-Err-write_report.ensures.bytes
