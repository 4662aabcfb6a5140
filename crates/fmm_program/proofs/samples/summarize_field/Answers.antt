use Rattle.fmm_program.proofs.SampleRuns.{part_ends, summary_ends}
use Rattle.fmm_program.proofs.samples.summarize_field.Goals as goal

pub returns-in-Ok-clause-ends : goal.returns-in-Ok-clause-ends
returns-in-Ok-clause-ends g c n e has = summary_ends c.args.seed n g.row.P c.args.cap _ _ c.args.points.now e c.requires.list has c.in-Ok.ensures.bytes

pub returns-in-Err-clause-ends : goal.returns-in-Err-clause-ends
returns-in-Err-clause-ends g c n e has = part_ends c.args.seed n g.row.P c.args.cap _ _ c.args.points.now e c.requires.list has c.in-Err.ensures.bytes
