use Rattle.std.proofs.Common.{◌∙◌, ap, arith}
use Rattle.limits.specs.Limits.{grid_of}
use Rattle.fmm_program.proofs.SampleRuns.{depth_ends}
use Rattle.fmm_program.proofs.samples.summarize.Goals as goal

pub returns-in-Ok-clause-ends : goal.returns-in-Ok-clause-ends
returns-in-Ok-clause-ends g c n e = c.summarize_field.ensures.ends n e c.in-Ok.ensures.has_tree

pub returns-clause-ends : goal.returns-clause-ends
returns-clause-ends g c n e =
    depth_ends c.args.seed n g.row.P c.args.cap _ c.refuse_depth.result c.args.points.now e (c.refuse_depth.ensures.ends c.args.points.now c.args.cap c.in-Err.ensures.fault)

pub summarize_field-requires : goal.summarize_field-requires
summarize_field-requires g c = (omega arith, (c.requires.list, (c.in-Ok.ensures.field, c.in-Ok.ensures.grid ∙ ap grid_of c.requires.version)))
