use Rattle.fmm_program.proofs.SolveRuns.{depth_ends}
use Rattle.fmm_program.proofs.solve.answer_points.Goals as goal

pub returns-in-Ok-clause-ends : goal.returns-in-Ok-clause-ends
returns-in-Ok-clause-ends g c input read = c.answer_field.ensures.ends input read c.in-Ok.ensures.has_tree

pub returns-clause-ends : goal.returns-clause-ends
returns-clause-ends g c input read =
    depth_ends g.row.P c.args.cap input _ _ _ c.refuse_depth.result c.args.points.now read c.requires.order.most (c.refuse_depth.ensures.ends c.args.points.now c.args.cap c.in-Err.ensures.fault)
