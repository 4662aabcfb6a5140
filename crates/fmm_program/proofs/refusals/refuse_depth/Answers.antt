use Rattle.std.proofs.Common.{refl, inl, inr, codes}
use Rattle.cell_name.specs.Cell.{square}
use Rattle.fmm_program.proofs.FlushedEnds.{IsEnding-line}
use Rattle.fmm_program.specs.Answers.{DepthAnswers, crowded_line}
use Rattle.fmm_program.specs.Endings.{flow, untold}
use Rattle.fmm_program.specs.declared.status.Status.TheVariants.{Refused}
use Rattle.fmm_program.proofs.refusals.refuse_depth.Goals as goal

pub returns-in-Crowded-clause-ends : goal.returns-in-Crowded-clause-ends
returns-in-Crowded-clause-ends g c points cap h =
    let first = rw c.in-Crowded.is at h in
    IsEnding-line (DepthAnswers points cap) Refused (crowded_line (square c.in-Crowded.cell) c.in-Crowded.count)
    (inl (square c.in-Crowded.cell, c.in-Crowded.count, first, refl), refl)
    (flow (g.O.Sink.held c.args.out.now) (g.O.Sink.held c.refuse.new.out) (g.O.Sink.faults c.args.out.now) (g.O.Sink.faults c.refuse.new.out)) untold c.refuse.result (rw (c.as_bytes.ensures, c.crowded_text.ensures) at c.refuse.ensures.ends)

pub returns-in-Cells-clause-ends : goal.returns-in-Cells-clause-ends
returns-in-Cells-clause-ends g c points cap h =
    let too_many = rw c.in-Cells.is at h in
    IsEnding-line (DepthAnswers points cap) Refused (codes "refused depth cells\n") (inr (too_many, refl), refl)
    (flow (g.O.Sink.held c.args.out.now) (g.O.Sink.held c.refuse-in-Cells.new.out) (g.O.Sink.faults c.args.out.now) (g.O.Sink.faults c.refuse-in-Cells.new.out)) untold c.refuse-in-Cells.result c.refuse-in-Cells.ensures.ends
