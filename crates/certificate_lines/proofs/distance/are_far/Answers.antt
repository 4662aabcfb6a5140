use Rattle.std.proofs.Common.{arith, take_all, subst, refl}
use Rattle.std.specs.Prelude.{All}
use Rattle.std.proofs.lemmas.List.Elements.{All-more}
use Rattle.cell_name.specs.Cell.{square}
use Rattle.points.specs.Points.{place}
use Rattle.soundness.specs.Squares.{IsFarFrom}
use Rattle.certificate_lines.proofs.Lines.{no_point}
use Rattle.certificate_lines.proofs.distance.are_far.Goals as goal

pub loop-p-preserved : goal.loop-p-preserved
loop-p-preserved c = All-more (λ p. IsFarFrom (square c.args.cell) (place p)) c.args.points.now c.loop-p.p-index no_point c.loop-p-test.true c.loop-p.invariant (c.if-not-is_far.ensures.0 refl)

pub returns : goal.returns
returns c =
    let past = c.loop-p-test.false in
    (λ yes. subst (All (λ p. IsFarFrom (square c.args.cell) (place p))) (take_all c.loop-p.p-index c.args.points.now (omega arith)) c.loop-p.invariant, λ all. refl)
