use Rattle.std.proofs.Common.{◌≡◌, ◌∙◌, ap, arith, Err, sym}
use Rattle.limits.specs.Limits.{grid_of, most_certificate}
use Rattle.fmm_program.proofs.CheckRuns.{second_long, second_whole}
use Rattle.fmm_program.specs.Endings.{flow}
use Rattle.fmm_program.proofs.checks.answer_points.Goals as goal

pub returns-in-Ok-clause-run : goal.returns-in-Ok-clause-run
returns-in-Ok-clause-run g c input read =
    let most : c.most_certificate.result ≡ most_certificate (grid_of c.args.points.now.version) = c.most_certificate.ensures ∙ ap most_certificate c.grid_of.ensures in
    second_whole input _ _ _ _ c.answer_text.result (flow (g.O.Sink.held c.args.out.now) (g.O.Sink.held c.answer_text.new.out) (g.O.Sink.faults c.args.out.now) (g.O.Sink.faults c.answer_text.new.out))
    c.in-Ok.text.items c.in-Ok.ensures.whole
    (rw c.deref.ensures.value at (c.answer_text.ensures.ends input (record { read = read; short = rw c.deref.ensures.value (omega (arith, most, c.in-Ok.ensures.within)) })))

pub returns-in-Err-Long-clause-run : goal.returns-in-Err-Long-clause-run
returns-in-Err-Long-clause-run g c input read =
    let most : c.most_certificate.result ≡ most_certificate (grid_of c.args.points.now.version) = c.most_certificate.ensures ∙ ap most_certificate c.grid_of.ensures in
    let came = c.in-Err-Long.ensures.came in
    let longer = came.3.0 (ap Err c.in-Err-Long.field-0-is) in
    second_long input _ _ _ _ c.refuse.result (flow (g.O.Sink.held c.args.out.now) (g.O.Sink.held c.refuse.new.out) (g.O.Sink.faults c.args.out.now) (g.O.Sink.faults c.refuse.new.out))
    c.args.points.now read came.0 came.1 (omega (arith, most, longer)) c.refuse.ensures.ends
