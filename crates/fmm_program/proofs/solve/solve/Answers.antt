use Rattle.std.proofs.Common.{ap, sym, Err}
use Rattle.fmm_program.proofs.SolveRuns.{long_run, whole_run}
use Rattle.fmm_program.specs.Endings.{flow}
use Rattle.fmm_program.proofs.solve.solve.Goals as goal

pub returns-in-Ok-clause-run : goal.returns-in-Ok-clause-run
returns-in-Ok-clause-run g c =
    whole_run c.args.order c.args.cap _ _ _ _ c.answer_text.result (flow (g.O.Sink.held c.args.out.now) (g.O.Sink.held c.answer_text.new.out) (g.O.Sink.faults c.args.out.now) (g.O.Sink.faults c.answer_text.new.out))
    (flow (g.C.Sink.held c.args.cert_out.now) (g.C.Sink.held c.answer_text.new.cert_out) (g.C.Sink.faults c.args.cert_out.now) (g.C.Sink.faults c.answer_text.new.cert_out)) c.in-Ok.bytes.items c.in-Ok.ensures.whole (rw (sym c.deref.ensures.value) c.answer_text.ensures.ends)
    c.answer_text.ensures.read c.answer_text.ensures.write.failed

pub returns-in-Err-Long-clause-run : goal.returns-in-Err-Long-clause-run
returns-in-Err-Long-clause-run g c =
    let came = c.in-Err-Long.ensures.came in
    long_run c.args.order c.args.cap _ _ _ _ c.refuse.result (flow (g.O.Sink.held c.args.out.now) (g.O.Sink.held c.refuse.new.out) (g.O.Sink.faults c.args.out.now) (g.O.Sink.faults c.refuse.new.out))
    (g.C.Sink.held c.args.cert_out.now) (g.C.Sink.faults c.args.cert_out.now) came.0 came.1 (came.3.0 (ap Err c.in-Err-Long.field-0-is)) c.refuse.ensures.ends c.refuse.ensures.only c.refuse.ensures.write.failed
