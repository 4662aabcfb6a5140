use Rattle.std.proofs.Common.{◌≡◌, ap, sym, subst, Err}
use Rattle.fmm_program.proofs.CheckRuns.{long_run, told_bytes, whole_points}
use Rattle.fmm_program.specs.CheckRuns.{HasNoPoints}
use Rattle.fmm_program.specs.Endings.{flow}
use Rattle.fmm_program.proofs.checks.check_file.Goals as goal

pub returns-in-Ok-clause-run : goal.returns-in-Ok-clause-run
returns-in-Ok-clause-run g c =
    whole_points _ _ _ _ _ c.answer_input.result (flow (g.O.Sink.held c.args.out.now) (g.O.Sink.held c.answer_input.new.out) (g.O.Sink.faults c.args.out.now) (g.O.Sink.faults c.answer_input.new.out))
    c.in-Ok.bytes.items c.in-Ok.ensures.whole (rw c.deref.ensures.value at c.answer_input.ensures.run)

pub returns-in-Err-Long-clause-run : goal.returns-in-Err-Long-clause-run
returns-in-Err-Long-clause-run g c =
    let came = c.in-Err-Long.ensures.came in
    long_run _ _ _ _ _ _ _ c.refuse.result (flow (g.O.Sink.held c.args.out.now) (g.O.Sink.held c.refuse.new.out) (g.O.Sink.faults c.args.out.now) (g.O.Sink.faults c.refuse.new.out))
    came.0 came.1 (came.3.0 (ap Err c.in-Err-Long.field-0-is)) c.refuse.ensures.ends

pub returns-in-Ok-clause-in_turn : goal.returns-in-Ok-clause-in_turn
returns-in-Ok-clause-in_turn g c input e none =
    let same : c.in-Ok.bytes.items ≡ input = told_bytes _ _ _ _ c.in-Ok.ensures.whole e in
    c.answer_input.ensures.in_turn (rw c.deref.ensures.value (subst HasNoPoints (sym same) none))
