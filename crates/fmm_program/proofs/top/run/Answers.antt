use Rattle.std.proofs.Common.{ap, arith, inl, []}
use Rattle.fmm_program.specs.Forms.{IsCheck, IsSolve}
use Rattle.fmm_program.specs.Samples.{IsSample}
use Rattle.fmm_program.specs.declared.status.Status.TheVariants.{Done, Usage, ReadFault, Rejected}
use Rattle.fmm_program.proofs.Certified.{certified_flushed}
use Rattle.fmm_program.proofs.CheckComplete.{checked}
use Rattle.fmm_program.proofs.CheckRuns.{check_is_no_usage, flushed_check, none_came}
use Rattle.fmm_program.proofs.Complete.{solve_is_no_usage, solve_rejects_none}
use Rattle.fmm_program.proofs.FlushedEnds.{flushed_both, flushed_from, flushed_tells, tell_both}
use Rattle.fmm_program.proofs.SampleRuns.{flushed_sample, sample_is_no_usage, sample_rejects_none}
use Rattle.fmm_program.proofs.SolveRuns.{flushed_run}
use Rattle.fmm_program.proofs.UsageRuns.{flushed_usage}
use Rattle.fmm_program.proofs.WordForms.{check_is_no_sample, check_is_no_solve, one_capacity, one_count, one_order, one_sample_capacity, one_sample_order, one_seed, sample_is_no_solve}
use Rattle.fmm_program.proofs.top.run.Goals as goal

pub returns-in-Some-Solve-clause-solve : goal.returns-in-Some-Solve-clause-solve
returns-in-Some-Solve-clause-solve g c order cap file form =
    let asked : IsSolve c.args.words.now c.in-Some-Solve.command.order c.in-Some-Solve.command.cap c.in-Some-Solve.command.file.now = (rw c.in-Some-Solve.field-0-is at c.in-Some-Solve.ensures.some).0 in
    let run = rw (one_order _ _ _ _ _ _ _ asked form, one_capacity _ _ _ _ _ _ _ asked form) at c.solve-status.ensures.run in
    let f = c.flushed.ensures in
    let tells = flushed_both c.solve-status.result c.flushed.result f.stays _ _ (g.O.Sink.held c.flushed.new.out) _ _ _ _ f.later f.failed f.passed c.solve-status.ensures.write in
    flushed_run order cap _ _ _ _ _ _ _ f.kept _ _ _ _ c.solve-status.result c.flushed.result f.stays (λ h. ((f.silent h).0, ap g.O.Sink.held (f.silent h).1)) run
    (λ e. c.solve-status.ensures.read (flushed_from c.solve-status.result c.flushed.result f.stays ReadFault (λ h. cc) e)) tells.failed

pub returns-in-Some-Solve-clause-certified : goal.returns-in-Some-Solve-clause-certified
returns-in-Some-Solve-clause-certified g c order cap file form done =
    let asked : IsSolve c.args.words.now c.in-Some-Solve.command.order c.in-Some-Solve.command.cap c.in-Some-Solve.command.file.now = (rw c.in-Some-Solve.field-0-is at c.in-Some-Solve.ensures.some).0 in
    let run = rw (one_order _ _ _ _ _ _ _ asked form, one_capacity _ _ _ _ _ _ _ asked form) at c.solve-status.ensures.run in
    let f = c.flushed.ensures in
    let carried_out = flushed_from c.solve-status.result c.flushed.result f.stays Done (λ h. cc) done in
    certified_flushed order cap _ _ _ _ _ _ _ _ f.kept _ _ _ c.solve-status.result form.is_order carried_out (c.solve-status.ensures.whole carried_out) run

pub returns-in-Some-Solve-clause-usage : goal.returns-in-Some-Solve-clause-usage
returns-in-Some-Solve-clause-usage g c form =
    let asked : IsSolve c.args.words.now c.in-Some-Solve.command.order c.in-Some-Solve.command.cap c.in-Some-Solve.command.file.now = (rw c.in-Some-Solve.field-0-is at c.in-Some-Solve.ensures.some).0 in
    absurd (form.0 _ _ _ asked)

pub returns-in-Some-Solve-clause-usage_only : goal.returns-in-Some-Solve-clause-usage_only
returns-in-Some-Solve-clause-usage_only g c e =
    let f = c.flushed.ensures in
    let came = c.solve-status.ensures.run.came in
    absurd (solve_is_no_usage _ _ came.0 _ _ c.solve-status.result came.2 (flushed_from c.solve-status.result c.flushed.result f.stays Usage (λ h. cc) e))

pub returns-in-Some-Solve-clause-rejected : goal.returns-in-Some-Solve-clause-rejected
returns-in-Some-Solve-clause-rejected g c none e =
    let f = c.flushed.ensures in
    let came = c.solve-status.ensures.run.came in
    solve_rejects_none _ _ came.0 _ _ c.solve-status.result came.2 (flushed_from c.solve-status.result c.flushed.result f.stays Rejected (λ h. cc) e)

pub returns-in-Some-Solve-clause-read : goal.returns-in-Some-Solve-clause-read
returns-in-Some-Solve-clause-read g c e = inl (c.solve-status.ensures.read (flushed_from c.solve-status.result c.flushed.result c.flushed.ensures.stays ReadFault (λ h. cc) e))

pub returns-in-Some-Solve-clause-write : goal.returns-in-Some-Solve-clause-write
returns-in-Some-Solve-clause-write g c =
    let f = c.flushed.ensures in
    flushed_both c.solve-status.result c.flushed.result f.stays _ _ (g.O.Sink.held c.flushed.new.out) _ _ _ _ f.later f.failed f.passed c.solve-status.ensures.write

pub returns-in-Some-Solve-clause-unread : goal.returns-in-Some-Solve-clause-unread
returns-in-Some-Solve-clause-unread g c none no_check =
    let asked : IsSolve c.args.words.now c.in-Some-Solve.command.order c.in-Some-Solve.command.cap c.in-Some-Solve.command.file.now = (rw c.in-Some-Solve.field-0-is at c.in-Some-Solve.ensures.some).0 in
    absurd (none _ _ _ asked)

pub returns-in-Some-Solve-clause-taken : goal.returns-in-Some-Solve-clause-taken
returns-in-Some-Solve-clause-taken g c =
    let t = c.solve-status.ensures.taken in
    (t.0, t.1, t.2, λ e. t.3 (flushed_from c.solve-status.result c.flushed.result c.flushed.ensures.stays ReadFault (λ h. cc) e))

pub returns-in-Some-Sample-clause-sample : goal.returns-in-Some-Sample-clause-sample
returns-in-Some-Sample-clause-sample g c seed n order cap form =
    let asked : IsSample c.args.words.now c.in-Some-Sample.command.seed c.in-Some-Sample.command.count c.in-Some-Sample.command.order c.in-Some-Sample.command.cap = (rw c.in-Some-Sample.field-0-is at c.in-Some-Sample.ensures.some).0 in
    let run = rw (one_seed _ _ _ _ _ _ _ _ _ asked form, one_count _ _ _ _ _ _ _ _ _ asked form, one_sample_order _ _ _ _ _ _ _ _ _ asked form, one_sample_capacity _ _ _ _ _ _ _ _ _ asked form) at c.sample.ensures.run in
    let f = c.flushed-in-Some-Sample.ensures in
    let tells = flushed_tells c.sample.result c.flushed-in-Some-Sample.result f.stays _ _ (g.O.Sink.held c.flushed-in-Some-Sample.new.out) _ _ _ f.later f.failed f.passed c.sample.ensures.write in
    flushed_sample seed n order cap _ _ _ _ f.kept _ _ _ _ c.sample.result c.flushed-in-Some-Sample.result f.stays (λ h. ((f.silent h).0, ap g.O.Sink.held (f.silent h).1)) run tells.failed

pub returns-in-Some-Sample-clause-solve : goal.returns-in-Some-Sample-clause-solve
returns-in-Some-Sample-clause-solve g c order cap file form =
    let asked : IsSample c.args.words.now c.in-Some-Sample.command.seed c.in-Some-Sample.command.count c.in-Some-Sample.command.order c.in-Some-Sample.command.cap = (rw c.in-Some-Sample.field-0-is at c.in-Some-Sample.ensures.some).0 in
    absurd (sample_is_no_solve _ _ _ _ _ asked order cap file form)

pub returns-in-Some-Sample-clause-certified : goal.returns-in-Some-Sample-clause-certified
returns-in-Some-Sample-clause-certified g c order cap file form done =
    let asked : IsSample c.args.words.now c.in-Some-Sample.command.seed c.in-Some-Sample.command.count c.in-Some-Sample.command.order c.in-Some-Sample.command.cap = (rw c.in-Some-Sample.field-0-is at c.in-Some-Sample.ensures.some).0 in
    absurd (sample_is_no_solve _ _ _ _ _ asked order cap file form)

pub returns-in-Some-Sample-clause-usage : goal.returns-in-Some-Sample-clause-usage
returns-in-Some-Sample-clause-usage g c form =
    let asked : IsSample c.args.words.now c.in-Some-Sample.command.seed c.in-Some-Sample.command.count c.in-Some-Sample.command.order c.in-Some-Sample.command.cap = (rw c.in-Some-Sample.field-0-is at c.in-Some-Sample.ensures.some).0 in
    absurd (form.2 _ _ _ _ asked)

pub returns-in-Some-Sample-clause-usage_only : goal.returns-in-Some-Sample-clause-usage_only
returns-in-Some-Sample-clause-usage_only g c e =
    absurd (sample_is_no_usage _ _ _ _ _ _ c.sample.result c.sample.ensures.run.ends (flushed_from c.sample.result c.flushed-in-Some-Sample.result c.flushed-in-Some-Sample.ensures.stays Usage (λ h. cc) e))

pub returns-in-Some-Sample-clause-rejected : goal.returns-in-Some-Sample-clause-rejected
returns-in-Some-Sample-clause-rejected g c none e =
    sample_rejects_none _ _ _ _ _ _ c.sample.result c.sample.ensures.run.ends (flushed_from c.sample.result c.flushed-in-Some-Sample.result c.flushed-in-Some-Sample.ensures.stays Rejected (λ h. cc) e)

pub returns-in-Some-Sample-clause-read : goal.returns-in-Some-Sample-clause-read
returns-in-Some-Sample-clause-read g c e = absurd (c.sample.ensures.run.no_read_fault (flushed_from c.sample.result c.flushed-in-Some-Sample.result c.flushed-in-Some-Sample.ensures.stays ReadFault (λ h. cc) e))

pub returns-in-Some-Sample-clause-write : goal.returns-in-Some-Sample-clause-write
returns-in-Some-Sample-clause-write g c =
    let f = c.flushed-in-Some-Sample.ensures in
    tell_both c.flushed-in-Some-Sample.result _ (g.C.Sink.held c.args.cert_out.now) (g.C.Sink.faults c.args.cert_out.now)
    (flushed_tells c.sample.result c.flushed-in-Some-Sample.result f.stays _ _ (g.O.Sink.held c.flushed-in-Some-Sample.new.out) _ _ _ f.later f.failed f.passed c.sample.ensures.write)

pub returns-in-None-clause-usage : goal.returns-in-None-clause-usage
returns-in-None-clause-usage g c form =
    let f = c.flushed-in-None.ensures in
    flushed_usage _ _ _ _ f.kept _ _ _ _ c.refuse_words.result c.flushed-in-None.result f.stays (λ h. ((f.silent h).0, ap g.O.Sink.held (f.silent h).1)) c.refuse_words.ensures.only c.refuse_words.ensures.ends

pub returns-in-None-clause-write : goal.returns-in-None-clause-write
returns-in-None-clause-write g c =
    let f = c.flushed-in-None.ensures in
    tell_both c.flushed-in-None.result _ (g.C.Sink.held c.args.cert_out.now) (g.C.Sink.faults c.args.cert_out.now)
    (flushed_tells c.refuse_words.result c.flushed-in-None.result f.stays _ _ (g.O.Sink.held c.flushed-in-None.new.out) _ _ _ f.later f.failed f.passed c.refuse_words.ensures.write)

pub returns-in-None-clause-solve : goal.returns-in-None-clause-solve
returns-in-None-clause-solve g c order cap file form = absurd (c.in-None.ensures.none.0 order cap file form)

pub returns-in-None-clause-certified : goal.returns-in-None-clause-certified
returns-in-None-clause-certified g c order cap file form done = absurd (c.in-None.ensures.none.0 order cap file form)

pub returns-in-None-clause-sample : goal.returns-in-None-clause-sample
returns-in-None-clause-sample g c seed n order cap form = absurd (c.in-None.ensures.none.2 seed n order cap form)

pub returns-in-Some-Solve-clause-uncertified : goal.returns-in-Some-Solve-clause-uncertified
returns-in-Some-Solve-clause-uncertified g c none =
    let asked : IsSolve c.args.words.now c.in-Some-Solve.command.order c.in-Some-Solve.command.cap c.in-Some-Solve.command.file.now = (rw c.in-Some-Solve.field-0-is at c.in-Some-Solve.ensures.some).0 in
    absurd (none _ _ _ asked)

-- ---- of `check`

pub returns-in-Some-Solve-clause-check : goal.returns-in-Some-Solve-clause-check
returns-in-Some-Solve-clause-check g c file form =
    let asked : IsSolve c.args.words.now c.in-Some-Solve.command.order c.in-Some-Solve.command.cap c.in-Some-Solve.command.file.now = (rw c.in-Some-Solve.field-0-is at c.in-Some-Solve.ensures.some).0 in
    absurd (check_is_no_solve _ _ form _ _ _ asked)

pub returns-in-Some-Solve-clause-checked : goal.returns-in-Some-Solve-clause-checked
returns-in-Some-Solve-clause-checked g c file form done =
    let asked : IsSolve c.args.words.now c.in-Some-Solve.command.order c.in-Some-Solve.command.cap c.in-Some-Solve.command.file.now = (rw c.in-Some-Solve.field-0-is at c.in-Some-Solve.ensures.some).0 in
    absurd (check_is_no_solve _ _ form _ _ _ asked)

pub returns-in-Some-Solve-clause-cert_taken : goal.returns-in-Some-Solve-clause-cert_taken
returns-in-Some-Solve-clause-cert_taken g c = ([], none_came (g.B.Source.left c.args.cert_in.now), omega arith, λ e. omega arith)

pub returns-in-Some-Sample-clause-check : goal.returns-in-Some-Sample-clause-check
returns-in-Some-Sample-clause-check g c file form =
    let asked : IsSample c.args.words.now c.in-Some-Sample.command.seed c.in-Some-Sample.command.count c.in-Some-Sample.command.order c.in-Some-Sample.command.cap = (rw c.in-Some-Sample.field-0-is at c.in-Some-Sample.ensures.some).0 in
    absurd (check_is_no_sample _ _ form _ _ _ _ asked)

pub returns-in-Some-Sample-clause-checked : goal.returns-in-Some-Sample-clause-checked
returns-in-Some-Sample-clause-checked g c file form done =
    let asked : IsSample c.args.words.now c.in-Some-Sample.command.seed c.in-Some-Sample.command.count c.in-Some-Sample.command.order c.in-Some-Sample.command.cap = (rw c.in-Some-Sample.field-0-is at c.in-Some-Sample.ensures.some).0 in
    absurd (check_is_no_sample _ _ form _ _ _ _ asked)

pub returns-in-Some-Sample-clause-cert_taken : goal.returns-in-Some-Sample-clause-cert_taken
returns-in-Some-Sample-clause-cert_taken g c = ([], none_came (g.B.Source.left c.args.cert_in.now), omega arith, λ e. omega arith)

pub returns-in-None-clause-check : goal.returns-in-None-clause-check
returns-in-None-clause-check g c file form = absurd (c.in-None.ensures.none.1 file form)

pub returns-in-None-clause-checked : goal.returns-in-None-clause-checked
returns-in-None-clause-checked g c file form done = absurd (c.in-None.ensures.none.1 file form)

pub returns-in-None-clause-cert_taken : goal.returns-in-None-clause-cert_taken
returns-in-None-clause-cert_taken g c = ([], none_came (g.B.Source.left c.args.cert_in.now), omega arith, λ e. omega arith)

pub returns-in-Some-Check-clause-check : goal.returns-in-Some-Check-clause-check
returns-in-Some-Check-clause-check g c file form =
    let f = c.flushed-in-Some-Check.ensures in
    let tells = flushed_tells c.check_file.result c.flushed-in-Some-Check.result f.stays _ _ (g.O.Sink.held c.flushed-in-Some-Check.new.out) _ _ _ f.later f.failed f.passed c.check_file.ensures.write in
    flushed_check _ _ _ _ f.kept _ _ _ _ c.check_file.result c.flushed-in-Some-Check.result f.stays (λ h. ((f.silent h).0, ap g.O.Sink.held (f.silent h).1)) _ _ c.check_file.ensures.run
    (λ e. c.check_file.ensures.read (flushed_from c.check_file.result c.flushed-in-Some-Check.result f.stays ReadFault (λ h. cc) e)) tells.failed

pub returns-in-Some-Check-clause-checked : goal.returns-in-Some-Check-clause-checked
returns-in-Some-Check-clause-checked g c file form done =
    let carried_out = flushed_from c.check_file.result c.flushed-in-Some-Check.result c.flushed-in-Some-Check.ensures.stays Done (λ h. cc) done in
    checked _ _ _ _ c.check_file.result carried_out (c.check_file.ensures.whole_points carried_out) (c.check_file.ensures.whole_cert carried_out) c.check_file.ensures.run

pub returns-in-Some-Check-clause-solve : goal.returns-in-Some-Check-clause-solve
returns-in-Some-Check-clause-solve g c order cap file form =
    let asked : IsCheck c.args.words.now c.in-Some-Check.field-0-0.file.now = rw c.in-Some-Check.field-0-is at c.in-Some-Check.ensures.some in
    absurd (check_is_no_solve _ _ asked order cap file form)

pub returns-in-Some-Check-clause-certified : goal.returns-in-Some-Check-clause-certified
returns-in-Some-Check-clause-certified g c order cap file form done =
    let asked : IsCheck c.args.words.now c.in-Some-Check.field-0-0.file.now = rw c.in-Some-Check.field-0-is at c.in-Some-Check.ensures.some in
    absurd (check_is_no_solve _ _ asked order cap file form)

pub returns-in-Some-Check-clause-sample : goal.returns-in-Some-Check-clause-sample
returns-in-Some-Check-clause-sample g c seed n order cap form =
    let asked : IsCheck c.args.words.now c.in-Some-Check.field-0-0.file.now = rw c.in-Some-Check.field-0-is at c.in-Some-Check.ensures.some in
    absurd (check_is_no_sample _ _ asked seed n order cap form)

pub returns-in-Some-Check-clause-usage : goal.returns-in-Some-Check-clause-usage
returns-in-Some-Check-clause-usage g c form =
    let asked : IsCheck c.args.words.now c.in-Some-Check.field-0-0.file.now = rw c.in-Some-Check.field-0-is at c.in-Some-Check.ensures.some in
    absurd (form.1 _ asked)

pub returns-in-Some-Check-clause-usage_only : goal.returns-in-Some-Check-clause-usage_only
returns-in-Some-Check-clause-usage_only g c e =
    let came = c.check_file.ensures.run.came in
    absurd (check_is_no_usage came.0 came.1 _ _ c.check_file.result came.4 (flushed_from c.check_file.result c.flushed-in-Some-Check.result c.flushed-in-Some-Check.ensures.stays Usage (λ h. cc) e))

pub returns-in-Some-Check-clause-rejected : goal.returns-in-Some-Check-clause-rejected
returns-in-Some-Check-clause-rejected g c none e =
    let asked : IsCheck c.args.words.now c.in-Some-Check.field-0-0.file.now = rw c.in-Some-Check.field-0-is at c.in-Some-Check.ensures.some in
    absurd (none _ asked)

pub returns-in-Some-Check-clause-read : goal.returns-in-Some-Check-clause-read
returns-in-Some-Check-clause-read g c e =
    c.check_file.ensures.read (flushed_from c.check_file.result c.flushed-in-Some-Check.result c.flushed-in-Some-Check.ensures.stays ReadFault (λ h. cc) e)

pub returns-in-Some-Check-clause-write : goal.returns-in-Some-Check-clause-write
returns-in-Some-Check-clause-write g c =
    let f = c.flushed-in-Some-Check.ensures in
    tell_both c.flushed-in-Some-Check.result _ (g.C.Sink.held c.args.cert_out.now) (g.C.Sink.faults c.args.cert_out.now)
    (flushed_tells c.check_file.result c.flushed-in-Some-Check.result f.stays _ _ (g.O.Sink.held c.flushed-in-Some-Check.new.out) _ _ _ f.later f.failed f.passed c.check_file.ensures.write)

pub returns-in-Some-Check-clause-unread : goal.returns-in-Some-Check-clause-unread
returns-in-Some-Check-clause-unread g c none no_check =
    let asked : IsCheck c.args.words.now c.in-Some-Check.field-0-0.file.now = rw c.in-Some-Check.field-0-is at c.in-Some-Check.ensures.some in
    absurd (no_check _ asked)

pub returns-in-Some-Check-clause-cert : goal.returns-in-Some-Check-clause-cert
returns-in-Some-Check-clause-cert g c none =
    let asked : IsCheck c.args.words.now c.in-Some-Check.field-0-0.file.now = rw c.in-Some-Check.field-0-is at c.in-Some-Check.ensures.some in
    absurd (none _ asked)

pub returns-in-Some-Check-clause-taken : goal.returns-in-Some-Check-clause-taken
returns-in-Some-Check-clause-taken g c =
    let t = c.check_file.ensures.taken in
    (t.0, t.1, t.2, λ e. t.3 (flushed_from c.check_file.result c.flushed-in-Some-Check.result c.flushed-in-Some-Check.ensures.stays ReadFault (λ h. cc) e))

pub returns-in-Some-Check-clause-cert_taken : goal.returns-in-Some-Check-clause-cert_taken
returns-in-Some-Check-clause-cert_taken g c =
    let t = c.check_file.ensures.cert_taken in
    (t.0, t.1, t.2, λ e. t.3 (flushed_from c.check_file.result c.flushed-in-Some-Check.result c.flushed-in-Some-Check.ensures.stays ReadFault (λ h. cc) e))

pub returns-in-Some-Check-clause-in_turn : goal.returns-in-Some-Check-clause-in_turn
returns-in-Some-Check-clause-in_turn g c input e none = c.check_file.ensures.in_turn input e none
