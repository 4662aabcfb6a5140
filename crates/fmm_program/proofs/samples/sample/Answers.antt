use Rattle.fmm_program.proofs.SampleRuns.{run_at}
use Rattle.fmm_program.proofs.samples.sample.Goals as goal

pub returns-in-4-clause-run : goal.returns-in-4-clause-run
returns-in-4-clause-run g c =
    run_at c.args.command.seed c.args.command.count c.args.command.order c.args.command.cap 4 _ c.summarize.result c.in-4.is
    (c.summarize.ensures.ends c.args.command.count c.in-Ok.ensures.sample) c.summarize.ensures.read c.summarize.ensures.write

pub returns-in-8-clause-run : goal.returns-in-8-clause-run
returns-in-8-clause-run g c =
    run_at c.args.command.seed c.args.command.count c.args.command.order c.args.command.cap 8 _ c.summarize-in-8.result c.in-8.is
    (c.summarize-in-8.ensures.ends c.args.command.count c.in-Ok.ensures.sample) c.summarize-in-8.ensures.read c.summarize-in-8.ensures.write

pub returns-in-16-clause-run : goal.returns-in-16-clause-run
returns-in-16-clause-run g c =
    run_at c.args.command.seed c.args.command.count c.args.command.order c.args.command.cap 16 _ c.summarize-in-16.result c.in-16.is
    (c.summarize-in-16.ensures.ends c.args.command.count c.in-Ok.ensures.sample) c.summarize-in-16.ensures.read c.summarize-in-16.ensures.write

pub returns-in-24-clause-run : goal.returns-in-24-clause-run
returns-in-24-clause-run g c =
    run_at c.args.command.seed c.args.command.count c.args.command.order c.args.command.cap 24 _ c.summarize-in-24.result c.in-24.is
    (c.summarize-in-24.ensures.ends c.args.command.count c.in-Ok.ensures.sample) c.summarize-in-24.ensures.read c.summarize-in-24.ensures.write
