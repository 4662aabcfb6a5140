use Rattle.std.proofs.Common.{◌<◌, arith}
use Rattle.certificate_check.proofs.Firsts.{line_fails, one_more}
use Rattle.certificate_check.specs.Failures.{LocalLineHolds}
use Rattle.certificate_check.proofs.failures.failing_local.Goals as goal

pub returns-in-Some-clause-first : goal.returns-in-Some-clause-first
returns-in-Some-clause-first g c =
    let cells = rw c.cert.ensures.certificate at c.line_counts-number-end.ensures.cells in
    record {
      below = grind (arith, cells, c.loop-number-test.true, c.loop-number.auto.number-end);
      fails = line_fails c.args.given.now c.loop-number.number c.in-Some.rule c.in-Some.ensures.some;
      before = c.loop-number.invariant;
    }

pub loop-number-preserved : goal.loop-number-preserved
loop-number-preserved g c = one_more (LocalLineHolds c.args.given.now) c.loop-number.number c.in-None.ensures.none c.loop-number.invariant

pub returns-clause-none : goal.returns-clause-none
returns-clause-none g c n lt =
    let cells = rw c.cert.ensures.certificate at c.line_counts-number-end.ensures.cells in
    let below : n < c.loop-number.number = grind (arith, lt, cells, c.loop-number-test.false, c.loop-number.auto.number-end) in
    c.loop-number.invariant n below
