use Rattle.std.specs.Prelude.{IsTrue}
use Rattle.certificate_check.proofs.Firsts.{one_more}
use Rattle.certificate_check.specs.Failures.{MultipoleLineHolds}
use Rattle.certificate_check.proofs.failures.failing_multipole.Goals as goal

pub loop-n-preserved : goal.loop-n-preserved
loop-n-preserved g c =
    let holds : IsTrue c.multipole_holds.result = search in
    one_more (MultipoleLineHolds c.args.given.now) c.loop-n.n (c.multipole_holds.ensures.0 holds) c.loop-n.invariant
