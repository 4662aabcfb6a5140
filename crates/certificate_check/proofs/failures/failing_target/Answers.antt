use Rattle.std.specs.Prelude.{IsTrue}
use Rattle.certificate_check.proofs.Firsts.{one_more}
use Rattle.certificate_rules.specs.LineRules.{TargetHolds}
use Rattle.certificate_check.proofs.failures.failing_target.Goals as goal

pub loop-k-preserved : goal.loop-k-preserved
loop-k-preserved g c =
    let holds : IsTrue c.target_holds.result = search in
    one_more (TargetHolds c.args.given.now.points c.args.given.now.certificate) c.loop-k.k (c.target_holds.ensures.0 holds) c.loop-k.invariant
