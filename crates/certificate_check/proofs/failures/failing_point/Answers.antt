use Rattle.std.specs.Prelude.{IsTrue}
use Rattle.certificate_check.proofs.Firsts.{one_more}
use Rattle.certificate_rules.specs.LineRules.{PointHolds}
use Rattle.certificate_check.proofs.failures.failing_point.Goals as goal

pub loop-k-preserved : goal.loop-k-preserved
loop-k-preserved c =
    let holds : IsTrue c.point_holds.result = search in
    one_more (PointHolds c.args.given.now.points c.args.given.now.certificate) c.loop-k.k (c.point_holds.ensures.0 holds) c.loop-k.invariant
