use Rattle.std.specs.Prelude.{IsTrue}
use Rattle.certificate_check.proofs.Firsts.{one_more}
use Rattle.certificate_rules.specs.LineRules.{NodeHolds}
use Rattle.certificate_check.proofs.failures.failing_node.Goals as goal

pub loop-n-preserved : goal.loop-n-preserved
loop-n-preserved c =
    let holds : IsTrue c.node_holds.result = search in
    one_more (NodeHolds c.args.given.now.points c.args.given.now.certificate) c.loop-n.n (c.node_holds.ensures.0 holds) c.loop-n.invariant
