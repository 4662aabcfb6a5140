use Rattle.std.specs.Prelude.{IsTrue}
use Rattle.certificate_check.proofs.Firsts.{one_more}
use Rattle.certificate_rules.specs.LineRules.{EntryHolds}
use Rattle.certificate_check.proofs.failures.failing_entry.Goals as goal

pub loop-e-preserved : goal.loop-e-preserved
loop-e-preserved c =
    let holds : IsTrue c.entry_holds.result = search in
    one_more (EntryHolds c.args.given.now.points c.args.given.now.certificate) c.loop-e.e (c.entry_holds.ensures.0 holds) c.loop-e.invariant
