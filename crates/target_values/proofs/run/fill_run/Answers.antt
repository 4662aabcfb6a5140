-- One place more.
use Rattle.std.proofs.Common.{◌∙◌, ◌+◌, ◌<◌, arith, length, length-set}
use Rattle.field_basis.specs.MadePlaces.{IsMadeTarget}
use Rattle.field_basis.specs.Target.{no_target}
use Rattle.target_values.proofs.PassBoxes.{one_more}
use Rattle.target_values.proofs.run.fill_run.Goals as goal

pub loop-k-preserved : goal.loop-k-preserved
loop-k-preserved g c =
    let k = c.loop-k.k in
    let lt : k < length c.loop-k.run = omega (arith, c.loop-k-test.true, c.loop-k.invariant.len) in
    record {
      len = length-set c.loop-k.run k c.make_target.result ∙ c.loop-k.invariant.len;
      made = one_more (λ j. IsMadeTarget g.row.P c.args.basis.now (c.args.first + j)) c.loop-k.run k c.make_target.result no_target lt c.loop-k.invariant.made c.make_target.ensures;
    }
