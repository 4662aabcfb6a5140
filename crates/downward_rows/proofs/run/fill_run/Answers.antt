-- One place more.
use Rattle.std.proofs.Common.{◌+◌, refl, arith}
use Rattle.field_basis.specs.MadePlaces.{IsMadeLocal}
use Rattle.downward_rows.proofs.PlacesSoFar.{one_place_more}
use Rattle.downward_rows.proofs.run.fill_run.Goals as goal

pub loop-k-preserved : goal.loop-k-preserved
loop-k-preserved g c =
    one_place_more (λ j p. IsMadeLocal g.row.P c.args.basis.now (c.args.first + j) p) c.loop-k.run c.loop-k.run c.loop-k.k c.finish_place.new.place
    (omega (arith, c.loop-k-test.true, c.loop-k.auto.run)) (record { as_many = refl; others = λ m other. refl }) c.loop-k.invariant c.finish_place.ensures
