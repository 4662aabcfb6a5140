use Rattle.std.proofs.Common.{arith}
use Rattle.limits.proofs.Grids.{version_has_grid}
use Rattle.points.proofs.Ranges.{range_in_widest}
use Rattle.particle_text.specs.declared.TextKind.TheVariants.{Range, Strength}
use Rattle.particle_text.proofs.Lines.{some_start, some_step, version_limits}
use Rattle.particle_text.proofs.reader.first_fault.Goals as goal

pub loop-rest-init : goal.loop-rest-init
loop-rest-init c = some_start _ _ _ _ c.in-Some.ensures.version c.in-Some.ensures.some

pub loop-rest-preserved : goal.loop-rest-preserved
loop-rest-preserved c =
    rw c.weight64-weight.ensures (some_step _ _ _ _ _ _ _ _ c.loop-rest.invariant c.in-Ok.ensures.line c.in-Ok.ensures.joins)

pub weight64-weight-requires : goal.weight64-weight-requires
weight64-weight-requires c = range_in_widest _ _ (version_has_grid c.in-Some.version) (c.in-Ok.ensures.joins Range)

pub overflow_add-weight : goal.overflow_add-weight
overflow_add-weight c = let light = c.in-Ok.ensures.joins Strength in
    omega (arith, light, (version_limits c.in-Some.version).weight, c.weight64-weight.ensures)
