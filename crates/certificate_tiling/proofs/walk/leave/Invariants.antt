use Rattle.std.proofs.Common.{take}
use Rattle.certificate_tiling.specs.Walk.{times_named, CoversMore}
use Rattle.certificate_tiling.proofs.walk.leave.Given as goal

abbrev pub invariant-loop-e : goal.invariant-loop-e
invariant-loop-e l = CoversMore l.cover l.initial.cover (times_named l.cert (take l.e-index l.entries))
