use Rattle.std.proofs.Common.{length}
use Rattle.particle_text.proofs.Lines.{SomeSoFar}
use Rattle.particle_text.proofs.reader.first_fault.Given as goal

abbrev pub invariant-loop-rest : goal.invariant-loop-rest
invariant-loop-rest l = SomeSoFar l.bytes l.rest l.version l.mode l.live l.weight

abbrev pub decreases-loop-rest : goal.decreases-loop-rest
decreases-loop-rest l = length l.rest
