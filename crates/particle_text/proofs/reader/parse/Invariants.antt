use Rattle.std.proofs.Common.{length}
use Rattle.particle_text.proofs.Lines.{SoFar}
use Rattle.particle_text.proofs.reader.parse.Given as goal

abbrev pub invariant-loop-rest : goal.invariant-loop-rest
invariant-loop-rest l = SoFar l.bytes l.rest (record { version = l.version; mode = l.mode; list = l.list }) l.weight

abbrev pub decreases-loop-rest : goal.decreases-loop-rest
decreases-loop-rest l = length l.rest
