-- The ends that are left are ends exactly where all are.
use Rattle.std.proofs.Common.{◌↔◌, length, pos, ◌≡◌}
use Rattle.cert_text.specs.Sections.{AreOrderedEnds}
use Rattle.cert_text.proofs.range.are_ends.Given as goal

abbrev pub invariant-loop-rest : goal.invariant-loop-rest
invariant-loop-rest l = (l.bound ≡ pos l.most) × (AreOrderedEnds l.most l.numbers ↔ AreOrderedEnds l.most l.rest)

abbrev pub decreases-loop-rest : goal.decreases-loop-rest
decreases-loop-rest l = length l.rest
