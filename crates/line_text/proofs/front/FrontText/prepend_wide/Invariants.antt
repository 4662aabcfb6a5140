use Rattle.std.proofs.Common.{◌≡◌, ◌++◌, decimal}
use Rattle.line_text.proofs.front.FrontText.prepend_wide.Given as goal

abbrev pub invariant-loop-rest : goal.invariant-loop-rest
invariant-loop-rest g l = decimal l.n ++ l.initial.self ≡ decimal l.rest ++ l.self

abbrev pub decreases-loop-rest : goal.decreases-loop-rest
decreases-loop-rest g l = l.rest
