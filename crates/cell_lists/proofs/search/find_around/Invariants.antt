-- The colleagues of the parent so far have been met.
use Rattle.cell_lists.proofs.WalkSteps.{MeetsAround}
use Rattle.cell_lists.proofs.search.find_around.Given as goal

abbrev pub invariant-loop-c : goal.invariant-loop-c
invariant-loop-c l = MeetsAround l.tree l.colleagues l.c-index l.found.items
