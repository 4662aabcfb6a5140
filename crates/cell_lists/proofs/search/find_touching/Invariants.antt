-- Those so far that touch are kept.
use Rattle.cell_lists.proofs.WalkSteps.{Keeps}
use Rattle.cell_lists.proofs.search.find_touching.Given as goal

abbrev pub invariant-loop-c : goal.invariant-loop-c
invariant-loop-c l = Keeps l.tree l.b l.found l.c-index l.touching.items
