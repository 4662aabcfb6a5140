-- The walk has come down to the level.
use Rattle.cell_lists.specs.Walks.{MeetsBelow}
use Rattle.cell_lists.proofs.search.push_below.Given as goal

abbrev pub invariant-loop-level : goal.invariant-loop-level
invariant-loop-level l = MeetsBelow l.tree l.b l._level l.start l.fn.found.items l.found.items
