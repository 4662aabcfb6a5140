-- The quarters of the cells so far that touch have been appended.
use Rattle.cell_lists.specs.Walks.{AddsChildren}
use Rattle.cell_lists.proofs.search.push_children.Given as goal

abbrev pub invariant-loop-at : goal.invariant-loop-at
invariant-loop-at l = AddsChildren l.tree l.b l.start l.at l.initial.found.items l.found.items
