-- The children so far that have a source are marked.
use Rattle.std.proofs.Common.{take}
use Rattle.tree_field.specs.Program.{with_source}
use Rattle.row_board.specs.Search.{AreMarked}
use Rattle.row_board.proofs.search.first_unmarked_quarter.Given as goal

abbrev pub invariant-loop-child : goal.invariant-loop-child
invariant-loop-child l = AreMarked l.marks (with_source l.tree (take l.child-index l.children))
