-- The cells so far are marked.
use Rattle.std.proofs.Common.{take}
use Rattle.row_board.specs.Search.{AreMarked}
use Rattle.row_board.proofs.search.first_unmarked.Given as goal

abbrev pub invariant-loop-c : goal.invariant-loop-c
invariant-loop-c l = AreMarked l.marks (take l.c-index l.cells)
