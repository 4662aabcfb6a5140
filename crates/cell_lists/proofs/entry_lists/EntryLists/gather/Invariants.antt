-- The colleagues and the lists of the cells so far.
use Rattle.cell_lists.specs.Lists.{AreListsTo}
use Rattle.cell_lists.specs.Walks.{AreColleagues}
use Rattle.cell_lists.proofs.entry_lists.EntryLists.gather.Given as goal

abbrev pub invariant-loop-b : goal.invariant-loop-b
invariant-loop-b l =
    record {
      near : AreColleagues l.tree l.gathering.near l.b;
      lists : AreListsTo l.tree l.self l.b;
    }
