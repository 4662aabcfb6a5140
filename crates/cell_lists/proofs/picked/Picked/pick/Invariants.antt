-- The entries among the cells so far.
use Rattle.letters.specs.declared.Letter.{Letter}
use Rattle.cell_lists.specs.Picked.{picked_of}
use Rattle.cell_lists.proofs.Picks.{PicksTo}
use Rattle.cell_lists.proofs.picked.Picked.pick.Given as goal

abbrev pub invariant-loop-c : goal.invariant-loop-c
invariant-loop-c l = (letter : Letter) → PicksTo l.tree letter l.b l.met l.c-index (picked_of l.self letter)
