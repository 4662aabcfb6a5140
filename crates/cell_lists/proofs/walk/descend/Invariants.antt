-- The two chains touch down to the level that the walk has reached.
use Rattle.cell_name.specs.Cell.{square}
use Rattle.cell_lists.specs.Cases.{Both}
use Rattle.cell_lists.specs.Walk.{AncestorsTouch}
use Rattle.cell_lists.proofs.walk.descend.Given as goal

abbrev pub invariant-loop-above : goal.invariant-loop-above
invariant-loop-above l = Both (AncestorsTouch (square l.b) (square l.c)) l.b.level l.c.level l.above
