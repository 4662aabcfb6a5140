-- The levels so far.
use Rattle.row_phases.specs.Levels.{AreMadeBefore}
use Rattle.row_phases.proofs.down.fill_down_alone.Given as goal

abbrev pub invariant-loop-level : goal.invariant-loop-level
invariant-loop-level g l = AreMadeBefore g.row.P l.basis l.level l.places
