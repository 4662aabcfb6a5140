-- The levels so far.
use Rattle.row_phases.specs.Levels.{AreMadeFrom}
use Rattle.row_phases.proofs.up.fill_up_alone.Given as goal

abbrev pub invariant-loop-level : goal.invariant-loop-level
invariant-loop-level g l = AreMadeFrom g.row.P l.basis l.level l.places
