-- None of the runs so far is crowded.
use Rattle.std.proofs.Common.{ℕ, ◌<◌, get_or}
use Rattle.quadtree.specs.declared.split.Run.{Run}
use Rattle.quadtree.specs.Splitting.{IsCrowdedRun}
use Rattle.quadtree.proofs.build.first_crowded.Given as goal

abbrev pub invariant-loop-run : goal.invariant-loop-run
invariant-loop-run l = (k : ℕ) (d : Run) → k < l.run-index → IsCrowdedRun (get_or l.runs k d) → ⊥
