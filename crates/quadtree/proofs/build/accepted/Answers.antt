-- A crowded run has a crowded place, and the first run the first place.
use Rattle.std.proofs.Common.{List, subst, arith}
use Rattle.std.specs.Prelude.{All}
use Rattle.limits.proofs.Grids.{grid_positive}
use Rattle.quadtree.specs.declared.split.Run.{Run}
use Rattle.quadtree.specs.Splitting.{IsCrowdedRun, IsFirstCrowdedRun}
use Rattle.quadtree.proofs.Faults.{first_crowded_is, none_crowded_is, has_more_cells}
use Rattle.quadtree.proofs.build.accepted.Goals as goal

abbrev NoRunIsCrowded : List Run → Type 0
NoRunIsCrowded runs = All (λ r. IsCrowdedRun r → ⊥) runs

pub returns-in-Some-clause-fault : goal.returns-in-Some-clause-fault
returns-in-Some-clause-fault c =
    let P : List Run → Type 0 = λ l. IsFirstCrowdedRun l c.in-Some.run' in
    first_crowded_is c.args.grid c.args.points.now c.args.cap c.in_ok-splits.splits.positions.items c.in_ok-splits.splits.runs.items c.in-Some.run' (grid_positive c.args.grid c.requires.known_grid) (omega arith) c.in_ok-splits.ensures.cells c.in_ok-splits.ensures.runs (subst P c.deref.ensures.value c.in-Some.ensures.found)

pub returns-then-len-most_cells-clause-fault : goal.returns-then-len-most_cells-clause-fault
returns-then-len-most_cells-clause-fault c =
    record {
      none_crowded = none_crowded_is c.args.grid c.args.points.now c.args.cap c.in_ok-splits.splits.positions.items c.in_ok-splits.splits.runs.items (grid_positive c.args.grid c.requires.known_grid) (omega arith) c.in_ok-splits.ensures.cells c.in_ok-splits.ensures.runs (subst NoRunIsCrowded c.deref.ensures.value c.in_default.ensures.none);
      too_many = has_more_cells c.args.grid c.args.points.now c.args.cap c.in_ok-splits.splits.runs.items c.in_ok-splits.ensures.cells (omega arith);
    }

pub returns-clause-none_crowded : goal.returns-clause-none_crowded
returns-clause-none_crowded c =
    none_crowded_is c.args.grid c.args.points.now c.args.cap c.in_ok-splits.splits.positions.items c.in_ok-splits.splits.runs.items (grid_positive c.args.grid c.requires.known_grid) (omega arith) c.in_ok-splits.ensures.cells c.in_ok-splits.ensures.runs (subst NoRunIsCrowded c.deref.ensures.value c.in_default.ensures.none)
