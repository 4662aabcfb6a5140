-- The quarters of the cells so far are there.
use Rattle.std.proofs.Common.{◌≡◌, ◌++◌, length}
use Rattle.std.specs.Prelude.{slice_range}
use Rattle.std.specs.List.{flat_map}
use Rattle.quadtree.specs.Divided.{HasRoom}
use Rattle.quadtree.specs.Splitting.{squares_of, below, AreBelow}
use Rattle.quadtree.proofs.split.Splits.split_level.Given as goal

abbrev pub invariant-loop-number : goal.invariant-loop-number
invariant-loop-number l =
    record {
      cells :
          squares_of l.self.runs.items ≡ squares_of l.initial.self.runs.items ++ flat_map (below l.points l.cap) (slice_range (squares_of l.above) l.start l.number);
      below : AreBelow l.points l.above l.self.positions.items l.self.runs.items;
      parts : HasRoom l.parts (length l.points);
    }
