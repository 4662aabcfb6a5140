-- The tree is built down to a level.
use Rattle.std.proofs.Common.{◌≡◌, [], length}
use Rattle.quadtree.specs.Divided.{HasRoom}
use Rattle.quadtree.specs.Splitting.{IsBuiltTo}
use Rattle.quadtree.proofs.split.Splits.of.Given as goal

abbrev pub invariant-loop-level : goal.invariant-loop-level
invariant-loop-level l =
    record {
      built : IsBuiltTo l.grid l.points l.cap l._level l.start l.found.positions.items l.runs.items;
      empty : l.found.runs.items ≡ [];
      parts : HasRoom l.parts (length l.points);
    }
