use Rattle.std.proofs.Common.{◌≡◌, ◌+◌, sum, take}
use Rattle.certificate_tiling.specs.Walk.{times_named, CoversMore}
use Rattle.certificate_tiling.proofs.walk.enter.Given as goal

abbrev pub invariant-loop-e : goal.invariant-loop-e
invariant-loop-e l = record {
  more : CoversMore l.initial.cover l.cover (times_named l.cert (take l.e-index l.entries));
  total : sum l.cover.covers ≡ sum l.initial.cover.covers + l.e-index;
}
