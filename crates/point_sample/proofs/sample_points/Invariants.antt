-- The list so far is the sample of as many points, and the state that of five draws for each.
use Rattle.std.proofs.Common.{◌≡◌, ◌*◌}
use Rattle.point_sample.specs.Generator.{state_after}
use Rattle.point_sample.specs.Sample.{sample}
use Rattle.point_sample.proofs.sample_points.Given as goal

abbrev pub invariant-points : goal.invariant-points
invariant-points l =
    record {
      state : l.generator.state ≡ state_after l.seed (5 * l.counter);
      list : l.list ≡ (sample l.seed l.counter).list;
    }
