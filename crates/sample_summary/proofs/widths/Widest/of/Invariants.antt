-- The greatest widths of the boxes so far.
use Rattle.std.proofs.Common.{◌≡◌, take, map, max}
use Rattle.std.specs.List.{fold}
use Rattle.complex_box.specs.Box.{box_ends}
use Rattle.sample_summary.specs.Summary.{width}
use Rattle.sample_summary.proofs.widths.Widest.of.Given as goal

abbrev pub invariant-loop-k : goal.invariant-loop-k
invariant-loop-k g l =
    record {
      re : l.widest.re ≡ fold max 0 (map (λ b. width b.re) (map box_ends (take l.k l.field.values)));
      im : l.widest.im ≡ fold max 0 (map (λ b. width b.im) (map box_ends (take l.k l.field.values)));
    }
