-- The places so far.
use Rattle.std.proofs.Common.{◌≡◌, take}
use Rattle.field_basis.specs.Target.{all_pairs}
use Rattle.field_basis.proofs.totals.all_pairs.Given as goal

abbrev pub invariant-loop-place : goal.invariant-loop-place
invariant-loop-place l = l.total ≡ all_pairs (take l.place-index l.places)
