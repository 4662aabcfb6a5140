-- The places so far.
use Rattle.std.proofs.Common.{◌≡◌, take}
use Rattle.field_basis.specs.Place.{all_translations}
use Rattle.field_basis.proofs.totals.all_translations.Given as goal

abbrev pub invariant-loop-place : goal.invariant-loop-place
invariant-loop-place g l = l.total ≡ all_translations (take l.place-index l.places)
