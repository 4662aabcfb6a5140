-- The positions that a cell holds, one more at a time.
use Rattle.std.proofs.Common.{ℕ, ◌≡◌, ◌<◌, Bool, true, false, List, length, get_or, ap, ◌∙◌, sym, refl}
use Rattle.std.specs.Prelude.{ℤ, Some, IsTrue, ◌↔◌}
use Rattle.std.proofs.lemmas.Option.{slice_get-get_or}
use Rattle.points.specs.declared.Point.{Point}
use Rattle.cell_name.specs.Square.{Square, Holds, holds_test}
use Rattle.quadtree.specs.Members.{holds_point, holds_position}
use Rattle.cell_name.proofs.HoldsTest.{Holds-from_test, test-from_Holds}
