-- The test by which points are counted says whether a cell holds them.
use Rattle.std.proofs.Common.{◌≡◌, true}
use Rattle.std.specs.Prelude.{ℤ}
use Rattle.std.proofs.lemmas.Bool.{and_from, and_parts}
use Rattle.cell_name.specs.Square.{Square, Holds, holds_test}
use Rattle.cell_name.proofs.Comparisons.{le_from_test, lt_from_test, test-from_le, test-from_lt}

pub Holds-from_test : (c : Square) (x y : ℤ) → holds_test c x y ≡ true → Holds c x y
Holds-from_test c x y e =
    let three = and_parts _ _ e in
    let two = and_parts _ _ three.0 in
    let one = and_parts _ _ two.0 in
    record {
      west = le_from_test _ _ one.0;
      east = lt_from_test _ _ one.1;
      south = le_from_test _ _ two.1;
      north = lt_from_test _ _ three.1;
    }

pub test-from_Holds : (c : Square) (x y : ℤ) → Holds c x y → holds_test c x y ≡ true
test-from_Holds c x y h =
    and_from _ _ (and_from _ _ (and_from _ _ (test-from_le _ _ h.west) (test-from_lt _ _ h.east)) (test-from_le _ _ h.south)) (test-from_lt _ _ h.north)
