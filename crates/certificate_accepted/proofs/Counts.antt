-- The counts of a box enclose it.
use Rattle.std.proofs.Common.{◌*ℤ◌, arith}
use Rattle.std.proofs.lemmas.Int.{ints}
use Rattle.exact_math.specs.Ends.{Ends, BoxEnds}
use Rattle.exact_math.specs.Units.{unit}
use Rattle.exact_math.proofs.Enclosures.{floor_div_le, ceil_div_ge}
use Rattle.soundness.specs.Counts.{count_unit, count_ends, AreAround, EncloseBox}

counts_around : (i : Ends) → AreAround i (count_ends i)
counts_around i = record {
  lower = floor_div_le (count_unit *ℤ i.lo) unit (omega (arith, ints));
  upper = ceil_div_ge (count_unit *ℤ i.hi) unit (omega (arith, ints));
}

pub counts_enclose : (b : BoxEnds) → EncloseBox b (count_ends b.re) (count_ends b.im)
counts_enclose b = record { re = counts_around b.re; im = counts_around b.im }
