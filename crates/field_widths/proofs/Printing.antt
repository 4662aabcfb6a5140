-- Printed counts are at most 2 further apart than the ends, as a count is no less than a unit.
use Rattle.std.proofs.Common.{ℕ, ◌+◌, ◌*◌, ◌^◌, ◌≤◌, pos, arith}
use Rattle.std.specs.Prelude.{◌-ℤ◌, ◌*ℤ◌, ◌≤ℤ◌}
use Rattle.std.proofs.lemmas.Int.{ints}
use Rattle.exact_math.specs.Ends.{Ends, EndsNarrow}
use Rattle.exact_math.proofs.Integers as Z
use Rattle.exact_math.proofs.Widths.{narrow-quot}
use Rattle.soundness.specs.Counts.{count_unit, count_ends}

-- 10^12 times the interval
scaled : {w : ℕ} {i : Ends} → EndsNarrow w i → EndsNarrow (10 ^ 12 * w) (record { lo = count_unit *ℤ i.lo; hi = count_unit *ℤ i.hi })
scaled {w} {i} h = record { ordered = omega (arith, ints, h.ordered); width = omega (arith, ints, h.width) }

pub printed_narrow : {w : ℕ} {i : Ends} → EndsNarrow w i → EndsNarrow (w + 2) (count_ends i)
printed_narrow {w} {i} h = narrow-quot (2 ^ 40) (omega arith) (scaled h) (omega arith)

-- a multiple of what lies between two ends
apart_times : (s : ℕ) {w : ℕ} {i : Ends} → EndsNarrow w i → (pos s *ℤ (i.hi -ℤ i.lo)) ≤ℤ pos (s * w)
apart_times s {w} {i} h = omega (arith, ints, Z.*-mono_left (pos s) (i.hi -ℤ i.lo) (pos w) (omega (arith, ints)) h.width)

pub printed_times : (s B : ℕ) {w : ℕ} {i : Ends} → EndsNarrow w i → s * w ≤ B → (pos s *ℤ ((count_ends i).hi -ℤ (count_ends i).lo)) ≤ℤ pos (B + 2 * s)
printed_times s B {w} {i} h enough =
    let a = apart_times s (printed_narrow h) in
    omega (arith, ints, a, enough)
