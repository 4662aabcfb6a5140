-- The laws of cells in the words of rows.
use Rattle.exact_math.proofs.Common.{int_ring, int_quotes, ring4}
use Rattle.std.proofs.Common.{◌⊎◌, ◌≡◌, ap₂, ℕ, ◌+◌, ◌*◌, ◌≤◌, max, arith, inl, inr, ℤ, pos, ◌+ℤ◌, ◌-ℤ◌, ◌*ℤ◌, unsigned_abs}
use Rattle.std.proofs.lemmas.Int.{ints}
use mathlib.Core.Logic.{⊎_elim}
use Rattle.std.proofs.lemmas.Bool.{cases_lt}
use Rattle.exact_math.specs.Gaussian.{gaussian}
use Rattle.exact_math.specs.Within.{Within}
use Rattle.cell_name.proofs.Axis.{side-halves}
use Rattle.cell_name.proofs.Distances.{offset_x_at_most, offset_y_at_most, offset_large, centres_differ, two_or_three}
use Rattle.row_recursions.specs.Geometry.{HeldPlaces, PairsOfCells, FarPlaces, QuartersOfCells, quarter_sign}

within_size : (n : ℕ) (z : ℤ) → unsigned_abs z ≤ n → Within n z
within_size n z h = record { above = omega (arith, ints); below = omega (arith, ints) }

pub held_places : HeldPlaces
held_places c x y h = record { re = within_size _ _ (offset_x_at_most c x y h); im = within_size _ _ (offset_y_at_most c x y h) }

pub far_places : FarPlaces
far_places b c x y grid level names apart h = ⊎_elim (λ l. inl l.large) (λ l. inr l.large) (offset_large b c x y grid level names apart h)

pub pairs_of_cells : PairsOfCells
pairs_of_cells b c grid level apart parents =
    let t = two_or_three b c grid level apart parents in
    let d = centres_differ b c grid level in
    record {
      kernel = record {
        apart = either _ _ t.at_least_two;
        near = record { re = within_size _ _ (omega (arith, t.at_most_three)); im = within_size _ _ (omega (arith, t.at_most_three)) };
      };
      centres = ap₂ gaussian (difference _ _ _ d.0) (difference _ _ _ d.1);
    }
  where
    either : (m n : ℕ) → 2 ≤ max m n → (2 ≤ m) ⊎ (2 ≤ n)
    either m n h = ⊎_elim (λ l. inr (omega arith)) (λ l. inl (omega arith)) (cases_lt m 2)

    difference : (b c d : ℤ) → b ≡ c +ℤ d → b -ℤ c ≡ d
    difference b c d h = omega (arith, ints)

pub quarters_of_cells : QuartersOfCells
quarters_of_cells c right top r t inside =
    let halves = side-halves c.grid c.level inside in
    record {
      half = halves;
      centre = ap₂ gaussian (moved _ _ right c.i _ halves) (moved _ _ top c.j _ halves);
    }
  where
    whole : (s a i h : ℤ) → ((((pos 2 *ℤ i +ℤ a) *ℤ s) -ℤ h) +ℤ (((pos 2 *ℤ i +ℤ a) *ℤ s) -ℤ h)) +ℤ s ≡ ((((i *ℤ (pos 2 *ℤ s)) -ℤ h) +ℤ ((i *ℤ (pos 2 *ℤ s)) -ℤ h)) +ℤ pos 2 *ℤ s) +ℤ s *ℤ (pos 2 *ℤ a -ℤ pos 1)
    whole s a i h = ring4 int_ring s a i h (λ s a i h. search int_quotes depth 14) tt

    -- from a side 2 s to a side s, along one axis
    moved : (big s a i : ℕ) (h : ℕ) → big ≡ 2 * s
        → ((pos ((2 * i + a) * s) -ℤ pos h) +ℤ (pos ((2 * i + a) * s) -ℤ pos h)) +ℤ pos s ≡ (((pos (i * big) -ℤ pos h) +ℤ (pos (i * big) -ℤ pos h)) +ℤ pos big) +ℤ pos s *ℤ quarter_sign a
    moved big s a i h e = rw e (whole (pos s) (pos a) (pos i) (pos h))
