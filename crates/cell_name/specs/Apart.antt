-- How far cells that don't touch are apart.
use Rattle.std.specs.Prelude.{ℕ, ◌≤◌, ◌⊎◌, ℤ, pos, ◌+ℤ◌, ◌-ℤ◌, ◌≤ℤ◌, unsigned_abs, max}
use Rattle.exact_math.specs.Gaussian.{Gaussian, gaussian}
use Rattle.cell_name.specs.Square.{Square}

-- how many sides the centre of b lies from that of c, for cells of one level: as many as columns and rows
abbrev pub sides_between : Square → Square → Gaussian
sides_between b c = gaussian (pos b.i -ℤ pos c.i) (pos b.j -ℤ pos c.j)

-- the greater part of that difference is two or three
pub record AreTwoOrThreeSidesApart (b c : Square) : Type 0 where
  pub at_least_two : 2 ≤ max (unsigned_abs (sides_between b c).re) (unsigned_abs (sides_between b c).im)
  pub at_most_three : max (unsigned_abs (sides_between b c).re) (unsigned_abs (sides_between b c).im) ≤ 3

-- a coordinate of one place is at least `s` further than that of the other
pub record AreApart (s : ℕ) (x x' : ℤ) : Type 0 where
  pub far : ((x +ℤ pos s) ≤ℤ x') ⊎ ((x' +ℤ pos s) ≤ℤ x)

-- a part of a doubled offset is at least `n` in size
pub record IsLarge (n : ℕ) (o : ℤ) : Type 0 where
  pub large : n ≤ unsigned_abs o
