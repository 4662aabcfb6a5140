-- The unit that boxes count.
use Rattle.std.specs.Prelude.{ℤ, pos, ◌^◌}

-- how many units are 1, where the ends of a box count units of 2^-40
abbrev pub unit : ℤ
unit = pos (2 ^ 40)
