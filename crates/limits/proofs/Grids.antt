-- What holds of the limits of every version.
use Rattle.std.proofs.Common.{rules, ℕ, ◌≡◌, ◌<◌, ◌⊎◌, inl, inr, true, false, Bool, ◌==◌, cond, refl, sym, subst, arith}
use Rattle.std.proofs.lemmas.Int.{ints}
use Rattle.limits.specs.Grid.{IsInGrid}
use Rattle.limits.specs.Laws.{AreWithinWidest, VersionHasGrid, WidestHasMost, GridsAreNested}
use Rattle.limits.specs.Limits.{IsGrid, IsVersion, first_grid, widest_grid}

pub version_has_grid : VersionHasGrid
version_has_grid version = by_test (version == 2)
  where
    by_test : (b : Bool) → IsGrid (cond b widest_grid first_grid)
    by_test true = refl
    by_test false = refl

pub version_cases : (version : ℕ) → IsVersion version → (version ≡ 1) ⊎ (version ≡ 2)
version_cases version is = grind (arith, rules)

pub grid_cases : (grid : ℕ) → IsGrid grid → (grid ≡ first_grid) ⊎ (grid ≡ widest_grid)
grid_cases grid is = grind (arith, rules)

pub within_widest : WidestHasMost
within_widest grid is =
    elim (grid_cases grid is) [
      | inl e ↦ subst AreWithinWidest (sym e) (record { some = omega arith; bits = omega arith; points = omega arith; weight = omega arith; cells = omega arith; order = omega arith; multipole = omega arith; local = omega arith; box = omega arith })
      | inr e ↦ subst AreWithinWidest (sym e) (record { some = omega arith; bits = omega arith; points = omega arith; weight = omega arith; cells = omega arith; order = omega arith; multipole = omega arith; local = omega arith; box = omega arith })
    ]

pub grid_positive : (grid : ℕ) → IsGrid grid → 0 < grid
grid_positive grid is = (within_widest grid is).some

pub in_widest : GridsAreNested
in_widest grid x y is h =
    elim (grid_cases grid is) [
      | inl e ↦ let g = subst (λ n. IsInGrid n x y) e h in record { west = omega (arith, ints, g.west); east = omega (arith, ints, g.east); south = omega (arith, ints, g.south); north = omega (arith, ints, g.north) }
      | inr e ↦ subst (λ n. IsInGrid n x y) e h
    ]
