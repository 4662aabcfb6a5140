-- The shifted distances from the border are the indices of the cell of the place.
use Rattle.std.proofs.Common.{ℕ, refl, ◌≡◌, ◌<◌, ◌^◌, arith, ap, subst, ◌/◌, ◌-◌, sym, to_z, of_z, w64}
use Rattle.std.proofs.lemmas.Int.{ints}
use Rattle.std.specs.Prelude.{unsigned_abs, ℤ, pos, neg_ℤ, ◌+ℤ◌, ◌≤ℤ◌, ◌<ℤ◌}
use Rattle.limits.proofs.Grids.{grid_positive}
use Rattle.limits.specs.Limits.{IsGrid}
use Rattle.cell_name.specs.Square.{Square, half, Holds}
use Rattle.cell_name.proofs.Cells.{Holds-square_at, square_at-name, same_square, half_at_most}
use Rattle.cell_name.proofs.cell.Cell.of.Goals as goal

-- a shifted coordinate is a whole number that 64 bits hold
shifted : (grid : ℕ) (x half' : ℤ) → IsGrid grid → half' ≡ pos (half grid) → neg_ℤ (pos (half grid)) ≤ℤ x → x <ℤ pos (half grid)
    → to_z w64 (of_z w64 (to_z w64 (of_z w64 x) +ℤ to_z w64 (of_z w64 half'))) ≡ x +ℤ pos (half grid)
shifted grid x half' is e west east =
    let small = half_at_most grid is in
    omega (arith, ints, small, e)

pub invariant_of-result : goal.invariant_of-result
invariant_of-result c =
    let g = c.requires.in_grid in
    let n = square_at-name c.args.grid c.args.level c.args.x c.args.y (grid_positive c.args.grid c.requires.known_grid) c.requires.level g in
    let ex = shifted c.args.grid c.args.x c.half-half.result c.requires.known_grid c.half-half.ensures g.west g.east in
    let ey = shifted c.args.grid c.args.y c.half-half.result c.requires.known_grid c.half-half.ensures g.south g.north in
    let P : ℤ → Type 0 = λ z. unsigned_abs z / 2 ^ (c.args.grid - c.args.level) < 2 ^ c.args.level in
    record { known_grid = c.requires.known_grid; level_in_grid = c.requires.level; column = subst P (sym ex) n.column; row = subst P (sym ey) n.row }

pub returns-clause-holds : goal.returns-clause-holds
returns-clause-holds c =
    let g = c.requires.in_grid in
    let ex = shifted c.args.grid c.args.x c.half-half.result c.requires.known_grid c.half-half.ensures g.west g.east in
    let ey = shifted c.args.grid c.args.y c.half-half.result c.requires.known_grid c.half-half.ensures g.south g.north in
    let P : Square → Type 0 = λ s. Holds s c.args.x c.args.y in
    subst P (sym (same_square _ _ refl refl (ap (λ z. unsigned_abs z / 2 ^ (c.args.grid - c.args.level)) ex) (ap (λ z. unsigned_abs z / 2 ^ (c.args.grid - c.args.level)) ey)))
    (Holds-square_at c.args.grid c.args.level c.args.x c.args.y g)
