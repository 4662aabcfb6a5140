use Rattle.std.proofs.Common.{◌^◌, arith, lit≤, rules, subst, sym, to_z-of_z, SFits}
use Rattle.std.proofs.lemmas.Int.{ints}
use Rattle.std.specs.Int.{w64}
use Rattle.cell_name.specs.Cell.{square}
use Rattle.cell_name.specs.Square.{Holds}
use Rattle.complex_box.proofs.Sizes.{box_wider}
use Rattle.row_recursions.specs.Rows.{row_of}
use Rattle.row_recursions.specs.Sizes.{RowWithin}
use Rattle.benches.proofs.rows.loops.local_values.Goals as goal

pub at_local-requires : goal.at_local-requires
at_local-requires c =
    let place = c.inside-at.ensures.range.place in
    let x : SFits w64 c.inside-at.result.x = omega (arith, ints, place.west, place.east) in
    let y : SFits w64 c.inside-at.result.y = omega (arith, ints, place.south, place.north) in
    let held : Holds (square c.cell-cell.result) c.inside-at.result.x c.inside-at.result.y =
    subst (λ s. Holds s c.inside-at.result.x c.inside-at.result.y) (sym c.cell-cell.ensures) c.inside-at.ensures.inside in
    let size : RowWithin 16 (2 ^ 90) (row_of c.new.result.cells.now) =
    λ k h. box_wider (2 ^ 60) (2 ^ 90) _ (lit≤ tt) (subst (λ cells. RowWithin 16 (2 ^ 60) (row_of cells)) (sym c.new.ensures) c.sample_row-row.ensures k h) in
    simp to_z-of_z (search rules, (search rules, (held, size)))
