use Rattle.std.proofs.Common.{◌*◌, ◌^◌, arith, lit≤, rules, subst, sym, to_z-of_z, SFits}
use Rattle.std.proofs.lemmas.Int.{ints}
use Rattle.std.specs.Int.{w64}
use Rattle.exact_math.specs.Within.{GaussianBeyond}
use Rattle.truncation.specs.Places.{doubled_offset}
use Rattle.cell_name.specs.Square.{side, IsInGrid}
use Rattle.points.specs.Points.{place}
use Rattle.complex_box.proofs.Sizes.{box_wider}
use Rattle.row_recursions.specs.Cells.{side_of, offset_from}
use Rattle.row_recursions.specs.Geometry.{doubled_centre}
use Rattle.row_recursions.specs.Rows.{row_of}
use Rattle.row_recursions.specs.Sizes.{RowWithin}
use Rattle.benches.proofs.rows.loops.multipole_values.Goals as goal
use Rattle.benches.proofs.rows.loops.multipole_values.Goals.{After-struct_told-in-loop-n-1}

module _ (c : After-struct_told-in-loop-n-1) where
  row_size : RowWithin 16 (2 ^ 80) (row_of c.new.result.cells.now)
  row_size = λ k h. box_wider (2 ^ 60) (2 ^ 80) _ (lit≤ tt) (subst (λ cells. RowWithin 16 (2 ^ 60) (row_of cells)) (sym c.new.ensures) c.sample_row-row.ensures k h)

  far : GaussianBeyond (3 * side_of c.cell-cell.result) (offset_from c.cell-cell.result (place c.outside-at.result))
  far = subst (λ s. GaussianBeyond (3 * side s) (doubled_offset (place c.outside-at.result) (doubled_centre s))) (sym c.cell-cell.ensures) c.outside-at.ensures.far

pub at_multipole-requires : goal.at_multipole-requires
at_multipole-requires c =
    let place = c.outside-at.ensures.range.place in
    let x : SFits w64 c.outside-at.result.x = omega (arith, ints, place.west, place.east) in
    let y : SFits w64 c.outside-at.result.y = omega (arith, ints, place.south, place.north) in
    let grid : IsInGrid c.cell-cell.result.grid c.outside-at.result.x c.outside-at.result.y = subst (λ s. IsInGrid s.grid c.outside-at.result.x c.outside-at.result.y) (sym c.cell-cell.ensures) place in
    simp to_z-of_z (search rules, (search rules, (grid, (far c, row_size c))))
