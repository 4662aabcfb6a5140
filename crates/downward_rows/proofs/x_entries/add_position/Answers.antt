use Rattle.std.proofs.Common.{◌+◌, ◌*◌, ◌^◌, get_or, subst, ap, ◌∙◌, arith}
use Rattle.std.proofs.lemmas.List.{get_or_default}
use Rattle.exact_math.specs.Ends.{add_box}
use Rattle.cell_name.specs.Cell.{square}
use Rattle.soundness.proofs.RowTotals.{wider}
use Rattle.points.proofs.Ranges.{range_in_widest}
use Rattle.points.proofs.Slices.{first_point}
use Rattle.points.specs.Limits.{InRange, weight64}
use Rattle.points.specs.Points.{place}
use Rattle.points.specs.declared.Point.{Point}
use Rattle.row_recursions.proofs.Points.{weight_bounded}
use Rattle.row_recursions.specs.Rows.{row_of}
use Rattle.soundness.specs.Squares.{IsFarFrom}
use Rattle.field_basis.specs.Targets.{no_point}
use Rattle.row_recursions.specs.Cells.{far_coefficients_in}
use Rattle.downward_rows.proofs.x_entries.add_position.Goals as goal

pub add_far_source-requires-clause-range : goal.add_far_source-requires-clause-range
add_far_source-requires-clause-range g c = subst (InRange c.args.cell.grid) (get_or_default c.args.points.now c.args.k no_point first_point c.requires.far.inside) c.requires.far.range

pub add_far_source-requires-clause-far : goal.add_far_source-requires-clause-far
add_far_source-requires-clause-far g c =
    let Q : Point → Type 0 = λ p. IsFarFrom (square c.args.cell) (place p) in
    subst Q (get_or_default c.args.points.now c.args.k no_point first_point c.requires.far.inside) c.requires.far.far

pub returns-clause-adds : goal.returns-clause-adds
returns-clause-adds g c = λ k h.
    c.add_far_source.ensures.adds k h
    ∙ ap (λ p. add_box (row_of c.args.into.now k) (far_coefficients_in (square c.args.cell) p k)) (get_or_default c.args.points.now c.args.k first_point no_point c.requires.far.inside)

pub returns-clause-size : goal.returns-clause-size
returns-clause-size g c = λ n h.
    let p : Point = get_or c.args.points.now c.args.k first_point in
    let light = weight_bounded p (range_in_widest c.args.cell.grid p c.args.cell.known_grid (subst (InRange c.args.cell.grid) (get_or_default c.args.points.now c.args.k no_point first_point c.requires.far.inside) c.requires.far.range)) in
    wider g.row.P (n + 2 ^ 40 * weight64 p) (n + 2 ^ 67) (row_of c.add_far_source.new.into) (omega (arith, light)) (c.add_far_source.ensures.size n h)
