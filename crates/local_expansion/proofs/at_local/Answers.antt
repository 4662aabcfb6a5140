use Rattle.std.proofs.Common.{◌∙◌, ap₂, ◌+◌, ◌*◌, ◌/◌, ◌^◌, subst, subst₂, sym, pos, to_z-of_z, lit<}
use Rattle.exact_math.specs.Ends.{BoxEndsContain, BoxEndsWithin, BoxEndsNarrow}
use Rattle.exact_math.specs.Gaussian.{gaussian}
use Rattle.exact_math.specs.Within.{GaussianWithin}
use Rattle.row_recursions.specs.Cells.{side_of, doubled_centre_of, offset_from}
use Rattle.row_recursions.specs.Rows.{row_of, local_value}
use Rattle.row_recursions.proofs.FieldLaws.{local_values}
use Rattle.row_recursions.proofs.Points.{held_in_grid, side_positive, offset_within}
use Rattle.row_recursions.proofs.RowSizes.{local_value_within}
use Rattle.row_recursions.proofs.RowWidths.{local_value_narrow}
use Rattle.local_expansion.proofs.at_local.Goals as goal

pub offset-requires : goal.offset-requires
offset-requires g c =
    let f = c.ranges.x in
    let h = c.ranges.y in
    simp to_z-of_z (held_in_grid c.args.cell c.args.x c.args.y c.requires.inside)

pub value_at-requires : goal.value_at-requires
value_at-requires g c =
    let f = c.ranges.x in
    let h = c.ranges.y in
    let e = simp to_z-of_z at c.offset.ensures.value in
    (lit< tt, (c.requires.order, (c.side_bits.ensures.small, (subst₂ GaussianWithin (sym c.side_bits.ensures.side) (sym e) (offset_within c.args.cell c.args.x c.args.y c.requires.inside), c.requires.size))))

pub returns-clause-ends : goal.returns-clause-ends
returns-clause-ends g c =
    let f = c.ranges.x in
    let h = c.ranges.y in
    let e = simp to_z-of_z at c.offset.ensures.value in
    c.value_at.ensures ∙ ap₂ (local_value g.row.P (row_of c.args.row.cells.now)) c.side_bits.ensures.side e

pub returns-clause-contains : goal.returns-clause-contains
returns-clause-contains g c = λ field h. subst (λ b. BoxEndsContain (pos (2 ^ 40)) b (field (gaussian c.args.x c.args.y))) (sym (returns-clause-ends g c))
    (local_values g.row.P (side_of c.args.cell) (doubled_centre_of c.args.cell) (gaussian c.args.x c.args.y) field (row_of c.args.row.cells.now) (side_positive c.args.cell) h)

pub returns-clause-size : goal.returns-clause-size
returns-clause-size g c = λ n h. subst (BoxEndsWithin (g.row.P * n)) (sym (returns-clause-ends g c))
    (local_value_within g.row.P n (side_of c.args.cell) (offset_from c.args.cell (gaussian c.args.x c.args.y)) (row_of c.args.row.cells.now) (side_positive c.args.cell) (offset_within c.args.cell c.args.x c.args.y c.requires.inside) h)

pub returns-clause-narrow : goal.returns-clause-narrow
returns-clause-narrow g c = λ w h. subst (BoxEndsNarrow (g.row.P * (w + 2) / side_of c.args.cell + 2)) (sym (returns-clause-ends g c))
    (local_value_narrow g.row.P w (side_of c.args.cell) (offset_from c.args.cell (gaussian c.args.x c.args.y)) (row_of c.args.row.cells.now) (side_positive c.args.cell) (offset_within c.args.cell c.args.x c.args.y c.requires.inside) h)
