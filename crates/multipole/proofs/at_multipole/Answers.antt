use Rattle.std.proofs.Common.{◌∙◌, ap₂, ◌+◌, ◌*◌, ◌/◌, ◌^◌, subst, subst₂, sym, pos, to_z-of_z, lit<}
use Rattle.exact_math.specs.Ends.{BoxEndsContain, BoxEndsWithin, BoxEndsNarrow}
use Rattle.exact_math.specs.Gaussian.{gaussian}
use Rattle.exact_math.specs.Sums.{sum_terms}
use Rattle.truncation.specs.Entries.{multipole_cut}
use Rattle.exact_math.specs.Within.{GaussianBeyond}
use Rattle.row_recursions.specs.Cells.{side_of, doubled_centre_of, offset_from}
use Rattle.row_recursions.specs.Rows.{row_of, multipole_value}
use Rattle.row_recursions.proofs.Points.{side_positive}
use Rattle.row_recursions.proofs.RowSizes.{multipole_value_within}
use Rattle.row_recursions.proofs.RowWidths.{multipole_value_narrow}
use Rattle.multipole.proofs.RowCalls.{value_contains}
use Rattle.multipole.proofs.at_multipole.Goals as goal

pub value_at-requires : goal.value_at-requires
value_at-requires g c =
    let f = c.ranges.x in
    let h = c.ranges.y in
    let e = simp to_z-of_z at c.offset.ensures.value in
    (lit< tt, (c.side_bits.ensures.small, (c.offset.ensures.size, (subst₂ (λ n z. GaussianBeyond (3 * n) z) (sym c.side_bits.ensures.side) (sym e) c.requires.far, c.requires.size))))

pub returns-clause-ends : goal.returns-clause-ends
returns-clause-ends g c =
    let f = c.ranges.x in
    let h = c.ranges.y in
    let e = simp to_z-of_z at c.offset.ensures.value in
    c.value_at.ensures ∙ ap₂ (multipole_value g.row.P (row_of c.args.row.cells.now)) c.side_bits.ensures.side e

pub returns-clause-contains : goal.returns-clause-contains
returns-clause-contains g c = λ xs h. subst (λ b. BoxEndsContain (pos (2 ^ 40)) b (sum_terms (multipole_cut g.row.P (doubled_centre_of c.args.cell) (gaussian c.args.x c.args.y)) xs)) (sym (returns-clause-ends g c))
    (value_contains g.row.P c.args.cell (gaussian c.args.x c.args.y) xs (row_of c.args.row.cells.now) c.requires.far h)

pub returns-clause-size : goal.returns-clause-size
returns-clause-size g c = λ n h. subst (BoxEndsWithin (g.row.P * n)) (sym (returns-clause-ends g c))
    (multipole_value_within g.row.P n (side_of c.args.cell) (offset_from c.args.cell (gaussian c.args.x c.args.y)) (row_of c.args.row.cells.now) (side_positive c.args.cell) c.requires.far h)

pub returns-clause-narrow : goal.returns-clause-narrow
returns-clause-narrow g c = λ w h. subst (BoxEndsNarrow (g.row.P * (w + 2) / side_of c.args.cell + 2)) (sym (returns-clause-ends g c))
    (multipole_value_narrow g.row.P w (side_of c.args.cell) (offset_from c.args.cell (gaussian c.args.x c.args.y)) (row_of c.args.row.cells.now) (side_positive c.args.cell) c.requires.far h)
