use Rattle.std.proofs.Common.{◌≡◌, ◌+◌, List, ap, sym, ◌∙◌, subst, arith}
use Rattle.cell_name.specs.Cell.{square}
use Rattle.complex_box.specs.declared.CBox.{CBox}
use Rattle.limits.specs.Limits.{most_given_multipole}
use Rattle.row_recursions.specs.Cells.{quadrant_of}
use Rattle.row_recursions.specs.Rows.{row_of, shifted_up}
use Rattle.row_recursions.specs.Sizes.{RowWithin}
use Rattle.soundness.specs.Squares.{quadrant}
use Rattle.soundness.proofs.RowTotals.{wider}
use Rattle.certificate_rows.specs.Given.{cell_at, multipole_at}
use Rattle.certificate_rows.proofs.Quadrants.{quadrant_is}
use Rattle.certificate_rows.proofs.SameRows.{from_zeros, shifted_up_same, zeros_within}
use Rattle.certificate_rows.proofs.children.shift_child.Goals as goal

pub returns-clause-row : goal.returns-clause-row
returns-clause-row g c = λ k h.
    let P = g.row.P in
    let m = multipole_at c.args.cert.now c.args.d in
    let q = c.quadrant.result in
    let turned : quadrant (cell_at c.args.cert.now c.args.d) ≡ quadrant_of q = sym (quadrant_is (square c.node_at.result.1) q c.quadrant.ensures ∙ ap quadrant c.node_at.ensures.cell) in
    ap (λ z. shifted_up m z k) turned
    ∙ shifted_up_same P m (row_of c.multipole_row-row.result.now) (quadrant_of q) c.multipole_row-row.ensures.row k h
    ∙ ap (λ l. shifted_up (row_of l) (quadrant_of q) k) (sym c.new.ensures)
    ∙ from_zeros P c.clear.new.cells (shifted_up (row_of c.new.result.cells.now) (quadrant_of q)) (row_of c.shift_up.new.into) (c.clear.auto.cells ∙ c.requires.len) c.clear.ensures c.shift_up.ensures.adds k h

pub returns-clause-size : goal.returns-clause-size
returns-clause-size g c =
    let P = g.row.P in
    let Q : List CBox → Type 0 = λ l. RowWithin P most_given_multipole (row_of l) in
    wider P (0 + most_given_multipole) most_given_multipole (row_of c.shift_up.new.into) (omega arith)
    (c.shift_up.ensures.size 0 most_given_multipole (zeros_within P 0 c.clear.new.cells (c.clear.auto.cells ∙ c.requires.len) c.clear.ensures) (subst Q (sym c.new.ensures) c.multipole_row-row.ensures.size))
