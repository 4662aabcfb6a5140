use Rattle.std.proofs.Common.{◌≡◌, ◌+◌, List, ap, ap₂, sym, ◌∙◌, subst, arith}
use Rattle.cell_name.specs.Cell.{square}
use Rattle.cell_name.specs.Square.{Square}
use Rattle.certificate_nodes.specs.Presented.{accounting_of}
use Rattle.complex_box.specs.declared.CBox.{CBox}
use Rattle.limits.specs.Limits.{most_given_local}
use Rattle.row_recursions.specs.Cells.{quadrant_of}
use Rattle.row_recursions.specs.Rows.{row_of, shifted_down}
use Rattle.row_recursions.specs.Sizes.{RowWithin}
use Rattle.soundness.specs.Squares.{quadrant}
use Rattle.soundness.proofs.RowTotals.{wider}
use Rattle.certificate_rows.specs.Given.{cell_at, parent_at, local_at}
use Rattle.certificate_rows.proofs.LocalRules.{brought_down_is, parent_in_range}
use Rattle.certificate_rows.proofs.MultipoleRules.{below_root}
use Rattle.certificate_rows.proofs.Quadrants.{quadrant_is}
use Rattle.certificate_rows.proofs.SameRows.{from_zeros, shifted_down_same, zeros_within}
use Rattle.certificate_rows.proofs.locals.bring_down.Goals as goal

pub local_row-above-requires-clause-node : goal.local_row-above-requires-clause-node
local_row-above-requires-clause-node g c =
    parent_in_range c.args.given.now c.certificate-cert.ensures.over c.args.n c.if-n-gt0.true c.requires.node c.certificate-cert.result.now c.node_at-parent.result.0 c.certificate-cert.ensures.certificate c.node_at-parent.ensures.parent

pub quadrant-requires : goal.quadrant-requires
quadrant-requires g c =
    let here = c.node_at-parent.ensures.cell ∙ ap (λ d. cell_at d c.args.n) c.certificate-cert.ensures.certificate in
    omega (arith, below_root c.args.given.now c.requires.nodes c.args.n c.requires.node c.if-n-gt0.true, ap (λ (q : Square). q.level) here)

pub returns-then-n-gt0-clause-row : goal.returns-then-n-gt0-clause-row
returns-then-n-gt0-clause-row g c = λ k h.
    let P = g.row.P in
    let A = accounting_of c.args.given.now in
    let n = c.args.n in
    let same = c.certificate-cert.ensures.certificate in
    let q = c.quadrant.result in
    let here : square c.node_at-parent.result.1 ≡ A.cell n = c.node_at-parent.ensures.cell ∙ ap (λ d. cell_at d n) same in
    let turned : quadrant (A.cell n) ≡ quadrant_of q = sym (quadrant_is (square c.node_at-parent.result.1) q c.quadrant.ensures ∙ ap quadrant here) in
    let above : A.local (A.parent n) ≡ local_at c.certificate-cert.result.now c.node_at-parent.result.0 = sym (ap₂ local_at same (c.node_at-parent.ensures.parent ∙ ap (λ d. parent_at d n) same)) in
    brought_down_is P A n k c.if-n-gt0.true
    ∙ ap₂ (λ m z. shifted_down P m z k) above turned
    ∙ shifted_down_same P (local_at c.certificate-cert.result.now c.node_at-parent.result.0) (row_of c.local_row-above.result.now) (quadrant_of q) c.local_row-above.ensures.row k
    ∙ ap (λ l. shifted_down P (row_of l) (quadrant_of q) k) (sym c.new.ensures)
    ∙ from_zeros P c.clear.new.cells (shifted_down P (row_of c.new.result.cells.now) (quadrant_of q)) (row_of c.shift_down.new.into) (c.clear.auto.cells ∙ c.requires.len) c.clear.ensures c.shift_down.ensures.adds k h

pub returns-then-n-gt0-clause-size : goal.returns-then-n-gt0-clause-size
returns-then-n-gt0-clause-size g c =
    let P = g.row.P in
    let Q : List CBox → Type 0 = λ l. RowWithin P most_given_local (row_of l) in
    wider P (most_given_local + 0) most_given_local (row_of c.shift_down.new.into) (omega arith)
    (c.shift_down.ensures.size most_given_local 0 (subst Q (sym c.new.ensures) c.local_row-above.ensures.size) (zeros_within P 0 c.clear.new.cells (c.clear.auto.cells ∙ c.requires.len) c.clear.ensures))
