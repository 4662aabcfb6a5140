use Rattle.std.proofs.Common.{rules, ℕ, ◌∙◌, ◌*◌, ◌^◌, ap, sym, subst, subst₂, arith, List, to_z-of_z}
use Rattle.cell_name.specs.Square.{Square, side}
use Rattle.cert_text.specs.Certificate.{nth_box, nth_line}
use Rattle.complex_box.proofs.Sizes.{box_wider}
use Rattle.complex_box.specs.declared.CBox.{CBox}
use Rattle.exact_math.proofs.Orders.{order_bounds}
use Rattle.exact_math.specs.Ends.{BoxEnds}
use Rattle.exact_math.specs.Gaussian.{gaussian}
use Rattle.exact_math.specs.Orders.{IsOrder}
use Rattle.exact_math.specs.Within.{GaussianBeyond}
use Rattle.limits.specs.Grid.{IsInGrid}
use Rattle.row_recursions.specs.Cells.{side_of, offset_from}
use Rattle.row_recursions.specs.Rows.{row_of, multipole_value}
use Rattle.row_recursions.specs.Sizes.{RowWithin}
use Rattle.soundness.specs.Squares.{offset}
use Rattle.certificate_targets.proofs.SameValues.{multipole_value-same}
use Rattle.certificate_targets.proofs.far.row_value.Goals as goal

pub at_multipole-requires : goal.at_multipole-requires
at_multipole-requires g c =
    let x = c.ranges.x in
    let y = c.ranges.y in
    let order = subst IsOrder (sym c.requires.order) c.requires.certificate.head_is.order.is_order in
    let grid = subst (λ n. IsInGrid n c.args.x c.args.y) (sym (ap (λ (q : Square). q.grid) c.cell_at.ensures)) c.requires.in_grid in
    let far = subst (λ (s : Square). GaussianBeyond (3 * side s) (offset s (gaussian c.args.x c.args.y))) (sym c.cell_at.ensures) c.requires.far in
    let small = subst₂ (λ P (cells : List CBox). RowWithin P (2 ^ 80) (row_of cells)) (sym c.requires.order) (sym c.new-row.ensures) c.multipole_row.ensures.size in
    simp to_z-of_z (search rules, (order, (grid, (far, small))))

pub returns-clause-ends : goal.returns-clause-ends
returns-clause-ends g c =
    let x = c.ranges.x in
    let y = c.ranges.y in
    let e = simp to_z-of_z at c.at_multipole.ensures.ends in
    let m : ℕ → BoxEnds = nth_box (nth_line c.args.cert.now.multipoles c.args.n).numbers in
    let s : ℕ = side_of c.cell_at.result in
    let t = gaussian c.args.x c.args.y in
    let z = offset_from c.cell_at.result t in
    e ∙ ap (λ (cells : List CBox). multipole_value g.row.P (row_of cells) s z) c.new-row.ensures
    ∙ multipole_value-same g.row.P (row_of c.multipole_row.result.now) m s z (λ k l. c.multipole_row.ensures.row k (omega (arith, l, c.requires.order)))
    ∙ ap (λ (q : Square). multipole_value g.row.P m (side q) (offset q t)) c.cell_at.ensures

pub returns-clause-size : goal.returns-clause-size
returns-clause-size g c =
    let small = subst₂ (λ P (cells : List CBox). RowWithin P (2 ^ 80) (row_of cells)) (sym c.requires.order) (sym c.new-row.ensures) c.multipole_row.ensures.size in
    let orders = order_bounds c.args.cert.now.head.order c.requires.certificate.head_is.order.is_order in
    box_wider (g.row.P * 2 ^ 80) (2 ^ 85) _ (omega (arith, orders.1, c.requires.order)) (c.at_multipole.ensures.size (2 ^ 80) small)
