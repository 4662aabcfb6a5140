use Rattle.std.proofs.Common.{ℕ, ◌<◌, List, ap, sym, ◌∙◌, refl, subst, arith, lit<}
use Rattle.std.specs.Prelude.{All}
use Rattle.exact_math.specs.Orders.{IsOrder}
use Rattle.exact_math.specs.Ends.{add_box}
use Rattle.cell_name.specs.Cell.{square}
use Rattle.cert_text.specs.Certificate.{Certificate}
use Rattle.certificate_nodes.specs.Presented.{accounting_of}
use Rattle.row_recursions.specs.Rows.{row_of}
use Rattle.soundness.specs.Computed.{computed_local_row, brought_down, converted_rows, far_rows}
use Rattle.soundness.specs.Steps.{total_row}
use Rattle.certificate_rows.specs.Entries.{nth_entry, HasDistance, v_row}
use Rattle.certificate_rows.specs.Given.{cell_at}
use Rattle.certificate_rows.proofs.LocalRules.{entries_not_many, entries_fit, entries_apart, three_rows, v_total, x_total}
use Rattle.certificate_rows.proofs.Orders.{order_is}
use Rattle.certificate_rows.proofs.locals.computed_row.Goals as goal

pub add_v_entries-requires : goal.add_v_entries-requires
add_v_entries-requires g c =
    let m = c.args.given.now in
    let over = c.certificate-cert.ensures.over in
    let same = c.certificate-cert.ensures.certificate in
    let xs : List ℕ = c.entries-entries.result.now in
    let here = c.node_at.ensures.cell ∙ ap (λ d. cell_at d c.args.n) same in
    let Q : Certificate → Type 0 = λ d. All (λ e. e < d.head.entries) xs in
    let R : Certificate → Type 0 = λ d. All (λ e. HasDistance d (square c.node_at.result.1) (nth_entry d e)) xs in (
      lit< tt,
      (
        subst IsOrder c.requires.order (order_is m.certificate over.is_certificate),
        (
          ap (λ d. d.head.order) same ∙ c.requires.order,
          (
            subst Q (sym same) c.entries-entries.ensures.range,
            (
              subst R (sym same) (entries_apart m over c.args.n xs c.entries-entries.ensures.numbers c.requires.entries (square c.node_at.result.1) here),
              (entries_not_many m over c.args.n xs c.entries-entries.ensures.numbers, (c.bring_down.ensures.len, c.bring_down.ensures.size)),
            ),
          ),
        ),
      ),
    )

pub sum_x_entries-requires-clause-fits : goal.sum_x_entries-requires-clause-fits
sum_x_entries-requires-clause-fits g c = entries_fit c.args.given.now c.certificate-cert.ensures.over c.args.n c.entries-entries.result.now c.entries-entries.ensures.numbers c.requires.entries

pub sum_x_entries-requires-clause-few : goal.sum_x_entries-requires-clause-few
sum_x_entries-requires-clause-few g c = entries_not_many c.args.given.now c.certificate-cert.ensures.over c.args.n c.entries-entries.result.now c.entries-entries.ensures.numbers

pub returns-clause-row : goal.returns-clause-row
returns-clause-row g c =
    let P = g.row.P in
    let m = c.args.given.now in
    let A = accounting_of m in
    let n = c.args.n in
    let over = c.certificate-cert.ensures.over in
    let same = c.certificate-cert.ensures.certificate in
    let xs : List ℕ = c.entries-entries.result.now in
    let cell = square c.node_at.result.1 in
    let here = c.node_at.ensures.cell ∙ ap (λ d. cell_at d n) same in
    three_rows P (computed_local_row P A n) (brought_down P A n) (converted_rows P A n) (far_rows P A n) (row_of c.bring_down.new.row) (row_of c.add_v_entries.new.into) (row_of c.add_row.new.into)
    (λ k. refl) c.bring_down.ensures.row
    (λ k h. c.add_v_entries.ensures.adds k h ∙ ap (add_box (row_of c.bring_down.new.row k)) (ap (λ d. total_row (λ e. v_row d P cell (nth_entry d e)) xs k) same ∙ v_total m over n xs c.entries-entries.ensures.numbers P cell here k))
    (row_of c.sum_x_entries.new.row) (λ k h. sym (x_total m over n xs c.entries-entries.ensures.numbers P cell here k) ∙ c.sum_x_entries.ensures.row k h)
    (λ k h. c.add_row.ensures.adds k (omega (arith, h, c.add_v_entries.ensures.len)))
