use Rattle.std.proofs.Common.{ℕ, ◌+◌, ◌*◌, ◌^◌, get_or, ap, ◌∙◌, arith}
use Rattle.exact_math.specs.Ends.{BoxEnds, add_box}
use Rattle.cell_name.specs.Cell.{square}
use Rattle.certificate_nodes.specs.Presented.{accounting_of}
use Rattle.row_recursions.specs.Rows.{row_of}
use Rattle.soundness.proofs.RowTotals.{wider}
use Rattle.certificate_rows.specs.Entries.{nth_entry, x_row}
use Rattle.certificate_rows.proofs.Totals.{total_more}
use Rattle.certificate_rows.proofs.x_entries.sum_x_entries.Goals as goal

pub add_x_entry-requires-clause-sum : goal.add_x_entry-requires-clause-sum
add_x_entry-requires-clause-sum g c = wider g.row.P (2 ^ 76 * c.loop-e.e-index) (2 ^ 109) (row_of c.loop-e.row) (omega (arith, c.requires.few, c.loop-e-test.true)) c.loop-e.invariant.size

pub loop-e-preserved : goal.loop-e-preserved
loop-e-preserved g c =
    let P = g.row.P in
    let i = c.loop-e.e-index in
    let A = accounting_of c.args.given.now in
    let f : ℕ → ℕ → BoxEnds = λ e. x_row A (square c.args.b) (nth_entry c.args.given.now.certificate e) in
    record {
      len = c.add_x_entry.ensures.len;
      sum = λ k h. total_more f c.args.entries.now i 0 k _ _ c.loop-e-test.true (c.loop-e.invariant.sum k h)
          (c.add_x_entry.ensures.adds k h
          ∙ ap (add_box (row_of c.loop-e.row k)) (ap (λ x. x_row A (square c.args.b) x k) (c.entry_at-entry.ensures.entry ∙ ap (λ d. nth_entry d (get_or c.args.entries.now i 0)) c.cert.ensures.certificate)));
      size = wider P (2 ^ 76 * i + 2 ^ 76) (2 ^ 76 * (i + 1)) (row_of c.add_x_entry.new.into) (omega arith) (c.add_x_entry.ensures.size (2 ^ 76 * i) c.loop-e.invariant.size);
    }

pub returns-clause-size : goal.returns-clause-size
returns-clause-size g c = wider g.row.P (2 ^ 76 * c.loop-e.e-index) (2 ^ 106) (row_of c.loop-e.row) (omega (arith, c.requires.few, c.loop-e.auto.e-index-end)) c.loop-e.invariant.size
