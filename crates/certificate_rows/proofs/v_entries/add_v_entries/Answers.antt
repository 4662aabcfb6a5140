use Rattle.std.proofs.Common.{ℕ, ◌+◌, ◌*◌, ◌^◌, ap, sym, ◌∙◌, arith}
use Rattle.exact_math.specs.Ends.{BoxEnds, add_box}
use Rattle.cell_name.specs.Cell.{square}
use Rattle.complex_box.proofs.Sizes.{box_wider, add_box_within}
use Rattle.limits.specs.Limits.{most_given_local}
use Rattle.row_recursions.specs.Rows.{row_of}
use Rattle.row_recursions.proofs.RowSizes.{added_within}
use Rattle.soundness.proofs.RowTotals.{wider}
use Rattle.certificate_rows.specs.Entries.{nth_entry, v_row}
use Rattle.certificate_rows.proofs.Totals.{one_added}
use Rattle.certificate_rows.proofs.v_entries.add_v_entries.Goals as goal

pub add_row-requires-clause-fits : goal.add_row-requires-clause-fits
add_row-requires-clause-fits g c = λ k h.
    box_wider (most_given_local + 2 ^ 81 * c.loop-e.e-index + 2 ^ 81) (2 ^ 126) _ (omega (arith, c.requires.few, c.loop-e-test.true))
    (add_box_within (most_given_local + 2 ^ 81 * c.loop-e.e-index) (2 ^ 81) _ _ (c.loop-e.invariant.size k (omega (arith, h, c.loop-e.invariant.len))) (c.convert_entry.ensures.size k (omega (arith, h, c.loop-e.invariant.len))))

pub loop-e-preserved : goal.loop-e-preserved
loop-e-preserved g c =
    let P = g.row.P in
    let i = c.loop-e.e-index in
    let cert = c.args.cert.now in
    let f : ℕ → ℕ → BoxEnds = λ e. v_row cert P (square c.args.b) (nth_entry cert e) in
    record {
      len = c.add_row.ensures.len ∙ c.loop-e.invariant.len;
      part = c.convert_entry.ensures.len;
      adds = one_added P f c.args.entries.now i 0 (row_of c.args.into.now) (row_of c.loop-e.into) (row_of c.add_row.new.into) c.loop-e-test.true c.loop-e.invariant.adds
          (λ k h. c.add_row.ensures.adds k (omega (arith, h, c.loop-e.invariant.len))
          ∙ ap (add_box (row_of c.loop-e.into k)) (sym (c.convert_entry.ensures.row k h) ∙ ap (λ x. v_row cert P (square c.args.b) x k) c.entry_at.ensures.entry));
      size = wider P (most_given_local + 2 ^ 81 * i + 2 ^ 81) (most_given_local + 2 ^ 81 * (i + 1)) (row_of c.add_row.new.into) (omega arith)
          (added_within P (most_given_local + 2 ^ 81 * i) (2 ^ 81) (row_of c.loop-e.into) (row_of c.convert_entry.new.part) (row_of c.add_row.new.into)
          (λ k h. c.add_row.ensures.adds k (omega (arith, h, c.loop-e.invariant.len))) c.loop-e.invariant.size c.convert_entry.ensures.size);
    }

pub returns-clause-size : goal.returns-clause-size
returns-clause-size g c = wider g.row.P (most_given_local + 2 ^ 81 * c.loop-e.e-index) (2 ^ 111) (row_of c.loop-e.into) (omega (arith, c.requires.few, c.loop-e.auto.e-index-end)) c.loop-e.invariant.size
