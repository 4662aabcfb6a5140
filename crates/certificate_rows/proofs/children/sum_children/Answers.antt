use Rattle.std.proofs.Common.{ℕ, ◌+◌, ◌*◌, ◌^◌, ap, sym, ◌∙◌, arith}
use Rattle.exact_math.specs.Ends.{BoxEnds, add_box}
use Rattle.complex_box.proofs.Sizes.{box_wider, add_box_within}
use Rattle.limits.specs.Limits.{most_given_multipole}
use Rattle.row_recursions.specs.Rows.{row_of, shifted_up}
use Rattle.row_recursions.proofs.RowSizes.{added_within}
use Rattle.soundness.specs.Squares.{quadrant}
use Rattle.soundness.proofs.RowTotals.{wider}
use Rattle.certificate_rows.specs.Given.{cell_at, multipole_at}
use Rattle.certificate_rows.proofs.Totals.{total_more}
use Rattle.certificate_rows.proofs.children.sum_children.Goals as goal

pub add_row-requires-clause-fits : goal.add_row-requires-clause-fits
add_row-requires-clause-fits g c = λ k h.
    box_wider (most_given_multipole * c.loop-d.d-index + most_given_multipole) (2 ^ 126) _ (omega (arith, c.requires.few, c.loop-d-test.true))
    (add_box_within (most_given_multipole * c.loop-d.d-index) most_given_multipole _ _ (c.loop-d.invariant.size k (omega (arith, h, c.loop-d.invariant.len))) (c.shift_child.ensures.size k (omega (arith, h, c.loop-d.invariant.len))))

pub loop-d-preserved : goal.loop-d-preserved
loop-d-preserved g c =
    let P = g.row.P in
    let i = c.loop-d.d-index in
    let f : ℕ → ℕ → BoxEnds = λ e. shifted_up (multipole_at c.args.cert.now e) (quadrant (cell_at c.args.cert.now e)) in
    record {
      len = c.add_row.ensures.len ∙ c.loop-d.invariant.len;
      part = c.shift_child.ensures.len;
      row = λ k h. total_more f c.args.children.now i 0 k _ _ c.loop-d-test.true (c.loop-d.invariant.row k h)
          (c.add_row.ensures.adds k (omega (arith, h, c.loop-d.invariant.len)) ∙ ap (add_box (row_of c.loop-d.row k)) (sym (c.shift_child.ensures.row k h)));
      size = wider P (most_given_multipole * i + most_given_multipole) (most_given_multipole * (i + 1)) (row_of c.add_row.new.into) (omega arith)
          (added_within P (most_given_multipole * i) most_given_multipole (row_of c.loop-d.row) (row_of c.shift_child.new.part) (row_of c.add_row.new.into)
          (λ k h. c.add_row.ensures.adds k (omega (arith, h, c.loop-d.invariant.len))) c.loop-d.invariant.size c.shift_child.ensures.size);
    }
