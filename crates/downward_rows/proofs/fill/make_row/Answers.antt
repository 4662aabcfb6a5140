use Rattle.std.proofs.Common.{length, ◌+◌, ◌^◌, ap, ◌∙◌, subst, arith, lit<}
use Rattle.exact_math.proofs.Orders.{order_bounds}
use Rattle.exact_math.specs.Ends.{add_box}
use Rattle.cell_name.proofs.Quarters.{right_of_parent, top_of_parent}
use Rattle.cell_name.specs.Cell.{square}
use Rattle.cell_lists.proofs.CellNumbers.{level_positive}
use Rattle.cell_lists.proofs.TreeNumbers.{read_at}
use Rattle.soundness.proofs.RowTotals.{wider}
use Rattle.local_shift.proofs.Sums.{nothing_at}
use Rattle.row_recursions.specs.Cells.{quadrant_of}
use Rattle.row_recursions.specs.Rows.{row_of, shifted_down}
use Rattle.soundness.specs.Squares.{quadrant}
use Rattle.field_basis.proofs.Trees.{some_tree, tree_of_basis}
use Rattle.field_basis.specs.Basis.{IsBasis}
use Rattle.downward_rows.specs.Entries.{v_rows_of, x_rows_of}
use Rattle.downward_rows.proofs.FilledRows.{zero_row_within, three_added, quadrant_read}
use Rattle.downward_rows.proofs.fill.make_row.Goals as goal

pub quadrant-requires : goal.quadrant-requires
quadrant-requires g c =
    let b = c.args.basis.now in
    let s : IsBasis g.row.P b = subst (IsBasis g.row.P) c.basis.view_is c.basis.invariant in
    let level = level_positive b.tree (some_tree b.points b.tree (tree_of_basis g.row.P b s)) c.args.n c.requires.below c.requires.cell in
    let e = read_at b.tree c.cells.result.now c.args.n c.index-cells-n.result (c.cells.ensures.all ∙ ap (λ b. b.tree.cells) c.basis.view_is) c.requires.cell c.index-cells-n.is in
    omega (arith, level, ap (λ q. q.level) e)

pub add_v_entries-requires : goal.add_v_entries-requires
add_v_entries-requires g c =
    let b = c.args.basis.now in
    let s : IsBasis g.row.P b = subst (IsBasis g.row.P) c.basis.view_is c.basis.invariant in
    let few = order_bounds g.row.P s.order in (
      lit< tt,
      (
        omega (arith, few),
        (
          c.requires.cell,
          (
            c.requires.rows,
            (
              c.shift_down.ensures.len,
              (
                wider g.row.P (2 ^ 90 + 0) (2 ^ 90) (row_of c.shift_down.new.into) (omega arith)
                    (c.shift_down.ensures.size (2 ^ 90) 0 c.requires.parent (zero_row_within g.row.P c.clear.new.cells (c.clear.auto.cells ∙ c.requires.len) c.clear.ensures)),
                omega (arith, c.requires.room, c.shift_down.ensures.work.translations),
              ),
            ),
          ),
        ),
      ),
    )

pub returns-clause-row : goal.returns-clause-row
returns-clause-row g c = λ k h.
    let b = c.args.basis.now in
    let e = read_at b.tree c.cells.result.now c.args.n c.index-cells-n.result (c.cells.ensures.all ∙ ap (λ b. b.tree.cells) c.basis.view_is) c.requires.cell c.index-cells-n.is in
    three_added g.row.P (row_of c.clear.new.cells) (row_of c.shift_down.new.into) (row_of c.add_v_entries.new.into) (row_of c.add_x_entries.new.into)
    (shifted_down g.row.P (row_of c.args.parent.cells.now) (quadrant_of c.quadrant.result)) (v_rows_of g.row.P b c.args.n) (x_rows_of b c.args.n)
    (nothing_at g.row.P c.clear.new.cells (c.clear.auto.cells ∙ c.requires.len) c.clear.ensures) c.shift_down.ensures.adds c.add_v_entries.ensures.adds c.add_x_entries.ensures.adds k h
    ∙ ap (λ z. add_box z (add_box (v_rows_of g.row.P b c.args.n k) (x_rows_of b c.args.n k)))
    (ap (λ q. shifted_down g.row.P (row_of c.args.parent.cells.now) q k)
    (quadrant_read c.quadrant.result (square c.index-cells-n.result) (right_of_parent (square c.index-cells-n.result) c.quadrant.result c.quadrant.ensures) (top_of_parent (square c.index-cells-n.result) c.quadrant.result c.quadrant.ensures) ∙ ap quadrant e))

pub bounds-cells-n : goal.bounds-cells-n
bounds-cells-n g c = omega (arith, c.requires.cell, ap length (c.cells.ensures.all ∙ ap (λ b. b.tree.cells) c.basis.view_is))
