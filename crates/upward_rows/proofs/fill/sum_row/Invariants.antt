-- The rows of the children so far that have a source, shifted up.
use Rattle.std.proofs.Common.{ℕ, ◌≡◌, ◌*◌, ◌^◌, take, length}
use Rattle.field_basis.specs.Counts.{translated}
use Rattle.quadtree.specs.TreeModel.{IsTreeOf}
use Rattle.row_recursions.specs.Rows.{row_of, AreSameRows}
use Rattle.row_recursions.specs.Sizes.{RowWithin}
use Rattle.soundness.specs.Computed.{total_row}
use Rattle.tree_field.specs.Program.{with_source}
use Rattle.upward_rows.proofs.FieldRows.{shifted_row}
use Rattle.upward_rows.proofs.fill.sum_row.Given as goal

abbrev pub invariant-loop-child : goal.invariant-loop-child
invariant-loop-child g l =
    record {
      row : (cap : ℕ) → IsTreeOf l.tree l.points cap → AreSameRows g.row.P (row_of l.row) (total_row (shifted_row l.points cap l.tree) (with_source l.tree (take l.child-index l.children)));
      size : RowWithin g.row.P (2 ^ 76 * l.child-index) (row_of l.row);
      work : l.work ≡ translated (length (with_source l.tree (take l.child-index l.children))) l.initial.work;
    }
