-- That the printed counts of a solve are no wider than the bound: its boxes are those of the field over the lists of its tree.
use Rattle.std.proofs.Common.{ℕ, sym, subst, List, map}
use Rattle.complex_box.specs.Box.{box_ends}
use Rattle.field_widths.proofs.PrintedWidths.{printed_counts_narrow}
use Rattle.field_widths.specs.Bound.{PrintNoWider}
use Rattle.limits.proofs.Grids.{grid_positive}
use Rattle.points.specs.declared.Point.{Point}
use Rattle.quadtree.specs.Tree.{AreInGrid}
use Rattle.quadtree.specs.TreeModel.{squares}
use Rattle.tree_field.proofs.EachList.{each_list_has_tree}
use Rattle.tree_field.proofs.Program.{lists_of_tree}
use Rattle.field_solve.specs.Field.{IsSolved}
use Rattle.field_solve.specs.Parts.{FieldParts}

pub solved_no_wider : (points : List Point) (cap P : ℕ) (f : FieldParts) → AreInGrid f.basis.tree.grid points → IsSolved points cap P f
    → PrintNoWider P points (squares f.basis.tree) (map box_ends f.values)
solved_no_wider points cap P f inside is =
    let grid = f.basis.tree.grid in
    let some = each_list_has_tree grid points cap (grid_positive grid is.is_tree.known_grid) inside in
    let lists = some.0 in
    let same = lists_of_tree f.basis.tree f.basis.lists points cap lists inside is.is_tree is.lists_are some.1 in
    subst (λ cells. PrintNoWider P points cells (map box_ends f.values)) same.cells
    (subst (PrintNoWider P points lists.cells) (sym (is.over lists some.1).values_are)
    (printed_counts_narrow grid points cap P lists is.is_tree.known_grid is.order inside some.1))
