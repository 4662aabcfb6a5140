-- The rows of a solve are those of the field on their first boxes, and so contain the same.
use Rattle.std.proofs.Common.{ℕ, List, subst}
use Rattle.cell_name.specs.Square.{side}
use Rattle.field_basis.specs.FieldPlaces.{AreAllMultipolePlaces, AreAllLocalPlaces}
use Rattle.limits.proofs.Grids.{grid_positive}
use Rattle.field_basis.specs.Place.{place_at}
use Rattle.points.specs.declared.Point.{Point}
use Rattle.quadtree.proofs.TreeChildren.{tree_cell_at}
use Rattle.quadtree.specs.Tree.{AreInGrid}
use Rattle.quadtree.specs.TreeModel.{TreeModel, square_of, IsTreeOf}
use Rattle.tree_field.proofs.LocalContents.{local_rows_held}
use Rattle.tree_field.proofs.MultipoleContents.{multipole_rows_held}
use Rattle.tree_field.specs.CutFields.{sources_of, local_field}
use Rattle.row_recursions.proofs.FieldLaws.{field_same}
use Rattle.row_recursions.proofs.MomentLaws.{moments_same}
use Rattle.row_recursions.specs.Geometry.{doubled_centre}
use Rattle.row_recursions.specs.Rows.{row_of}
use Rattle.tree_field.specs.Field.{multipole_row, local_row}
use Rattle.field_solve.specs.Contents.{RowsContain}
use Rattle.field_solve.specs.Field.{IsSolved}
use Rattle.field_solve.specs.Parts.{FieldParts}

-- over the points and the capacity that the field keeps
module _ (P : ℕ) (f : FieldParts) where
  abbrev tree : TreeModel
  tree = f.basis.tree

  abbrev points : List Point
  points = f.basis.points

  abbrev cap : ℕ
  cap = f.basis.cap

  rows_of_kept : AreInGrid f.basis.tree.grid f.basis.points → IsTreeOf f.basis.tree f.basis.points f.basis.cap → AreAllMultipolePlaces P f.basis.points f.basis.tree f.up → AreAllLocalPlaces P f.basis f.local → RowsContain f.basis.points P f
  rows_of_kept inside is_tree up local = record {
    moments = λ n lt.
        let c = square_of tree n in
        moments_same P (side c) (doubled_centre c) (sources_of points c) (multipole_row points cap c) (row_of (place_at f.up n).row)
        ((up.each n lt).row_is cap is_tree)
        (multipole_rows_held tree.grid points cap P c (grid_positive tree.grid is_tree.known_grid) inside (tree_cell_at tree points cap n is_tree lt));
    fields = λ lists are n lt t.
        let c = square_of tree n in
        field_same P (side c) (doubled_centre c) (local_field points P lists c) (local_row points cap P lists c) (row_of (place_at f.local n).row)
        ((local.each n lt).with_target t lists are).row_is
        (local_rows_held tree.grid points cap P lists c (grid_positive tree.grid is_tree.known_grid) inside are (tree_cell_at tree points cap n is_tree lt));
  }

pub rows_contain : (points : List Point) (cap P : ℕ) (f : FieldParts) → AreInGrid f.basis.tree.grid f.basis.points → IsSolved points cap P f → RowsContain points P f
rows_contain points cap P f inside is = subst (λ ps. RowsContain ps P f) is.points_are (rows_of_kept P f inside tree is.up_are is.local_are)
  where
    tree : IsTreeOf f.basis.tree f.basis.points f.basis.cap
    tree = rw (is.points_are, is.cap_is) is.is_tree
