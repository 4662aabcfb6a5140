-- What the rows of a solve contain, apart from how they were made.
use Rattle.std.specs.Prelude.{ℕ, ◌<◌, List, IsTrue}
use Rattle.cell_name.specs.Square.{Square, side}
use Rattle.complex_box.specs.declared.CBox.{CBox}
use Rattle.field_basis.specs.Place.{place_at}
use Rattle.points.specs.declared.Point.{Point}
use Rattle.quadtree.specs.TreeModel.{size, square_of}
use Rattle.tree_field.specs.CutFields.{sources_of, local_field}
use Rattle.row_recursions.specs.Fields.{HoldsField}
use Rattle.row_recursions.specs.Geometry.{doubled_centre}
use Rattle.row_recursions.specs.Moments.{HoldsMoments}
use Rattle.row_recursions.specs.Rows.{row_of}
use Rattle.tree_field.specs.Lists.{TreeLists, OfTreeLists}
use Rattle.field_solve.specs.Parts.{FieldParts}
use Rattle.quadtree.specs.Tree.{has_target}

-- the first P boxes contain the moments of the sources in the cell c about its centre
abbrev pub ContainsMoments : ℕ → List Point → Square → List CBox → Type 0
ContainsMoments P points c row = HoldsMoments P (side c) (doubled_centre c) (sources_of points c) (row_of row)

-- they contain the field of the V and X entries of the cell c and of all cells above it, as one list of coefficients about its centre
abbrev pub ContainsField : ℕ → List Point → TreeLists → Square → List CBox → Type 0
ContainsField P points lists c row = HoldsField P (side c) (doubled_centre c) (local_field points P lists c) (row_of row)

-- the multipole row of each cell, and over the lists of the tree the local row of each cell with a target
pub record RowsContain (points : List Point) (P : ℕ) (f : FieldParts) : Type 0 where
  pub moments : (n : ℕ) → n < size f.basis.tree → ContainsMoments P points (square_of f.basis.tree n) (place_at f.up n).row
  pub fields : OfTreeLists f.basis.tree.grid points f.basis.cap (λ lists.
      (n : ℕ) → n < size f.basis.tree → IsTrue (has_target points (square_of f.basis.tree n))
      → ContainsField P points lists (square_of f.basis.tree n) (place_at f.local n).row)
