-- What the rows and values of a tree contain, for each list of points within a grid, each capacity of the leaves and each order.
use Rattle.std.specs.Prelude.{ℕ, ◌<◌, List}
use Rattle.exact_math.specs.Ends.{BoxEndsContain}
use Rattle.exact_math.specs.Gaussian.{Gaussian}
use Rattle.exact_math.specs.Sums.{sum_terms}
use Rattle.exact_math.specs.Units.{unit}
use Rattle.cell_lists.specs.Entries.{IsEntry}
use Rattle.cell_name.specs.Square.{Square, side, Holds}
use Rattle.letters.specs.declared.Letter.TheVariants.{W}
use Rattle.points.specs.declared.Point.{Point}
use Rattle.quadtree.specs.Tree.{AreInGrid, IsTreeCell}
use Rattle.row_recursions.specs.Fields.{HoldsField}
use Rattle.row_recursions.specs.Geometry.{doubled_centre}
use Rattle.row_recursions.specs.Moments.{HoldsMoments}
use Rattle.row_recursions.specs.Rows.{multipole_value, local_value}
use Rattle.soundness.specs.Squares.{offset}
use Rattle.tree_field.specs.Field.{multipole_row, local_row}
use Rattle.tree_field.specs.Lists.{TreeLists, AreTreeLists}
use Rattle.tree_field.specs.CutFields.{sources_of, multipole_terms, local_field}
use Rattle.soundness.specs.Steps.{w_values}

-- the row of each cell of the tree: the moments of the sources in the cell
abbrev pub MultipoleRowsHold : Type 0
MultipoleRowsHold = (grid : ℕ) (points : List Point) (cap P : ℕ) (c : Square) → 0 < grid → AreInGrid grid points → IsTreeCell grid points cap c
    → HoldsMoments P (side c) (doubled_centre c) (sources_of points c) (multipole_row points cap c)

-- the local row of each cell of the tree: the field of the entries of the cell and of all cells above it
abbrev pub LocalRowsHold : Type 0
LocalRowsHold =
    (grid : ℕ) (points : List Point) (cap P : ℕ) (lists : TreeLists) (b : Square) → 0 < grid
    → AreInGrid grid points → AreTreeLists grid points cap lists → IsTreeCell grid points cap b
    → HoldsField P (side b) (doubled_centre b) (local_field points P lists b) (local_row points cap P lists b)

-- the value of a local row at any place: that of its field
abbrev pub LocalValuesHold : Type 0
LocalValuesHold =
    (grid : ℕ) (points : List Point) (cap P : ℕ) (lists : TreeLists) (b : Square) (t : Gaussian) → 0 < grid
    → AreInGrid grid points → AreTreeLists grid points cap lists → IsTreeCell grid points cap b
    → BoxEndsContain unit (local_value P (local_row points cap P lists b) (side b) (offset b t)) (local_field points P lists b t)

-- the value of the multipole row of a W entry at a place in the leaf: the cut terms of the sources of its cell
abbrev pub MultipoleValuesHold : Type 0
MultipoleValuesHold =
    (grid : ℕ) (points : List Point) (cap P : ℕ) (b c : Square) (t : Gaussian) → 0 < grid
    → AreInGrid grid points → IsEntry grid points cap W b c → Holds b t.re t.im
    → BoxEndsContain unit (multipole_value P (multipole_row points cap c) (side c) (offset c t)) (multipole_terms points P c t)

-- the values of all W entries of the leaf together
abbrev pub MultipoleSumsHold : Type 0
MultipoleSumsHold =
    (grid : ℕ) (points : List Point) (cap P : ℕ) (lists : TreeLists) (b : Square) (t : Gaussian) → 0 < grid → AreInGrid grid points
    → AreTreeLists grid points cap lists → IsTreeCell grid points cap b → Holds b t.re t.im
    → BoxEndsContain unit (w_values (λ c. c) (multipole_row points cap) P t (lists.entries W b))
    (sum_terms (λ c. multipole_terms points P c t) (lists.entries W b))
