-- The values of local and multipole rows at the places of a leaf.
use Rattle.std.proofs.Common.{◌*◌, ◌^◌, sym, ◌∙◌, arith}
use Rattle.std.specs.Prelude.{pos}
use Rattle.exact_math.proofs.EndsBridges.{BoxEndsContain-sum}
use Rattle.cell_name.specs.Square.{side}
use Rattle.cell_name.proofs.Cells.{Touches-sym}
use Rattle.letters.specs.declared.Letter.TheVariants.{W}
use Rattle.row_recursions.specs.Geometry.{doubled_centre}
use Rattle.row_recursions.specs.Rows.{multipole_value}
use Rattle.row_recursions.proofs.FieldLaws.{local_values}
use Rattle.row_recursions.proofs.Geometry.{far_places}
use Rattle.row_recursions.proofs.MomentLaws.{multipole_values}
use Rattle.soundness.specs.Squares.{offset}
use Rattle.soundness.proofs.Places.{side_positive, norm_beyond}
use Rattle.tree_field.specs.Field.{multipole_row, local_row}
use Rattle.tree_field.specs.RowContents.{LocalValuesHold, MultipoleValuesHold, MultipoleSumsHold}
use Rattle.tree_field.specs.CutFields.{sources_of, multipole_terms, local_field}
use Rattle.tree_field.proofs.LocalContents.{local_rows_held, far_positive}
use Rattle.tree_field.proofs.MultipoleContents.{multipole_rows_held}

pub local_values_held : LocalValuesHold
local_values_held grid points cap P lists b t positive inside are tb =
    local_values P (side b) (doubled_centre b) t (local_field points P lists b) (local_row points cap P lists b) (side_positive b) (local_rows_held grid points cap P lists b positive inside are tb)

pub multipole_values_held : MultipoleValuesHold
multipole_values_held grid points cap P b c t positive inside entry held =
    let tb = entry.pair.0.in_tree in
    let tc = entry.pair.1 in
    let a = entry.pair.2 in
    let far = far_places b c t.re t.im (tb.of_grid ∙ sym tc.of_grid) (omega (arith, a.deeper)) (omega (arith, tc.level_in_grid, tc.of_grid)) (λ w. a.apart (Touches-sym b c w)) held in
    multipole_values P (side c) (doubled_centre c) t (sources_of points c) (multipole_row points cap c) (side_positive c)
    (norm_beyond (3 * side c) (offset c t) (far_positive c) far) (multipole_rows_held grid points cap P c positive inside tc)

pub multipole_sums_held : MultipoleSumsHold
multipole_sums_held grid points cap P lists b t positive inside are tb held =
    BoxEndsContain-sum (pos (2 ^ 40)) (λ c. multipole_value P (multipole_row points cap c) (side c) (offset c t)) (λ c. multipole_terms points P c t) (lists.entries W b)
    (λ k d lt. multipole_values_held grid points cap P b _ t positive inside ((are.entries_are W b tb).each k d lt) held)
