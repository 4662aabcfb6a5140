-- How wide what one entry adds is: the row of a V entry, converted, the sources of an X entry, and the value of the row of a W entry.
use Rattle.std.proofs.Common.{ℕ, ◌+◌, ◌-◌, ◌*◌, List, length, sym, ◌∙◌, arith}
use Rattle.std.specs.Prelude.{All, sum_by}
use Rattle.std.proofs.lemmas.List.Elements.{All-weaker}
use Rattle.std.proofs.lemmas.List.Sums.{sum_by-le}
use Rattle.cell_name.specs.Square.{Square, side}
use Rattle.cell_name.proofs.Cells.{Touches-sym}
use Rattle.points.specs.Points.{place, pole, dipole}
use Rattle.points.specs.declared.Point.{Point}
use Rattle.row_recursions.specs.Cells.{far_coefficients_in}
use Rattle.row_recursions.specs.Widths.{RowNarrow}
use Rattle.row_recursions.proofs.ConvertedWidths.{converted_narrow}
use Rattle.row_recursions.proofs.Geometry.{pairs_of_cells, far_places}
use Rattle.row_recursions.proofs.RowSizes.{power_positive}
use Rattle.row_recursions.proofs.RowWidths.{far_source_narrow, multipole_value_narrow}
use Rattle.soundness.specs.Squares.{offset, sides_between, IsFarFrom}
use Rattle.soundness.specs.Steps.{total_row}
use Rattle.tree_field.specs.Field.{sources_in, weight_in, multipole_row}
use Rattle.tree_field.proofs.CellSources.{IsHeld, sources_held}
use Rattle.field_widths.specs.Laws.{source_count, multipole_width, MultipoleRowsNarrow, MultipoleRowsHoldWithin, PairEntriesNarrow, FarEntriesNarrow, MultipoleValuesNarrow}
use Rattle.field_widths.proofs.NarrowTotals.{total_row-narrow, row-narrower}

-- ---- V entries
pub pair_entries_narrow : MultipoleRowsNarrow → MultipoleRowsHoldWithin → PairEntriesNarrow
pair_entries_narrow narrow holds grid points cap P b c positive few inside entry =
    let pair = entry.pair in
    let one = pair.0 in
    let other = pair.1 in
    converted_narrow P (multipole_width grid P (source_count points c)) (weight_in points P c) (sides_between b c) (multipole_row points cap c) few
    (pairs_of_cells b c (one.of_grid ∙ sym other.of_grid) pair.2.same_level pair.2.apart pair.2.parents_touch).kernel
    (narrow grid points cap P c positive inside other) (holds grid points cap P c positive inside other)

-- ---- X entries
far_total : (P : ℕ) (b : Square) (xs : List Point) → All (λ p. IsFarFrom b (place p)) xs → RowNarrow P (length xs * (2 * (P * P) + 2 * P)) (total_row (far_coefficients_in b) xs)
far_total P b xs far = row-narrower P (sum_by (λ p. 2 * (P * P) + 2 * P) xs) (length xs * (2 * (P * P) + 2 * P)) (total_row (far_coefficients_in b) xs)
    (sum_by-le (λ p. 2 * (P * P) + 2 * P) (2 * (P * P) + 2 * P) xs (λ i d lt. omega arith))
    (total_row-narrow P (far_coefficients_in b) (λ p. 2 * (P * P) + 2 * P) xs
    (All-weaker (λ p. IsFarFrom b (place p)) (λ p. RowNarrow P (2 * (P * P) + 2 * P) (far_coefficients_in b p))
    (λ p f. far_source_narrow P (side b) (pole p.kind) (dipole p.kind) (offset b (place p)) (power_positive (b.grid - b.level)) f) xs far))

pub far_entries_narrow : FarEntriesNarrow
far_entries_narrow grid points cap P b c inside entry =
    let pair = entry.pair in
    let one = pair.1 in
    let other = pair.0.in_tree in
    far_total P b (sources_in points c) (All-weaker (IsHeld c) (λ p. IsFarFrom b (place p))
    (λ p held. far_places c b p.x p.y (other.of_grid ∙ sym one.of_grid) (omega (arith, pair.2.deeper)) (omega (arith, one.level_in_grid, one.of_grid)) (λ t. pair.2.apart (Touches-sym c b t)) held)
    (sources_in points c) (sources_held points c))

-- ---- W entries
pub multipole_values_narrow : MultipoleRowsNarrow → MultipoleValuesNarrow
multipole_values_narrow narrow grid points cap P b c t positive inside entry held =
    let pair = entry.pair in
    let one = pair.0.in_tree in
    let other = pair.1 in
    multipole_value_narrow P (multipole_width grid P (source_count points c)) (side c) (offset c t) (multipole_row points cap c) (power_positive (c.grid - c.level))
    (far_places b c t.re t.im (one.of_grid ∙ sym other.of_grid) (omega (arith, pair.2.deeper)) (omega (arith, other.level_in_grid, other.of_grid)) (λ w. pair.2.apart (Touches-sym b c w)) held)
    (narrow grid points cap P c positive inside other)
