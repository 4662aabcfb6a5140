-- Each coefficient of a multipole row of the field contains a moment that is at most the weight of the sources in the cell.
use Rattle.std.proofs.Common.{ℕ, ◌≡◌, ◌*◌, ◌≤◌, List, get_or, arith, ◌∙◌, subst}
use Rattle.std.specs.Prelude.{All, sum_by}
use Rattle.std.proofs.lemmas.List.Elements.{All-weaker, All-map}
use Rattle.exact_math.specs.Sizes.{weight_at}
use Rattle.exact_math.specs.Within.{GaussianWithin}
use Rattle.cell_name.specs.Square.{Square, side}
use Rattle.points.specs.Points.{pole, dipole}
use Rattle.points.specs.declared.Point.{Point}
use Rattle.row_recursions.specs.Geometry.{doubled_centre}
use Rattle.row_recursions.specs.Moments.{moment}
use Rattle.row_recursions.specs.Sources.{source_of}
use Rattle.row_recursions.proofs.Geometry.{held_places}
use Rattle.row_recursions.proofs.Points.{weight-source_of}
use Rattle.soundness.proofs.Places.{side_positive}
use Rattle.soundness.proofs.Sums.{sum_by-map, sum_by-same}
use Rattle.tree_field.specs.CutFields.{sources_of}
use Rattle.tree_field.specs.Field.{sources_in, weight_in}
use Rattle.tree_field.proofs.CellSources.{IsHeld, sources_held}
use Rattle.tree_field.proofs.MultipoleContents.{multipole_rows_held}
use Rattle.truncation.specs.Entries.{Source, weight}
use Rattle.truncation.specs.Places.{doubled_offset}
use Rattle.field_widths.specs.Laws.{MultipoleRowsHoldWithin}
use Rattle.field_widths.proofs.FractionSizes.{SizeAtMost}
use Rattle.field_widths.proofs.MomentBounds.{size-moment}

module _ (points : List Point) (c : Square) where
  -- the sources lie in the cell
  sources_near : All (λ x. GaussianWithin (side c) (doubled_offset x.place (doubled_centre c))) (sources_of points c)
  sources_near = All-map (λ (x : Source). GaussianWithin (side c) (doubled_offset x.place (doubled_centre c))) source_of (sources_in points c)
      (All-weaker (IsHeld c) (λ p. GaussianWithin (side c) (doubled_offset (source_of p).place (doubled_centre c))) (λ p held. held_places c p.x p.y held) (sources_in points c) (sources_held points c))

  -- and weigh what the points weigh
  sources_weigh : (P : ℕ) → sum_by (weight P) (sources_of points c) ≡ weight_in points P c
  sources_weigh P =
      sum_by-map (weight P) source_of (sources_in points c)
      ∙ sum_by-same (λ p. weight P (source_of p)) (λ p. weight_at P (pole p.kind) (dipole p.kind)) (sources_in points c) (λ i d lt. weight-source_of P (get_or (sources_in points c) i d))

  moment_small : (P k : ℕ) → k ≤ 2 * P → SizeAtMost (weight_in points P c) (moment (side c) (doubled_centre c) (sources_of points c) k)
  moment_small P k h = subst (λ n. SizeAtMost n (moment (side c) (doubled_centre c) (sources_of points c) k)) (sources_weigh P)
      (size-moment P (side c) (doubled_centre c) k (side_positive c) h (sources_of points c) sources_near)

pub multipole_rows_hold_within : MultipoleRowsHoldWithin
multipole_rows_hold_within grid points cap P c positive inside in_tree k lt = record {
  held = moment (side c) (doubled_centre c) (sources_of points c) k;
  contains = (multipole_rows_held grid points cap P c positive inside in_tree).contains k lt;
  small = (moment_small points c P k (omega (arith, lt))).small;
}
