-- What the calls on local rows do to what a row contains and to its size.
use Rattle.std.proofs.Common.{ℕ, suc, ◌+◌, ◌*◌, ◌^◌, ◌≤◌, ◌<◌, arith}
use Rattle.std.proofs.lemmas.Int.{ints}
use Rattle.std.proofs.Math.Nat.{mul-le-mul_right}
use Rattle.exact_math.specs.Ends.{BoxEnds, add_box}
use Rattle.exact_math.specs.Gaussian.{Gaussian}
use Rattle.exact_math.specs.Orders.{IsOrder}
use Rattle.exact_math.specs.Ratio.{ComplexRatio, ◌+ᶜ◌}
use Rattle.complex_box.proofs.Sizes.{box_wider}
use Rattle.cell_name.specs.declared.cell.Cell.{Cell}
use Rattle.points.specs.Limits.{weight64}
use Rattle.exact_math.specs.Sizes.{abs_gaussian}
use Rattle.exact_math.proofs.Orders.{order_bounds}
use Rattle.points.specs.Points.{place, pole, dipole, strength}
use Rattle.points.specs.declared.Point.{Point}
use Rattle.truncation.specs.Entries.{local_cut}
use Rattle.exact_math.specs.Within.{GaussianBeyond}
use Rattle.row_recursions.specs.Cells.{side_of, doubled_centre_of, offset_from, far_coefficients_in}
use Rattle.row_recursions.specs.Fields.{HoldsField}
use Rattle.row_recursions.specs.Rows.{RowsAdd}
use Rattle.row_recursions.specs.Sizes.{RowWithin}
use Rattle.row_recursions.specs.Sources.{source_of}
use Rattle.row_recursions.proofs.FieldLaws.{sum_of_fields, field_same}
use Rattle.row_recursions.proofs.Points.{side_positive, strength_field}
use Rattle.row_recursions.specs.Widths.{RowNarrow}
use Rattle.row_recursions.proofs.RowSizes.{far_norm_positive, far_source_within}
use Rattle.row_recursions.proofs.RowWidths.{far_source_narrow}
use Rattle.cell_name.specs.Cell.{square}

-- a row to which another was added
pub field_added : (P s : ℕ) (b : Gaussian) (f g : Gaussian → ComplexRatio) (old part new : ℕ → BoxEnds) → 1 ≤ s → RowsAdd P old part new → HoldsField P s b f old → HoldsField P s b g part
    → HoldsField P s b (λ t. f t +ᶜ g t) new
field_added P s b f g old part new h adds u v = field_same P s b (λ t. f t +ᶜ g t) (λ l. add_box (old l) (part l)) new adds (sum_of_fields P s b f g old part h u v)

-- ---- a far point
module _ (P : ℕ) (c : Cell) (p : Point) (order : IsOrder P) (far : GaussianBeyond (3 * side_of c) (offset_from c (place p))) where
  heavier : (l a b : ℕ) → l < 64 → 2 ^ 40 * (a + suc l * b) ≤ 2 ^ 40 * (a + 64 * b)
  heavier l a b h = let m = mul-le-mul_right b h in omega arith

  -- its contribution
  pub far_within : RowWithin P (2 ^ 40 * weight64 p) (far_coefficients_in (square c) p)
  far_within l h =
      let few = order_bounds P order in
      box_wider _ (2 ^ 40 * weight64 p) _ (heavier l (abs_gaussian (pole p.kind)) (abs_gaussian (dipole p.kind)) (omega arith))
      (far_source_within (side_of c) (pole p.kind) (dipole p.kind) (offset_from c (place p)) l (side_positive c) far)

  pub far_narrow : RowNarrow P (2 * (P * P) + 2 * P) (far_coefficients_in (square c) p)
  far_narrow = far_source_narrow P (side_of c) (pole p.kind) (dipole p.kind) (offset_from c (place p)) (side_positive c) far

  -- it holds the cut term of the point's source
  pub far_field : HoldsField P (side_of c) (doubled_centre_of c) (λ t. local_cut P (doubled_centre_of c) t (source_of p)) (far_coefficients_in (square c) p)
  far_field =
      let apart = far_norm_positive (side_of c) (offset_from c (place p)) (side_positive c) far in
      strength_field P (side_of c) (doubled_centre_of c) (place p) (strength p.kind) (side_positive c) (omega (arith, ints))
