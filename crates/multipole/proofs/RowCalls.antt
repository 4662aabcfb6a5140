-- What the calls on rows do to what a row contains and to its size.
use Rattle.std.proofs.Common.{◌≡◌, sym, subst, ℕ, ◌+◌, ◌*◌, ◌^◌, ◌<◌, List, [], ◌∷◌, ◌++◌, arith, pos}
use Rattle.std.proofs.lemmas.Int.{ints}
use Rattle.exact_math.specs.Ends.{BoxEnds, BoxEndsWithin, BoxEndsNarrow, BoxEndsContain, add_box}
use Rattle.exact_math.specs.Gaussian.{Gaussian}
use Rattle.exact_math.specs.Orders.{IsOrder}
use Rattle.exact_math.specs.Sums.{sum_terms}
use Rattle.exact_math.proofs.Orders.{order_bounds}
use Rattle.complex_box.proofs.Sizes.{box_wider, add_box_within}
use Rattle.cell_name.specs.Cell.{square}
use Rattle.cell_name.specs.Square.{Holds}
use Rattle.cell_name.specs.declared.cell.Cell.{Cell}
use Rattle.limits.specs.Limits.{widest_grid}
use Rattle.points.specs.Limits.{InRange, weight64}
use Rattle.points.specs.Points.{place, pole, dipole, strength}
use Rattle.points.specs.declared.Point.{Point}
use Rattle.truncation.specs.Entries.{Source, multipole_cut}
use Rattle.exact_math.specs.Within.{GaussianBeyond}
use Rattle.row_recursions.specs.Cells.{side_of, doubled_centre_of, offset_from, moments_in}
use Rattle.row_recursions.specs.Contents.{AddsMomentsOf}
use Rattle.row_recursions.specs.Moments.{HoldsMoments}
use Rattle.row_recursions.specs.Rows.{RowsAdd, multipole_value}
use Rattle.row_recursions.specs.Sizes.{RowWithin}
use Rattle.row_recursions.specs.Sources.{source_of}
use Rattle.row_recursions.proofs.MomentLaws.{sum_of_moments, multipole_values, moments_same}
use Rattle.row_recursions.proofs.Points.{side_positive, offset_within, weight_bounded, moments_within, strength_moments}
use Rattle.row_recursions.proofs.RowSizes.{far_norm_positive}
use Rattle.row_recursions.proofs.RowWidths.{source_moment_narrow}

module _ (P : ℕ) (c : Cell) (p : Point) (order : IsOrder P) (inside : Holds (square c) p.x p.y) where
  -- the moments of the point
  pub part_within : RowWithin P (2 ^ 40 * weight64 p) (moments_in (square c) p)
  part_within k h = let few = order_bounds P order in moments_within c p k (omega arith) inside

  -- the sum fits
  pub sum_fits : (old part : ℕ → BoxEnds) → InRange widest_grid p → RowWithin P (2 ^ 80) old → ((k : ℕ) → k < P → part k ≡ moments_in (square c) p k) → (k : ℕ) → k < P → BoxEndsWithin (2 ^ 126) (add_box (old k) (part k))
  sum_fits old part range bounded is k h =
      let light = weight_bounded p range in
      box_wider (2 ^ 80 + 2 ^ 40 * weight64 p) (2 ^ 126) _ (omega arith)
      (add_box_within (2 ^ 80) (2 ^ 40 * weight64 p) (old k) (part k) (bounded k h) (subst (BoxEndsWithin (2 ^ 40 * weight64 p)) (sym (is k h)) (part_within k h)))

-- how wide they are
pub part_narrow : (c : Cell) (p : Point) → Holds (square c) p.x p.y → (k : ℕ) → BoxEndsNarrow (2 * (k * k)) (moments_in (square c) p k)
part_narrow c p inside k = source_moment_narrow (side_of c) (pole p.kind) (dipole p.kind) (offset_from c (place p)) k (side_positive c) (offset_within c p.x p.y inside)

-- the moments of a point are those of its source
point_moments : (P : ℕ) (c : Cell) (p : Point) → HoldsMoments P (side_of c) (doubled_centre_of c) (source_of p ∷ []) (moments_in (square c) p)
point_moments P c p = strength_moments P (side_of c) (doubled_centre_of c) (place p) (strength p.kind) (side_positive c)

-- a row with the point's moments added contains those of all
pub added_moments : (P : ℕ) (c : Cell) (p : Point) (old new : ℕ → BoxEnds) → RowsAdd P old (moments_in (square c) p) new → AddsMomentsOf P (side_of c) (doubled_centre_of c) (source_of p) old new
added_moments P c p old new adds xs h = moments_same P (side_of c) (doubled_centre_of c) (xs ++ source_of p ∷ []) (λ k. add_box (old k) (moments_in (square c) p k)) new adds
    (sum_of_moments P (side_of c) (doubled_centre_of c) xs (source_of p ∷ []) old (moments_in (square c) p) (side_positive c) h (point_moments P c p))

-- the value of a row contains the cut terms
pub value_contains : (P : ℕ) (c : Cell) (t : Gaussian) (xs : List Source) (m : ℕ → BoxEnds) → GaussianBeyond (3 * side_of c) (offset_from c t) → HoldsMoments P (side_of c) (doubled_centre_of c) xs m
    → BoxEndsContain (pos (2 ^ 40)) (multipole_value P m (side_of c) (offset_from c t)) (sum_terms (multipole_cut P (doubled_centre_of c) t) xs)
value_contains P c t xs m far h =
    let apart = far_norm_positive (side_of c) (offset_from c t) (side_positive c) far in
    multipole_values P (side_of c) (doubled_centre_of c) t xs m (side_positive c) (omega (arith, ints)) h
