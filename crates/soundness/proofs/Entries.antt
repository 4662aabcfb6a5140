-- What the rows and values of one entry hold, and how near the terms of its sources are to their cut terms.
use Rattle.std.proofs.Common.{◌≡◌, sym, ap, subst, ◌∙◌, ℕ, ◌*◌, ◌^◌, ◌≤◌, arith, List, get_or}
use Rattle.std.specs.Prelude.{pos, All}
use Rattle.std.proofs.lemmas.List.Elements.{All-map}
use Rattle.exact_math.specs.Ends.{BoxEnds}
use Rattle.exact_math.specs.Gaussian.{Gaussian}
use Rattle.exact_math.specs.Sums.{sum_terms}
use Rattle.exact_math.proofs.Sums.{sum_list, sum_list-mul}
use Rattle.exact_math.proofs.ListSums.{sum_list-map}
use Rattle.exact_math.proofs.ComplexRationals.{ℂ, complex_rationals, ◌*ℂ◌}
use Rattle.exact_math.proofs.Fractions.{complex_value, Stands, Stands-itself, Stands-sum_terms}
use Rattle.exact_math.proofs.BoxEnclosures.{EnclosesBox, enclosed_from_contained}
use Rattle.cell_name.specs.Square.{Square, side}
use Rattle.kernel_table.specs.Kernel.{kernel_entry}
use Rattle.points.specs.Points.{place, strength}
use Rattle.points.specs.declared.Point.{Point}
use Rattle.row_recursions.specs.Fields.{HoldsField}
use Rattle.row_recursions.specs.Moments.{HoldsMoments}
use Rattle.row_recursions.specs.Rows.{converted, multipole_value}
use Rattle.row_recursions.specs.Sources.{source_of}
use Rattle.row_recursions.proofs.BoxSums.{units}
use Rattle.row_recursions.proofs.ConvertLaws.{field_converted}
use Rattle.row_recursions.proofs.MomentLaws.{multipole_values}
use Rattle.row_recursions.proofs.Points.{strength_field}
use Rattle.truncation.specs.Entries.{pair_cut, multipole_cut, local_cut}
use Rattle.exact_math.specs.Within.{GaussianWithin, GaussianBeyond}
use Rattle.truncation.specs.Places.{doubled_offset}
use Rattle.truncation.specs.Tails.{pair_tail, single_tail, pair_loss, single_loss}
use Rattle.truncation.proofs.EntryBounds.{pair_entries, multipole_entries, local_entries}
use Rattle.soundness.specs.Squares.{doubled_centre, offset, sides_between, IsIn, IsFarFrom, CellsAreApart}
use Rattle.soundness.specs.Accounts.{LeafSource}
use Rattle.soundness.specs.Computed.{point_of, total_row}
use Rattle.soundness.specs.Steps.{weight_of}
use Rattle.soundness.proofs.Boxes.{IsNear}
use Rattle.soundness.proofs.Fields.{Local, Local-field, Local-same, Local-total}
use Rattle.soundness.proofs.Losses.{entry_near}
use Rattle.soundness.proofs.Multipoles.{HoldsIn}
use Rattle.soundness.proofs.Places.{side_positive, sides_of-apart, centres_of-apart, norm_beyond}
use Rattle.soundness.proofs.Terms.{source_in, sources_in, term_in_units}
use Rattle.row_recursions.specs.Cells.{far_coefficients_in}

-- ---- the cut terms of an entry's sources at t, in units: of two cells that are apart, of a far target, and of far sources
abbrev pub pair_sum : ℕ → Square → Square → List LeafSource → Gaussian → ℂ
pair_sum P b c xs t = units *ℂ complex_value (sum_terms (pair_cut P (side b) (sides_between b c) (doubled_centre b) (doubled_centre c) t) (sources_in xs))

abbrev pub multipole_sum : ℕ → Square → List LeafSource → Gaussian → ℂ
multipole_sum P c xs t = units *ℂ complex_value (sum_terms (multipole_cut P (doubled_centre c) t) (sources_in xs))

abbrev pub far_sum : ℕ → Square → List LeafSource → Gaussian → ℂ
far_sum P b xs t = units *ℂ complex_value (sum_terms (local_cut P (doubled_centre b) t) (sources_in xs))

far_norm : (c : Square) (z : Gaussian) → IsFarFrom c z → 1 ≤ 3 * side c
far_norm c z h = let s = side_positive c in omega arith

-- ---- what rows and values hold
pub pair_row : (P : ℕ) (b c : Square) (xs : List LeafSource) (m : ℕ → BoxEnds) → CellsAreApart b c → HoldsIn P c xs m → Local P b (pair_sum P b c xs) (converted P (kernel_entry (sides_between b c)) m)
pair_row P b c xs m h held = Local-field P b _ _ (field_converted P (side b) (sides_between b c) (doubled_centre b) (doubled_centre c) (sources_in xs) m (side_positive b) (norm_beyond 2 (sides_between b c) (omega arith) h.apart)
    (subst (λ s. HoldsMoments P s (doubled_centre c) (sources_in xs) m) (sym (sides_of-apart b c h)) held))

point_far : (P : ℕ) (b : Square) (p : Point) → IsFarFrom b (place p) → HoldsField P (side b) (doubled_centre b) (λ t. local_cut P (doubled_centre b) t (source_of p)) (far_coefficients_in b p)
point_far P b p h = strength_field P (side b) (doubled_centre b) (place p) (strength p.kind) (side_positive b) (norm_beyond (3 * side b) (offset b (place p)) (far_norm b (place p) h) h)

pub far_row : (P : ℕ) (b : Square) (xs : List LeafSource) → All (λ x. IsFarFrom b (place x.point)) xs → Local P b (far_sum P b xs) (total_row (λ x. far_coefficients_in b x.point) xs)
far_row P b xs far = Local-same P b _ (far_sum P b xs) (total_row (λ x. far_coefficients_in b x.point) xs) sums
    (Local-total P b (λ x t. units *ℂ complex_value (local_cut P (doubled_centre b) t (source_in x))) (λ x. far_coefficients_in b x.point) xs (λ k d l. one (get_or xs k d) (far k d l)))
  where
    one : (x : LeafSource) → IsFarFrom b (place x.point) → Local P b (λ t. units *ℂ complex_value (local_cut P (doubled_centre b) t (source_in x))) (far_coefficients_in b x.point)
    one x h = Local-field P b (λ t. local_cut P (doubled_centre b) t (source_in x)) _ (point_far P b x.point h)

    each : (t : Gaussian) → All (λ x. Stands (local_cut P (doubled_centre b) t x) (complex_value (local_cut P (doubled_centre b) t x))) (sources_in xs)
    each t = All-map (λ x. Stands (local_cut P (doubled_centre b) t x) (complex_value (local_cut P (doubled_centre b) t x))) source_in xs
        (λ k d l. Stands-itself _ ((point_far P b (get_or xs k d).point (far k d l)).fraction t))

    sums : (t : Gaussian) → sum_list complex_rationals (λ x. units *ℂ complex_value (local_cut P (doubled_centre b) t (source_in x))) xs ≡ far_sum P b xs t
    sums t =
        sum_list-mul complex_rationals units _ xs
        ∙ ap (λ z. units *ℂ z) (sym ((Stands-sum_terms (local_cut P (doubled_centre b) t) (λ x. complex_value (local_cut P (doubled_centre b) t x)) (sources_in xs) (each t)).is ∙ sum_list-map complex_rationals _ source_in xs))

pub multipole_held : (P : ℕ) (c : Square) (xs : List LeafSource) (m : ℕ → BoxEnds) (t : Gaussian) → IsFarFrom c t → HoldsIn P c xs m → EnclosesBox (multipole_value P m (side c) (offset c t)) (multipole_sum P c xs t)
multipole_held P c xs m t h held =
    let v = multipole_values P (side c) (doubled_centre c) t (sources_in xs) m (side_positive c) (norm_beyond (3 * side c) (offset c t) (far_norm c t h) h) held in
    enclosed_from_contained (pos (2 ^ 40)) (multipole_value P m (side c) (offset c t)) (Stands-itself _ v.re.fraction) v

-- ---- how near the cut terms are
pub pair_near : (P : ℕ) (b c : Square) (t : Gaussian) (xs : List LeafSource) → 1 ≤ P → CellsAreApart b c → IsIn b t → All (λ x. IsIn c (place x.point)) xs
    → IsNear (pair_loss P (weight_of point_of P xs) (side b)) (sum_list complex_rationals (term_in_units t) xs) (pair_sum P b c xs t)
pair_near P b c t xs order h target sources =
    entry_near P t (pair_cut P (side b) (sides_between b c) (doubled_centre b) (doubled_centre c) t) (pair_tail P) (side b) (λ x. GaussianWithin (side b) (doubled_offset x.place (doubled_centre c)))
    (λ ys each. pair_entries P (side b) (sides_between b c) (doubled_centre b) (doubled_centre c) t order (side_positive b) h.apart (centres_of-apart b c h) target ys each) (side_positive b) xs
    (λ k d l. subst (λ s. GaussianWithin s (offset c (place (get_or xs k d).point))) (sym (sides_of-apart b c h)) (sources k d l))

pub multipole_near : (P : ℕ) (c : Square) (t : Gaussian) (xs : List LeafSource) → 2 ≤ P → IsFarFrom c t → All (λ x. IsIn c (place x.point)) xs
    → IsNear (single_loss P (weight_of point_of P xs) (side c)) (sum_list complex_rationals (term_in_units t) xs) (multipole_sum P c xs t)
multipole_near P c t xs order far sources =
    entry_near P t (multipole_cut P (doubled_centre c) t) (single_tail P) (side c) (λ x. GaussianWithin (side c) (doubled_offset x.place (doubled_centre c)))
    (λ ys each. multipole_entries P (side c) (doubled_centre c) t order (side_positive c) far ys each) (side_positive c) xs
    sources

pub far_near : (P : ℕ) (b : Square) (t : Gaussian) (xs : List LeafSource) → 2 ≤ P → IsIn b t → All (λ x. IsFarFrom b (place x.point)) xs
    → IsNear (single_loss P (weight_of point_of P xs) (side b)) (sum_list complex_rationals (term_in_units t) xs) (far_sum P b xs t)
far_near P b t xs order near far =
    entry_near P t (local_cut P (doubled_centre b) t) (single_tail P) (side b) (λ x. GaussianBeyond (3 * side b) (doubled_offset x.place (doubled_centre b)))
    (λ ys each. local_entries P (side b) (doubled_centre b) t order (side_positive b) near ys each) (side_positive b) xs
    far
