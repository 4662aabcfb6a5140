-- What truncation cuts off the terms of all sources of an entry is at most its radius.
use Rattle.std.specs.Int.{div_ceil}
use Rattle.std.proofs.Common.{◌≡◌, sym, ap₂, subst, subst₂, ◌∙◌, zero, suc, arith, List, get_or}
use Rattle.std.specs.Prelude.{ℕ, ◌+◌, ◌*◌, ◌^◌, ◌≤◌, pos, ◌<ℤ◌, [], ◌∷◌, All, sum_by}
use Rattle.std.proofs.lemmas.List.Elements.{All-map}
use Rattle.std.proofs.lemmas.List.Sums.{sum_by-cons}
use Rattle.exact_math.specs.Gaussian.{Gaussian}
use Rattle.exact_math.specs.Ratio.{ComplexRatio}
use Rattle.exact_math.specs.Sizes.{weight_at}
use Rattle.exact_math.specs.Sums.{sum_terms}
use Rattle.exact_math.proofs.RingTactic.{quotes, ring3}
use Rattle.exact_math.proofs.Sums.{sum_list}
use Rattle.exact_math.proofs.ComplexRationals.{complex_rationals, ◌*ℂ◌}
use Rattle.exact_math.proofs.Fractions.{complex_value, Stands-itself, Stands-sub}
use Rattle.exact_math.proofs.BoxEnclosures.{EnclosesBox, enclosed_from_contained}
use Rattle.points.specs.Points.{pole, dipole}
use Rattle.row_recursions.proofs.BoxSums.{units}
use Rattle.row_recursions.proofs.Points.{weight-source_of}
use Rattle.truncation.specs.Entries.{Source, weight, exact_term}
use Rattle.truncation.specs.Truncation.{Truncated}
use Rattle.truncation.proofs.Counting.{contains-div_ceil}
use Rattle.soundness.specs.Accounts.{LeafSource}
use Rattle.soundness.specs.Computed.{point_of}
use Rattle.soundness.specs.Steps.{weight_of}
use Rattle.soundness.proofs.Boxes.{slack, IsNear}
use Rattle.soundness.proofs.Terms.{source_in, sources_in, term_in_units, one_positive, exact_sum}

-- a bound over s, rounded up, in units
pub cut_off : (exact cut : ComplexRatio) (m s : ℕ) → 1 ≤ s → Truncated exact cut m s → IsNear (div_ceil m s) (units *ℂ complex_value exact) (units *ℂ complex_value cut)
cut_off exact cut m s least t = subst (EnclosesBox (slack (div_ceil m s)))
    (ring3 complex_rationals units (complex_value exact) (complex_value cut) (λ u a b. search quotes depth 12) tt)
    (enclosed_from_contained (pos (2 ^ 40)) (slack (div_ceil m s)) (Stands-sub (Stands-itself exact t.exact_fraction) (Stands-itself cut t.cut_fraction)) (record {
      re = contains-div_ceil (pos (2 ^ 40)) m s least t.re;
      im = contains-div_ceil (pos (2 ^ 40)) m s least t.im;
    }))

-- ---- all sources of an entry
module _ (P : ℕ) (t : Gaussian) (cut : Source → ComplexRatio) (T s : ℕ) (Q : Source → Type 0)
    (bound : (xs : List Source) → All Q xs → Truncated (sum_terms (exact_term t) xs) (sum_terms cut xs) (sum_by (weight P) xs * T) s) where
  weights_are : (xs : List LeafSource) → sum_by (weight P) (sources_in xs) ≡ weight_of point_of P xs
  weights_are [] = omega arith
  weights_are (x ∷ xs) =
      let weighs : LeafSource → ℕ = λ x. weight_at P (pole x.point.kind) (dipole x.point.kind) in
      sum_by-cons (weight P) (source_in x) (sources_in xs) ∙ ap₂ (λ m n. m + n) (weight-source_of P x.point) (weights_are xs) ∙ sym (sum_by-cons weighs x xs)

  single : (x : Source) → Q x → All Q (x ∷ [])
  single x h zero d l = h
  single x h (suc k) d l = absurd (omega arith)

  pub entry_near : 1 ≤ s → (xs : List LeafSource) → All (λ x. Q (source_in x)) xs
      → IsNear (div_ceil (weight_of point_of P xs * T) s) (sum_list complex_rationals (term_in_units t) xs) (units *ℂ complex_value (sum_terms cut (sources_in xs)))
  entry_near least xs each =
      subst₂ (λ w z. IsNear (div_ceil (w * T) s) z (units *ℂ complex_value (sum_terms cut (sources_in xs)))) (weights_are xs) (exact_sum t xs positive)
      (cut_off _ _ (sum_by (weight P) (sources_in xs) * T) s least (bound (sources_in xs) (All-map Q source_in xs each)))
    where
      positive : All (λ x. pos 0 <ℤ (exact_term t (source_in x)).denominator) xs
      positive k d l = one_positive t (source_in (get_or xs k d)) (bound (source_in (get_or xs k d) ∷ []) (single (source_in (get_or xs k d)) (each k d l))).exact_fraction
