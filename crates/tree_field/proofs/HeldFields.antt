-- Rows that hold fields: the same under another name, and the sums over a list.
use Rattle.std.proofs.Common.{ℕ, ◌≡◌, ◌≤◌, ◌^◌, List, [], ◌∷◌, subst, arith}
use Rattle.std.specs.Prelude.{pos, ◌<ℤ◌, All, fold}
use Rattle.std.proofs.lemmas.List.Elements.{All-tail}
use Rattle.exact_math.specs.Ends.{BoxEnds, BoxEndsContain, zero_box, add_box}
use Rattle.exact_math.specs.Gaussian.{Gaussian}
use Rattle.exact_math.specs.Ratio.{ComplexRatio, SameComplex, zero_complex, ◌+ᶜ◌}
use Rattle.exact_math.specs.Sums.{sum_terms}
use Rattle.row_recursions.specs.Fields.{HoldsField, field_at}
use Rattle.row_recursions.proofs.FieldLaws.{no_field, sum_of_fields}
use Rattle.soundness.specs.Computed.{total_row}
use Rattle.truncation.specs.Places.{doubled_offset}

module _ (P s : ℕ) (b : Gaussian) where
  pub HoldsField-same : (f g : Gaussian → ComplexRatio) (m n : ℕ → BoxEnds) → ((t : Gaussian) → f t ≡ g t) → ((l : ℕ) → m l ≡ n l) → HoldsField P s b f m → HoldsField P s b g n
  HoldsField-same f g m n e r h = record {
    coefficient = h.coefficient;
    fractions = h.fractions;
    contains = λ l k. subst (λ x. BoxEndsContain (pos (2 ^ 40)) x (h.coefficient l)) (r l) (h.contains l k);
    fraction = λ t. subst (λ (x : ComplexRatio). pos 0 <ℤ x.denominator) (e t) (h.fraction t);
    sums = λ t. subst (SameComplex (field_at P s h.coefficient (doubled_offset t b))) (e t) (h.sums t);
  }

  module _ (positive : 1 ≤ s) {A : Type 0} (value : A → Gaussian → ComplexRatio) (row : A → ℕ → BoxEnds) where
    added : (xs : List A) (f : Gaussian → ComplexRatio) (m : ℕ → BoxEnds) → HoldsField P s b f m → All (λ x. HoldsField P s b (value x) (row x)) xs
        → HoldsField P s b (λ t. fold (λ z x. z +ᶜ value x t) (f t) xs) (λ l. fold (λ z x. add_box z (row x l)) (m l) xs)
    added [] f m h each = h
    added (x ∷ xs) f m h each = added xs (λ t. f t +ᶜ value x t) (λ l. add_box (m l) (row x l))
        (sum_of_fields P s b f (value x) m (row x) positive h (each 0 x (omega arith)))
        (All-tail (λ x. HoldsField P s b (value x) (row x)) x xs each)

    pub HoldsField-list : (xs : List A) → All (λ x. HoldsField P s b (value x) (row x)) xs → HoldsField P s b (λ t. sum_terms (λ x. value x t) xs) (total_row row xs)
    HoldsField-list xs each = added xs (λ t. zero_complex) (λ l. zero_box) (no_field P s b positive) each
