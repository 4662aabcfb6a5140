-- A local row that holds a field, whose values are given as complex numbers in units of 2^-40.
use Rattle.std.proofs.Common.{◌≡◌, refl, sym, ap, ap₂, subst, ◌∙◌, ℕ, suc, ◌^◌, arith, List}
use Rattle.std.specs.Prelude.{pos, [], ◌∷◌, fold, All}
use Rattle.exact_math.specs.Ends.{BoxEnds, zero_box, add_box}
use Rattle.exact_math.specs.Gaussian.{Gaussian}
use Rattle.exact_math.specs.Ratio.{ComplexRatio, zero_complex, ◌+ᶜ◌}
use Rattle.exact_math.proofs.RingTactic.{quotes, ring1}
use Rattle.exact_math.proofs.Sums.{sum_list}
use Rattle.exact_math.proofs.ComplexRationals.{ℂ, complex_rationals, of_int_ℂ, ◌+ℂ◌, ◌*ℂ◌}
use Rattle.exact_math.proofs.Fractions.{complex_value, Stands-itself, Stands-zero, Stands-add}
use Rattle.exact_math.proofs.BoxEnclosures.{EnclosesBox, enclosed_from_contained}
use Rattle.exact_math.proofs.EndsBridges.{BoxEndsContain-inside}
use Rattle.cell_name.specs.Square.{Square, side}
use Rattle.row_recursions.specs.Fields.{HoldsField}
use Rattle.row_recursions.specs.Rows.{shifted_down, local_value}
use Rattle.row_recursions.proofs.BoxSums.{units}
use Rattle.row_recursions.proofs.DownLaws.{field_down}
use Rattle.row_recursions.proofs.FieldLaws.{no_field, sum_of_fields, local_values}
use Rattle.soundness.specs.Squares.{doubled_centre, offset, quadrant, IsQuarterOf}
use Rattle.soundness.specs.Computed.{total_row}
use Rattle.soundness.specs.Rules.{RowInside}
use Rattle.soundness.proofs.Places.{side_positive, side_of-quarter, centre_of-quarter}

pub record HoldsValues (P s : ℕ) (b : Gaussian) (value : Gaussian → ℂ) (m : ℕ → BoxEnds) : Type 0 where
  pub field : Gaussian → ComplexRatio
  pub holds : HoldsField P s b field m
  pub is : (t : Gaussian) → units *ℂ complex_value (field t) ≡ value t

-- in a cell
abbrev pub Local : ℕ → Square → (Gaussian → ℂ) → (ℕ → BoxEnds) → Type 0
Local P b value m = HoldsValues P (side b) (doubled_centre b) value m

pub Local-field : (P : ℕ) (b : Square) (field : Gaussian → ComplexRatio) (m : ℕ → BoxEnds) → HoldsField P (side b) (doubled_centre b) field m → Local P b (λ t. units *ℂ complex_value (field t)) m
Local-field P b field m h = record { field = field; holds = h; is = λ t. refl }

module _ (P : ℕ) (b : Square) where
  pub Local-same : (f g : Gaussian → ℂ) (m : ℕ → BoxEnds) → ((t : Gaussian) → f t ≡ g t) → Local P b f m → Local P b g m
  Local-same f g m e h = record { field = h.field; holds = h.holds; is = λ t. h.is t ∙ e t }

  pub Local-inside : (f : Gaussian → ℂ) (m n : ℕ → BoxEnds) → RowInside P m n → Local P b f m → Local P b f n
  Local-inside f m n i h = record {
    field = h.field;
    holds = record {
      coefficient = h.holds.coefficient;
      fractions = h.holds.fractions;
      contains = λ l k. BoxEndsContain-inside (h.holds.contains l k) (i l k);
      fraction = h.holds.fraction;
      sums = h.holds.sums;
    };
    is = h.is;
  }

  pub Local-zero : Local P b (λ t. of_int_ℂ (pos 0)) (λ l. zero_box)
  Local-zero = record {
    field = λ t. zero_complex;
    holds = no_field P (side b) (doubled_centre b) (side_positive b);
    is = λ t. ap (λ z. units *ℂ z) (Stands-zero.is) ∙ ring1 complex_rationals units (λ u. search quotes depth 9) tt;
  }

  pub Local-add : (f g : Gaussian → ℂ) (m n : ℕ → BoxEnds) → Local P b f m → Local P b g n → Local P b (λ t. f t +ℂ g t) (λ l. add_box (m l) (n l))
  Local-add f g m n h k = record {
    field = λ t. h.field t +ᶜ k.field t;
    holds = sum_of_fields P (side b) (doubled_centre b) h.field k.field m n (side_positive b) h.holds k.holds;
    is = λ t.
        ap (λ z. units *ℂ z) (Stands-add (Stands-itself (h.field t) (h.holds.fraction t)) (Stands-itself (k.field t) (k.holds.fraction t))).is
        ∙ complex_rationals.mul_add _ _ _ ∙ ap₂ ◌+ℂ◌ (h.is t) (k.is t);
  }

  module _ {A : Type 0} (value : A → Gaussian → ℂ) (row : A → ℕ → BoxEnds) where
    added : (xs : List A) (f : Gaussian → ℂ) (m : ℕ → BoxEnds) → Local P b f m → All (λ x. Local P b (value x) (row x)) xs
        → Local P b (λ t. f t +ℂ sum_list complex_rationals (λ x. value x t) xs) (λ l. fold (λ b x. add_box b (row x l)) (m l) xs)
    added [] f m h each = Local-same f _ m (λ t. sym (complex_rationals.add_zero (f t))) h
    added (x ∷ xs) f m h each = Local-same _ _ _ (λ t. complex_rationals.add_assoc _ _ _)
        (added xs (λ t. f t +ℂ value x t) (λ l. add_box (m l) (row x l)) (Local-add f (value x) m (row x) h (each 0 x (omega arith))) (λ k d l. each (suc k) d (omega arith)))

    -- the sum of the rows of a list
    pub Local-total : (xs : List A) → All (λ x. Local P b (value x) (row x)) xs → Local P b (λ t. sum_list complex_rationals (λ x. value x t) xs) (total_row row xs)
    Local-total xs each = Local-same _ _ (total_row row xs) (λ t. complex_rationals.add_comm _ _ ∙ complex_rationals.add_zero _) (added xs (λ t. of_int_ℂ (pos 0)) (λ l. zero_box) Local-zero each)

  -- the value at a place
  pub Local-value : (f : Gaussian → ℂ) (m : ℕ → BoxEnds) (t : Gaussian) → Local P b f m → EnclosesBox (local_value P m (side b) (offset b t)) (f t)
  Local-value f m t h = held (f t) (h.is t)
    where
      held : (z : ℂ) → units *ℂ complex_value (h.field t) ≡ z → EnclosesBox (local_value P m (side b) (offset b t)) z
      held z e = subst (EnclosesBox (local_value P m (side b) (offset b t))) e
          (enclosed_from_contained (pos (2 ^ 40)) _ (Stands-itself (h.field t) (h.holds.fraction t)) (local_values P (side b) (doubled_centre b) t h.field m (side_positive b) h.holds))

-- from the parent to a quarter
pub Local-down : (P : ℕ) (d c : Square) (f : Gaussian → ℂ) (m : ℕ → BoxEnds) → IsQuarterOf d c → Local P c f m → Local P d f (shifted_down P m (quadrant d))
Local-down P d c f m q h = record {
  field = h.field;
  holds = subst (λ g. HoldsField P (side d) g h.field (shifted_down P m (quadrant d))) (sym (centre_of-quarter d c q))
      (field_down P (side d) (quadrant d) (doubled_centre c) h.field m (side_positive d) (subst (λ s. HoldsField P s (doubled_centre c) h.field m) (side_of-quarter d c q) h.holds));
  is = h.is;
}
