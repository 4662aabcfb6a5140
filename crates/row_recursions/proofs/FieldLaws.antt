-- What local rows contain, in whole numbers.
use Rattle.exact_math.proofs.Common.{◌≡◌, sym, ap, subst, ◌∙◌, ℕ, arith, ints, pos, pow, quotes, ring1, ring3, ℂ, complex_rationals, of_int_ℂ, ◌+ℂ◌, ◌*ℂ◌, rational_ring, sum_below-congruence, sum_below-add, sum_below-mul, sum_below-zero}
use Prim.Native.Nat.{◌^◌, ◌<◌}
use Rattle.exact_math.specs.Ends.{BoxEnds, BoxEndsContain, zero_box, add_box}
use Rattle.exact_math.specs.Gaussian.{Gaussian}
use Rattle.exact_math.specs.Ratio.{ComplexRatio, SameComplex, zero_complex, over_complex, ◌+ᶜ◌}
use Rattle.exact_math.proofs.BoxEnclosures.{EnclosesBox, EnclosesBox-zero, EnclosesBox-add, enclosed_from_contained, contained_from_enclosed}
use Rattle.exact_math.proofs.Fractions.{complex_value, ratio-same, Stands, Stands-itself, Stands-zero, Stands-add, Stands-mul, Stands-over, Stands-pow, Stands-sum, same_from_stands}
use Rattle.exact_math.proofs.Horner.{polynomial}
use Rattle.exact_math.proofs.QuadraticExtension.{same_pair}
use Rattle.row_recursions.specs.Fields.{field_at, HoldsField}
use Rattle.row_recursions.specs.Laws.{NoField, SumOfFields, LocalValues}
use Rattle.row_recursions.specs.Rows.{local_value}
use Rattle.truncation.specs.Places.{doubled_offset}
use Rattle.row_recursions.proofs.BoxSums.{units}
use Rattle.row_recursions.proofs.Halves.{Stands-in_sides}
use Rattle.row_recursions.proofs.Sides.{sides, reciprocal, reciprocal-is}
use Rattle.row_recursions.proofs.Values.{local_value_holds}

-- a fraction of the same value
pub Stands-same : {x y : ComplexRatio} {z : ℂ} → Stands x z → SameComplex x y → Stands y z
Stands-same {x} {y} h e = record {
  positive = e.right_fraction;
  is =
      let real = ratio-same x.re x.denominator y.re y.denominator e.left_fraction e.right_fraction e.re in
      let imaginary = ratio-same x.im x.denominator y.im y.denominator e.left_fraction e.right_fraction e.im in
      sym (same_pair rational_ring _ _ real imaginary) ∙ h.is;
}

-- z/s
pub Stands-over_side : (s : ℕ) {x : ComplexRatio} {z : ℂ} → 0 < s → Stands x z → Stands (over_complex x (pos s)) (z *ℂ reciprocal s)
Stands-over_side s {x} {z} h k = subst (λ i. Stands (over_complex x (pos s)) (z *ℂ i)) (sym (reciprocal-is s)) (Stands-over (pos s) (omega (arith, ints)) k)

-- the value at the doubled offset o of the field with the coefficients v
abbrev pub field_value : ℕ → ℕ → (ℕ → ℂ) → Gaussian → ℂ
field_value P s v o = polynomial complex_rationals P v (sides s o) *ℂ reciprocal s

Stands-field_at : (P s : ℕ) (c : ℕ → ComplexRatio) (v : ℕ → ℂ) (o : Gaussian) → 0 < s → ((l : ℕ) → Stands (c l) (v l)) → Stands (field_at P s c o) (field_value P s v o)
Stands-field_at P s c v o h st = Stands-over_side s h (Stands-sum P (λ l. Stands-mul (st l) (Stands-pow (Stands-in_sides s o h) l)))

-- ---- a row that holds a field, as complex numbers
module _ {P s : ℕ} {b : Gaussian} {f : Gaussian → ComplexRatio} {m : ℕ → BoxEnds} (s>0 : 0 < s) (h : HoldsField P s b f m) where
  abbrev pub held_coefficient : ℕ → ℂ
  held_coefficient l = complex_value (h.coefficient l)

  pub coefficient_stands : (l : ℕ) → Stands (h.coefficient l) (held_coefficient l)
  coefficient_stands l = Stands-itself (h.coefficient l) (h.fractions l)

  pub coefficient_enclosed : (l : ℕ) → l < P → EnclosesBox (m l) (units *ℂ held_coefficient l)
  coefficient_enclosed l k = enclosed_from_contained (pos (2 ^ 40)) (m l) (coefficient_stands l) (h.contains l k)

  pub field_stands : (t : Gaussian) → Stands (f t) (field_value P s held_coefficient (doubled_offset t b))
  field_stands t = Stands-same (Stands-field_at P s h.coefficient held_coefficient (doubled_offset t b) s>0 coefficient_stands) (h.sums t)

-- a row with the same boxes
pub field_same : (P s : ℕ) (b : Gaussian) (f : Gaussian → ComplexRatio) (m n : ℕ → BoxEnds) → ((l : ℕ) → l < P → n l ≡ m l) → HoldsField P s b f m → HoldsField P s b f n
field_same P s b f m n e h = record {
  coefficient = h.coefficient;
  fractions = h.fractions;
  contains = λ l k. subst (λ x. BoxEndsContain (pos (2 ^ 40)) x (h.coefficient l)) (sym (e l k)) (h.contains l k);
  fraction = h.fraction;
  sums = h.sums;
}

-- and back: fractions c that stand for the coefficients v
pub holds_field : (P s : ℕ) (b : Gaussian) (f : Gaussian → ComplexRatio) (m : ℕ → BoxEnds) (c : ℕ → ComplexRatio) (v : ℕ → ℂ) → 0 < s → ((l : ℕ) → Stands (c l) (v l))
    → ((l : ℕ) → l < P → EnclosesBox (m l) (units *ℂ v l)) → ((t : Gaussian) → Stands (f t) (field_value P s v (doubled_offset t b))) → HoldsField P s b f m
holds_field P s b f m c v s>0 st enclosed field = record {
  coefficient = c;
  fractions = λ l. (st l).positive;
  contains = λ l k. contained_from_enclosed (pos (2 ^ 40)) (m l) (st l) (enclosed l k);
  fraction = λ t. (field t).positive;
  sums = λ t. same_from_stands (Stands-field_at P s c v (doubled_offset t b) s>0 st) (field t);
}

-- ---- the laws
pub no_field : NoField
no_field P s b s≥1 = holds_field P s b (λ t. zero_complex) (λ l. zero_box) (λ l. zero_complex) (λ l. of_int_ℂ (pos 0)) s≥1 (λ l. Stands-zero)
    (λ l k. subst (EnclosesBox zero_box) (ring1 complex_rationals units (λ u. search quotes depth 9) tt) EnclosesBox-zero)
    (λ t. subst (Stands zero_complex) (sym (empty (sides s (doubled_offset t b)))) Stands-zero)
  where
    empty : (x : ℂ) → polynomial complex_rationals P (λ l. of_int_ℂ (pos 0)) x *ℂ reciprocal s ≡ of_int_ℂ (pos 0)
    empty x =
        ap (λ p. p *ℂ reciprocal s) (sum_below-congruence complex_rationals P _ _ (λ l k. ring1 complex_rationals (pow complex_rationals x l) (λ p. search quotes depth 9) tt) ∙ sum_below-zero complex_rationals P)
        ∙ ring1 complex_rationals (reciprocal s) (λ r. search quotes depth 9) tt

pub sum_of_fields : SumOfFields
sum_of_fields P s b f g m n s≥1 h k = holds_field P s b (λ t. f t +ᶜ g t) (λ l. add_box (m l) (n l))
    (λ l. h.coefficient l +ᶜ k.coefficient l) (λ l. held_coefficient s≥1 h l +ℂ held_coefficient s≥1 k l) s≥1
    (λ l. Stands-add (coefficient_stands s≥1 h l) (coefficient_stands s≥1 k l))
    (λ l i. subst (EnclosesBox (add_box (m l) (n l))) (sym (complex_rationals.mul_add _ _ _)) (EnclosesBox-add (coefficient_enclosed s≥1 h l i) (coefficient_enclosed s≥1 k l i)))
    (λ t. subst (Stands (f t +ᶜ g t)) (together (sides s (doubled_offset t b))) (Stands-add (field_stands s≥1 h t) (field_stands s≥1 k t)))
  where
    together : (x : ℂ) → polynomial complex_rationals P (held_coefficient s≥1 h) x *ℂ reciprocal s +ℂ polynomial complex_rationals P (held_coefficient s≥1 k) x *ℂ reciprocal s
        ≡ polynomial complex_rationals P (λ l. held_coefficient s≥1 h l +ℂ held_coefficient s≥1 k l) x *ℂ reciprocal s
    together x =
        ring3 complex_rationals (polynomial complex_rationals P (held_coefficient s≥1 h) x) (polynomial complex_rationals P (held_coefficient s≥1 k) x) (reciprocal s) (λ p q r. search quotes depth 9) tt
        ∙ ap (λ p. p *ℂ reciprocal s) (sym (sum_below-congruence complex_rationals P
        (λ l. (held_coefficient s≥1 h l +ℂ held_coefficient s≥1 k l) *ℂ pow complex_rationals x l)
        (λ l. held_coefficient s≥1 h l *ℂ pow complex_rationals x l +ℂ held_coefficient s≥1 k l *ℂ pow complex_rationals x l)
        (λ l i. ring3 complex_rationals (held_coefficient s≥1 h l) (held_coefficient s≥1 k l) (pow complex_rationals x l) (λ a b p. search quotes depth 9) tt) ∙ sum_below-add complex_rationals P _ _))

pub local_values : LocalValues
local_values P s b t f m s≥1 h = contained_from_enclosed (pos (2 ^ 40)) (local_value P m s (doubled_offset t b)) (field_stands s≥1 h t)
    (subst (EnclosesBox (local_value P m s (doubled_offset t b))) (outside (sides s (doubled_offset t b)))
    (local_value_holds P m (λ l. units *ℂ held_coefficient s≥1 h l) (coefficient_enclosed s≥1 h) s s≥1 (doubled_offset t b)))
  where
    outside : (x : ℂ) → reciprocal s *ℂ polynomial complex_rationals P (λ l. units *ℂ held_coefficient s≥1 h l) x ≡ units *ℂ (polynomial complex_rationals P (held_coefficient s≥1 h) x *ℂ reciprocal s)
    outside x =
        ap (λ p. reciprocal s *ℂ p) (sum_below-congruence complex_rationals P _ _ (λ l i. complex_rationals.mul_assoc _ _ _) ∙ sum_below-mul complex_rationals units P _)
        ∙ ring3 complex_rationals units (polynomial complex_rationals P (held_coefficient s≥1 h) x) (reciprocal s) (λ u p r. search quotes depth 9) tt
