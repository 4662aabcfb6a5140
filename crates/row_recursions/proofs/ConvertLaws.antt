-- The row of a cell, converted by the kernel to a local row of the cell e sides away, holds the field of the cut terms of its sources.
use Rattle.exact_math.proofs.Common.{◌≡◌, sym, ap, subst, ◌∙◌, ℕ, arith, ints, ℤ, pos, ◌+ℤ◌, ◌*ℤ◌, ◌<ℤ◌, int_ring, pow, quotes, int_quotes, combine, ring3, ring4, ring5, of_int, ◌<ℚ◌, ℂ, complex_rationals, of_int_ℂ, ◌+ℂ◌, ◌*ℂ◌, neg_ℂ, inverse_ℂ, *ℂ-inverse, norm, sum_below, sum_below-congruence, sum_below-mul, sum_list, sum_list-congruence}
use mathlib.Core.List.{List, []}
use lib.ListN.{get_or}
use Rattle.std.specs.Prelude.{Bool, true, false, cond}
use Prim.Native.Nat.{◌<◌}
use Rattle.exact_math.specs.Gaussian.{Gaussian, norm_gaussian, scale_gaussian, zero_gaussian}
use Rattle.exact_math.specs.Sums.{sum_complex, sum_terms}
use Rattle.exact_math.proofs.BoxEnclosures.{EnclosesBox}
use Rattle.exact_math.proofs.ComplexRationals.{inverse_unique}
use Rattle.exact_math.proofs.Fractions.{Stands, Stands-mul, Stands-sum, Stands-sum_terms}
use Rattle.exact_math.proofs.Gaussians.{value}
use Rattle.exact_math.proofs.Horner.{polynomial}
use Rattle.exact_math.proofs.Integers.{*-positive}
use Rattle.exact_math.proofs.KernelSlope.{slope_sum}
use Rattle.exact_math.proofs.QuadraticExtension.{Pair, pow_slope}
use Rattle.exact_math.proofs.TruncatedKernel.{kernel_sum}
use Rattle.exact_math.specs.Ratio.{◌*ᶜ◌}
use Rattle.truncation.specs.CutTerms.{pair_pole_cut, pair_dipole_cut}
use Rattle.truncation.specs.Entries.{Source, pair_cut}
use Rattle.truncation.specs.Places.{doubled_offset}
use Rattle.truncation.proofs.CutValues.{halved_value, Stands-pair_pole_cut, Stands-pair_dipole_cut}
use Rattle.kernel_table.specs.Kernel.{kernel_entry, kernel_fraction}
use Rattle.row_recursions.specs.Laws.{FieldConverted}
use Rattle.row_recursions.specs.Moments.{pole_of, dipole_of, moment}
use Rattle.row_recursions.specs.Rows.{converted}
use Rattle.row_recursions.proofs.BoxSums.{units, value-multiple}
use Rattle.row_recursions.proofs.CutSums as Cut
use Rattle.row_recursions.proofs.ExactKernel.{exact_kernel, exact_pair}
use Rattle.row_recursions.proofs.FieldLaws.{field_value, holds_field}
use Rattle.row_recursions.proofs.Halves.{sides-half, value_positive}
use Rattle.row_recursions.proofs.KernelRows.{Stands-kernel_fraction, kernel_entry_holds, converted_holds}
use Rattle.row_recursions.proofs.LinearFunctionals.{LinearFunctional, function_ring, sources, pow-at, pow-dual_scaled}
use Rattle.row_recursions.proofs.MomentLaws.{value-nothing, offset, held_places, held_moment, exact_of, Stands-moment, units-moment, moments_enclosed}
use Rattle.row_recursions.proofs.Sides.{dual_complex, sides, reciprocal, reciprocal-right}

-- the sources as one functional
abbrev plain : List Source → LinearFunctional complex_rationals (function_ring Source dual_complex)
plain xs = sources complex_rationals (λ x. value (pole_of x)) (λ x. value (dipole_of x)) xs

-- the places in sides are the offsets over the side
abbrev half_places : ℕ → Gaussian → Source → Pair complex_rationals
half_places s c = Cut.scaled complex_rationals (λ x. value (pole_of x)) (λ x. value (dipole_of x)) [] (reciprocal s) (λ x. halved_value (offset c x))

places_are : (s : ℕ) (c : Gaussian) → 0 < s → (x : Source) → held_places s c x ≡ half_places s c x
places_are s c h x = λ i. record { re = sym (sides-half s (offset c x) h) i; im = reciprocal s }

abbrev plain_moment : ℕ → Gaussian → List Source → ℕ → ℂ
plain_moment s c xs k = (plain xs).apply (pow (function_ring Source dual_complex) (half_places s c) k)

-- what the moments stand for
plain_is : (s : ℕ) (c : Gaussian) (xs : List Source) (k : ℕ) → 0 < s → sum_list complex_rationals (exact_of s c k) xs ≡ plain_moment s c xs k
plain_is s c xs k h = sum_list-congruence complex_rationals _ _ xs (λ x.
    spread (value (pole_of x)) (value (dipole_of x)) (pow complex_rationals (sides s (offset c x)) k) (pow_slope complex_rationals (sides s (offset c x)) k)
    ∙ ap (λ w. value (pole_of x) *ℂ w.re +ℂ value (dipole_of x) *ℂ w.im)
    (sym (pow-at Source dual_complex (held_places s c) k x ∙ pow-dual_scaled complex_rationals (sides s (offset c x)) (reciprocal s) k)
    ∙ ap (λ f. pow (function_ring Source dual_complex) f k x) (λ i y. places_are s c h y i)))
  where
    spread : (a b p q : ℂ) → a *ℂ p +ℂ b *ℂ reciprocal s *ℂ q ≡ a *ℂ p +ℂ b *ℂ (reciprocal s *ℂ q)
    spread a b p q = ring5 complex_rationals a b p q (reciprocal s) (λ a b p q r. search quotes depth 12) tt

-- ---- the distance of the centres
norm_side : (s : ℕ) (e : Gaussian) → 0 < s → pos 0 <ℤ norm_gaussian e → pos 0 <ℤ norm_gaussian (scale_gaussian s e)
norm_side s e h k = subst (λ z. pos 0 <ℤ z) (square (pos s) e.re e.im) (*-positive _ _ (*-positive (pos s) (pos s) (omega (arith, ints)) (omega (arith, ints))) k)
  where
    square : (s a b : ℤ) → s *ℤ s *ℤ (a *ℤ a +ℤ b *ℤ b) ≡ s *ℤ a *ℤ (s *ℤ a) +ℤ s *ℤ b *ℤ (s *ℤ b)
    square s a b = ring3 int_ring s a b (λ s a b. search int_quotes depth 12) tt

-- (1/s) (1/e) = 1/(s e)
inverse_side : (s : ℕ) (e : Gaussian) → 0 < s → pos 0 <ℤ norm_gaussian e → reciprocal s *ℂ inverse_ℂ (value e) ≡ inverse_ℂ (value (scale_gaussian s e))
inverse_side s e h k = inverse_unique (value (scale_gaussian s e)) _ (value_positive (scale_gaussian s e) (norm_side s e h k))
    (ap (λ z. z *ℂ (reciprocal s *ℂ inverse_ℂ (value e))) (value-multiple (pos s) e) ∙ one)
  where
    one : of_int_ℂ (pos s) *ℂ value e *ℂ (reciprocal s *ℂ inverse_ℂ (value e)) ≡ of_int_ℂ (pos 1)
    one = combine complex_rationals (value e *ℂ inverse_ℂ (value e)) (reciprocal-right s h)
        (combine complex_rationals (of_int_ℂ (pos 1)) (*ℂ-inverse (value e) (value_positive e k))
        (ring4 complex_rationals (of_int_ℂ (pos s)) (value e) (reciprocal s) (inverse_ℂ (value e)) (λ n e r i. search quotes depth 12) tt))

-- ---- the cut terms
abbrev exact_cut : ℕ → ℕ → Gaussian → Gaussian → Gaussian → Gaussian → Source → ℂ
exact_cut P s e b c t x = Cut.pair_cut complex_rationals (value (pole_of x)) (value (dipole_of x)) (halved_value (offset c x)) (halved_value (doubled_offset t b)) (inverse_ℂ (value (scale_gaussian s e))) P

Stands-cut : (P s : ℕ) (e b c t : Gaussian) (x : Source) → of_int (pos 0) <ℚ norm (value (scale_gaussian s e)) → Stands (pair_cut P s e b c t x) (exact_cut P s e b c t x)
Stands-cut P s e b c t x h = by_kind x.dipole x.strength
  where
    i : ℂ
    i = inverse_ℂ (value (scale_gaussian s e))

    poles : ℂ
    poles = kernel_sum complex_rationals (halved_value (doubled_offset x.place c) *ℂ inverse_ℂ (value (scale_gaussian s e))) (neg_ℂ (halved_value (doubled_offset t b) *ℂ inverse_ℂ (value (scale_gaussian s e)))) P P

    dipoles : ℂ
    dipoles = slope_sum complex_rationals (halved_value (doubled_offset x.place c) *ℂ inverse_ℂ (value (scale_gaussian s e))) (neg_ℂ (halved_value (doubled_offset t b) *ℂ inverse_ℂ (value (scale_gaussian s e)))) P P

    right : (a w p q : ℂ) → a *ℂ w *ℂ p ≡ a *ℂ (w *ℂ p) +ℂ of_int_ℂ (pos 0) *ℂ (w *ℂ w *ℂ q)
    right a w p q = ring4 complex_rationals a w p q (λ a w p q. search quotes depth 12) tt

    left : (b w p q : ℂ) → b *ℂ (w *ℂ w) *ℂ q ≡ of_int_ℂ (pos 0) *ℂ (w *ℂ p) +ℂ b *ℂ (w *ℂ w *ℂ q)
    left b w p q = ring4 complex_rationals b w p q (λ b w p q. search quotes depth 12) tt

    by_kind : (d : Bool) (g : Gaussian) → Stands (cond d (pair_dipole_cut P s e (doubled_offset x.place c) (doubled_offset t b) g) (pair_pole_cut P s e (doubled_offset x.place c) (doubled_offset t b) g))
        (value (cond d zero_gaussian g) *ℂ (inverse_ℂ (value (scale_gaussian s e)) *ℂ poles) +ℂ value (cond d g zero_gaussian) *ℂ (inverse_ℂ (value (scale_gaussian s e)) *ℂ inverse_ℂ (value (scale_gaussian s e)) *ℂ dipoles))
    by_kind true g = subst (Stands (pair_dipole_cut P s e (doubled_offset x.place c) (doubled_offset t b) g))
        (left (value g) i poles dipoles ∙ ap (λ a. a *ℂ (i *ℂ poles) +ℂ value g *ℂ (i *ℂ i *ℂ dipoles)) (sym value-nothing))
        (Stands-pair_dipole_cut P s e (doubled_offset x.place c) (doubled_offset t b) h g)
    by_kind false g = subst (Stands (pair_pole_cut P s e (doubled_offset x.place c) (doubled_offset t b) g))
        (right (value g) i poles dipoles ∙ ap (λ z. value g *ℂ (i *ℂ poles) +ℂ z *ℂ (i *ℂ i *ℂ dipoles)) (sym value-nothing))
        (Stands-pair_pole_cut P s e (doubled_offset x.place c) (doubled_offset t b) h g)

pub field_converted : FieldConverted
field_converted P s e b c xs m s≥1 apart h = holds_field P s b (λ t. sum_terms (pair_cut P s e b c t) xs) (converted P (kernel_entry e) m)
    (λ l. sum_complex P (λ k. kernel_fraction e k l *ᶜ moment s c xs k)) v s≥1
    (λ l. Stands-sum P (λ k. Stands-mul (Stands-kernel_fraction e apart k l) (moment_stands k)))
    (λ l i. subst (EnclosesBox (converted P (kernel_entry e) m l)) (outside l)
    (converted_holds P (kernel_entry e) (exact_kernel complex_rationals (inverse_ℂ (value e))) m (held_moment s c xs) l (λ k j. kernel_entry_holds e apart k l) (moments_enclosed P s c xs m s≥1 h)))
    (λ t. subst (Stands (sum_terms (pair_cut P s e b c t) xs)) (sym (sums t))
    (Stands-sum_terms (pair_cut P s e b c t) (exact_cut P s e b c t) xs (λ k d l. Stands-cut P s e b c t (get_or xs k d) (value_positive (scale_gaussian s e) (norm_side s e s≥1 apart)))))
  where
    v : ℕ → ℂ
    v = exact_pair complex_rationals (function_ring Source dual_complex) (plain xs) (inverse_ℂ (value e)) (half_places s c) P

    moment_stands : (k : ℕ) → Stands (moment s c xs k) (plain_moment s c xs k)
    moment_stands k = subst (Stands (moment s c xs k)) (plain_is s c xs k s≥1) (Stands-moment s c xs k s≥1)

    outside : (l : ℕ) → sum_below complex_rationals P (λ k. exact_kernel complex_rationals (inverse_ℂ (value e)) k l *ℂ held_moment s c xs k)
        ≡ units *ℂ sum_below complex_rationals P (λ k. exact_kernel complex_rationals (inverse_ℂ (value e)) k l *ℂ plain_moment s c xs k)
    outside l = sum_below-congruence complex_rationals P _ (λ k. units *ℂ (exact_kernel complex_rationals (inverse_ℂ (value e)) k l *ℂ plain_moment s c xs k))
        (λ k i. ap (λ z. exact_kernel complex_rationals (inverse_ℂ (value e)) k l *ℂ z) (sym (units-moment s c xs k) ∙ ap (λ z. units *ℂ z) (plain_is s c xs k s≥1))
        ∙ ring3 complex_rationals units (exact_kernel complex_rationals (inverse_ℂ (value e)) k l) (plain_moment s c xs k) (λ u a b. search quotes depth 9) tt)
        ∙ sum_below-mul complex_rationals units P _

    sums : (t : Gaussian) → field_value P s v (doubled_offset t b) ≡ sum_list complex_rationals (exact_cut P s e b c t) xs
    sums t =
        complex_rationals.mul_comm _ _
        ∙ ap (λ y. reciprocal s *ℂ polynomial complex_rationals P v y) (sym (sides-half s (doubled_offset t b) s≥1))
        ∙ Cut.pair_cut_sum complex_rationals (λ x. value (pole_of x)) (λ x. value (dipole_of x)) xs (reciprocal s) (λ x. halved_value (offset c x)) (inverse_ℂ (value e)) (halved_value (doubled_offset t b)) P
        ∙ sum_list-congruence complex_rationals _ _ xs (λ x.
        ap (λ w. Cut.pair_cut complex_rationals (value (pole_of x)) (value (dipole_of x)) (halved_value (offset c x)) (halved_value (doubled_offset t b)) w P) (inverse_side s e s≥1 apart))
