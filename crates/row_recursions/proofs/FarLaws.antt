-- The contribution of a far source to a local row holds the field of its cut term.
use Rattle.exact_math.proofs.Common.{◌≡◌, sym, ap, subst, ◌∙◌, ℕ, suc, pos, ◌<ℤ◌, pow, quotes, ring3, ring7, ℂ, complex_rationals, of_int_ℂ, ◌+ℂ◌, ◌*ℂ◌, neg_ℂ, inverse_ℂ, sum_below, sum_below-congruence}
use Rattle.std.specs.Prelude.{Bool, true, false, cond}
use Prim.Native.Nat.{◌*◌, ◌<◌}
use Rattle.exact_math.specs.Gaussian.{Gaussian, norm_gaussian, zero_gaussian}
use Rattle.exact_math.specs.Ratio.{ComplexRatio, whole_complex, neg_complex, over_complex, ◌+ᶜ◌, ◌*ᶜ◌, reciprocal as reciprocal_fraction}
use Rattle.exact_math.specs.Sums.{pow_complex, natural_complex}
use Rattle.exact_math.proofs.BoxEnclosures.{EnclosesBox}
use Rattle.exact_math.proofs.DirectTerms.{Stands-reciprocal}
use Rattle.exact_math.proofs.Fractions.{Stands, Stands-whole, Stands-count, Stands-add, Stands-neg, Stands-mul, Stands-pow}
use Rattle.exact_math.proofs.Gaussians.{value}
use Rattle.exact_math.proofs.Horner.{polynomial}
use Rattle.exact_math.proofs.DirectTerms.{Stands-reciprocal}
use Rattle.truncation.specs.CutTerms.{local_pole_cut, local_dipole_cut}
use Rattle.truncation.specs.Entries.{Source, local_cut}
use Rattle.truncation.specs.Places.{doubled_offset}
use Rattle.truncation.proofs.CutValues.{halved_value, Stands-local_pole_cut, Stands-local_dipole_cut}
use Rattle.row_recursions.specs.Laws.{FieldOfSource}
use Rattle.row_recursions.specs.Moments.{pole_of, dipole_of}
use Rattle.row_recursions.specs.Rows.{far_source}
use Rattle.row_recursions.proofs.BoxSums.{units}
use Rattle.row_recursions.proofs.CutSums as Cut
use Rattle.row_recursions.proofs.FarRows.{far_source_holds}
use Rattle.row_recursions.proofs.FieldLaws.{Stands-over_side, holds_field}
use Rattle.row_recursions.proofs.Halves.{sides-half, halved_positive, far_ratio, far_ratio-is, far_ratio-over}
use Rattle.row_recursions.proofs.MomentLaws.{value-nothing}
use Rattle.row_recursions.proofs.Sides.{sides, reciprocal}

-- 2 s/zeta
abbrev ratio : ℕ → Gaussian → ComplexRatio
ratio s zeta = natural_complex (2 * s) *ᶜ reciprocal_fraction zeta

-- -a r^(l + 1) + (l + 1) (b/s) r^(l + 2)
abbrev coefficient : ℕ → Gaussian → Gaussian → Gaussian → ℕ → ComplexRatio
coefficient s a b zeta l = neg_complex (whole_complex a *ᶜ pow_complex (ratio s zeta) (suc l)) +ᶜ natural_complex (suc l) *ᶜ (over_complex (whole_complex b) (pos s) *ᶜ pow_complex (ratio s zeta) (suc (suc l)))

abbrev exact : ℕ → Gaussian → Gaussian → Gaussian → ℕ → ℂ
exact s a b zeta l = Cut.exact_single complex_rationals (value a) (value b) (reciprocal s) (far_ratio s zeta) (of_int_ℂ (pos 0)) l

Stands-coefficient : (s : ℕ) (a b zeta : Gaussian) → 0 < s → pos 0 <ℤ norm_gaussian zeta → (l : ℕ) → Stands (coefficient s a b zeta l) (exact s a b zeta l)
Stands-coefficient s a b zeta h apart l =
    let r : Stands (ratio s zeta) (far_ratio s zeta) = Stands-mul (Stands-count (2 * s)) (Stands-reciprocal zeta apart) in
    Stands-add (Stands-neg (Stands-mul (Stands-whole a) (Stands-pow r (suc l))))
    (Stands-mul (Stands-count (suc l)) (Stands-mul (Stands-over_side s h (Stands-whole b)) (Stands-pow r (suc (suc l)))))

-- with the units outside
units_outside : (s : ℕ) (a b zeta : Gaussian) (l : ℕ)
    → neg_ℂ (units *ℂ value a *ℂ pow complex_rationals (far_ratio s zeta) (suc l)) +ℂ of_int_ℂ (pos (suc l)) *ℂ (units *ℂ value b *ℂ reciprocal s *ℂ pow complex_rationals (far_ratio s zeta) (suc (suc l)))
    ≡ units *ℂ exact s a b zeta l
units_outside s a b zeta l = one units (value a) (value b) (reciprocal s) (of_int_ℂ (pos (suc l))) (pow complex_rationals (far_ratio s zeta) (suc l)) (pow complex_rationals (far_ratio s zeta) (suc (suc l)))
  where
    one : (u a b r n p q : ℂ) → neg_ℂ (u *ℂ a *ℂ p) +ℂ n *ℂ (u *ℂ b *ℂ r *ℂ q) ≡ u *ℂ (neg_ℂ (a *ℂ p) +ℂ n *ℂ (b *ℂ r *ℂ q))
    one u a b r n p q = ring7 complex_rationals u a b r n p q (λ u a b r n p q. search quotes depth 14) tt

-- the cut term of a source at the offset zeta, seen at the offset o
Stands-cut : (P : ℕ) (b t : Gaussian) (x : Source) → pos 0 <ℤ norm_gaussian (doubled_offset x.place b)
    → Stands (local_cut P b t x) (Cut.local_cut complex_rationals (value (pole_of x)) (value (dipole_of x)) (halved_value (doubled_offset t b)) (inverse_ℂ (halved_value (doubled_offset x.place b))) P)
Stands-cut P b t x h = by_kind x.dipole x.strength
  where
    poles : ℂ
    poles = sum_below complex_rationals P (λ l. pow complex_rationals (halved_value (doubled_offset t b)) l *ℂ pow complex_rationals (inverse_ℂ (halved_value (doubled_offset x.place b))) (suc l))

    dipoles : ℂ
    dipoles = sum_below complex_rationals P (λ l. of_int_ℂ (pos (suc l)) *ℂ (pow complex_rationals (halved_value (doubled_offset t b)) l *ℂ pow complex_rationals (inverse_ℂ (halved_value (doubled_offset x.place b))) (suc (suc l))))

    right : (a p q : ℂ) → neg_ℂ a *ℂ p ≡ neg_ℂ (a *ℂ p) +ℂ of_int_ℂ (pos 0) *ℂ q
    right a p q = ring3 complex_rationals a p q (λ a p q. search quotes depth 9) tt

    left : (b p q : ℂ) → b *ℂ q ≡ neg_ℂ (of_int_ℂ (pos 0) *ℂ p) +ℂ b *ℂ q
    left b p q = ring3 complex_rationals b p q (λ b p q. search quotes depth 9) tt

    by_kind : (d : Bool) (g : Gaussian) → Stands (cond d (local_dipole_cut P (doubled_offset x.place b) (doubled_offset t b) g) (local_pole_cut P (doubled_offset x.place b) (doubled_offset t b) g))
        (neg_ℂ (value (cond d zero_gaussian g) *ℂ poles) +ℂ value (cond d g zero_gaussian) *ℂ dipoles)
    by_kind true g = subst (Stands (local_dipole_cut P (doubled_offset x.place b) (doubled_offset t b) g))
        (ap (λ z. value g *ℂ z) (sum_below-congruence complex_rationals P _ _ (λ l k. complex_rationals.mul_assoc _ _ _)) ∙ left (value g) poles dipoles ∙ ap (λ a. neg_ℂ (a *ℂ poles) +ℂ value g *ℂ dipoles) (sym value-nothing))
        (Stands-local_dipole_cut P (doubled_offset x.place b) (doubled_offset t b) (halved_positive (doubled_offset x.place b) h) g)
    by_kind false g = subst (Stands (local_pole_cut P (doubled_offset x.place b) (doubled_offset t b) g))
        (right (value g) poles dipoles ∙ ap (λ z. neg_ℂ (value g *ℂ poles) +ℂ z *ℂ dipoles) (sym value-nothing))
        (Stands-local_pole_cut P (doubled_offset x.place b) (doubled_offset t b) (halved_positive (doubled_offset x.place b) h) g)

pub field_of_source : FieldOfSource
field_of_source P s b x s≥1 apart = holds_field P s b (λ t. local_cut P b t x) (far_source s (pole_of x) (dipole_of x) (doubled_offset x.place b))
    (coefficient s (pole_of x) (dipole_of x) (doubled_offset x.place b)) (exact s (pole_of x) (dipole_of x) (doubled_offset x.place b)) s≥1
    (Stands-coefficient s (pole_of x) (dipole_of x) (doubled_offset x.place b) s≥1 apart)
    (λ l k. subst (EnclosesBox (far_source s (pole_of x) (dipole_of x) (doubled_offset x.place b) l)) (units_outside s (pole_of x) (dipole_of x) (doubled_offset x.place b) l)
    (far_source_holds s (pole_of x) (dipole_of x) (doubled_offset x.place b) (far_ratio s (doubled_offset x.place b)) s≥1 apart (far_ratio-is s (doubled_offset x.place b) apart) l))
    (λ t. subst (Stands (local_cut P b t x)) (sym (sums t)) (Stands-cut P b t x apart))
  where
    sums : (t : Gaussian) → polynomial complex_rationals P (exact s (pole_of x) (dipole_of x) (doubled_offset x.place b)) (sides s (doubled_offset t b)) *ℂ reciprocal s
        ≡ Cut.local_cut complex_rationals (value (pole_of x)) (value (dipole_of x)) (halved_value (doubled_offset t b)) (inverse_ℂ (halved_value (doubled_offset x.place b))) P
    sums t =
        complex_rationals.mul_comm _ _
        ∙ ap (λ y. reciprocal s *ℂ polynomial complex_rationals P (exact s (pole_of x) (dipole_of x) (doubled_offset x.place b)) y) (sym (sides-half s (doubled_offset t b) s≥1))
        ∙ Cut.single_polynomial complex_rationals (value (pole_of x)) (value (dipole_of x)) (reciprocal s) (far_ratio s (doubled_offset x.place b)) (halved_value (doubled_offset t b)) P
        ∙ ap (λ w. Cut.local_cut complex_rationals (value (pole_of x)) (value (dipole_of x)) (halved_value (doubled_offset t b)) w P) (far_ratio-over s (doubled_offset x.place b) s≥1 apart)
