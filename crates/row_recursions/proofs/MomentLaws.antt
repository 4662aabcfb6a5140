-- What multipole rows contain, in whole numbers.
use Rattle.exact_math.proofs.Common.{◌≡◌, sym, ap, subst, ◌∙◌, ℕ, suc, arith, ints, ℤ, pos, ◌+ℤ◌, ◌-ℤ◌, ◌*ℤ◌, ◌<ℤ◌, int_ring, pow, quotes, int_quotes, ring3, ring5, ring6, ℂ, complex_rationals, of_int_ℂ, ◌+ℂ◌, ◌*ℂ◌, inverse_ℂ, parts-int, sum_below, sum_list, sum_list-congruence, sum_list-mul, sum_list-append}
use mathlib.Core.List.{List, [], ◌∷◌, ◌++◌}
use lib.ListN.{get_or}
use Rattle.std.specs.Prelude.{Bool, true, false, cond}
use Prim.Native.Nat.{◌*◌, ◌^◌, ◌<◌}
use Rattle.exact_math.specs.Ends.{BoxEnds, BoxEndsContain, add_box}
use Rattle.exact_math.specs.Gaussian.{Gaussian, add_gaussian, norm_gaussian, scale_gaussian, zero_gaussian}
use Rattle.exact_math.specs.Ratio.{whole_complex, over_complex}
use Rattle.exact_math.proofs.BoxEnclosures.{EnclosesBox, EnclosesBox-add, enclosed_from_contained, contained_from_enclosed}
use Rattle.exact_math.proofs.EndsBridges.{BoxEndsContain-zero}
use Rattle.exact_math.proofs.Fractions.{Stands, Stands-whole, Stands-add, Stands-mul, Stands-over, Stands-pow, Stands-slope, Stands-sum_terms}
use Rattle.exact_math.proofs.Gaussians.{value}
use Rattle.exact_math.proofs.Horner.{polynomial}
use Rattle.exact_math.proofs.QuadraticExtension.{Pair, pow_slope}
use Rattle.truncation.specs.CutTerms.{multipole_pole_cut, multipole_dipole_cut}
use Rattle.truncation.specs.Entries.{Source, multipole_cut}
use Rattle.truncation.specs.Places.{doubled_offset}
use Rattle.truncation.proofs.CutValues.{halved_value, Stands-multipole_pole_cut, Stands-multipole_dipole_cut}
use Rattle.row_recursions.specs.Laws.{NoMoments, SourceMoments, SumOfMoments, MomentsUp, MultipoleValues}
use Rattle.row_recursions.specs.Moments.{pole_of, dipole_of, moment_of, moment, HoldsMoments}
use Rattle.row_recursions.specs.Rows.{source_moment, shifted_up, multipole_value}
use Rattle.row_recursions.proofs.BoxSums.{units}
use Rattle.row_recursions.proofs.CutSums as Cut
use Rattle.row_recursions.proofs.Halves.{sides-half, Stands-in_sides, halved_positive, far_ratio, far_ratio-is, far_ratio-over}
use Rattle.row_recursions.proofs.LinearFunctionals.{LinearFunctional, function_ring, pow-at, pow-dual_scaled}
use Rattle.row_recursions.proofs.MomentRows.{charges, places, source_moment_holds, parent_moments_held}
use Rattle.row_recursions.proofs.Sides.{dual_complex, place, sides, reciprocal, reciprocal-is, parent_offset}
use Rattle.row_recursions.proofs.Values.{multipole_value_holds}

-- nothing is 0
pub value-nothing : value zero_gaussian ≡ of_int_ℂ (pos 0)
value-nothing = sym (parts-int (pos 0))

-- the doubled offset of a source
abbrev pub offset : Gaussian → Source → Gaussian
offset c x = doubled_offset x.place c

-- the sources as one functional, in units, and their places in sides
abbrev pub held : List Source → LinearFunctional complex_rationals (function_ring Source dual_complex)
held xs = charges pole_of dipole_of xs

abbrev pub held_places : ℕ → Gaussian → Source → Pair complex_rationals
held_places s c = places pole_of dipole_of [] s (offset c)

-- the exact moment k in units, as the functional gives it
abbrev pub held_moment : ℕ → Gaussian → List Source → ℕ → ℂ
held_moment s c xs k = (held xs).apply (pow (function_ring Source dual_complex) (held_places s c) k)

-- a x^k + (b/s) k x^(k - 1)
abbrev pub exact_of : ℕ → Gaussian → ℕ → Source → ℂ
exact_of s c k x = value (pole_of x) *ℂ pow complex_rationals (sides s (offset c x)) k +ℂ value (dipole_of x) *ℂ reciprocal s *ℂ pow_slope complex_rationals (sides s (offset c x)) k

Stands-moment_of : (s : ℕ) (c : Gaussian) (k : ℕ) (x : Source) → 0 < s → Stands (moment_of s c k x) (exact_of s c k x)
Stands-moment_of s c k x h = Stands-add
    (Stands-mul (Stands-whole (pole_of x)) (Stands-pow (Stands-in_sides s (offset c x) h) k))
    (Stands-mul (subst (λ i. Stands (over_complex (whole_complex (dipole_of x)) (pos s)) (value (dipole_of x) *ℂ i)) (sym (reciprocal-is s)) (Stands-over (pos s) (omega (arith, ints)) (Stands-whole (dipole_of x)))) (Stands-slope (Stands-in_sides s (offset c x) h) k))

-- what the moment stands for
pub Stands-moment : (s : ℕ) (c : Gaussian) (xs : List Source) (k : ℕ) → 0 < s → Stands (moment s c xs k) (sum_list complex_rationals (exact_of s c k) xs)
Stands-moment s c xs k h = Stands-sum_terms (moment_of s c k) (exact_of s c k) xs (λ i d l. Stands-moment_of s c k (get_or xs i d) h)

-- in units
pub units-moment : (s : ℕ) (c : Gaussian) (xs : List Source) (k : ℕ) → units *ℂ sum_list complex_rationals (exact_of s c k) xs ≡ held_moment s c xs k
units-moment s c xs k = sym (sum_list-mul complex_rationals units _ xs) ∙ sum_list-congruence complex_rationals _ _ xs (λ x.
    spread (value (pole_of x)) (value (dipole_of x)) (pow complex_rationals (sides s (offset c x)) k) (pow_slope complex_rationals (sides s (offset c x)) k)
    ∙ ap (λ w. units *ℂ value (pole_of x) *ℂ w.re +ℂ units *ℂ value (dipole_of x) *ℂ w.im)
    (sym (pow-at Source dual_complex (held_places s c) k x ∙ pow-dual_scaled complex_rationals (sides s (offset c x)) (reciprocal s) k)))
  where
    spread : (a b p q : ℂ) → units *ℂ (a *ℂ p +ℂ b *ℂ reciprocal s *ℂ q) ≡ units *ℂ a *ℂ p +ℂ units *ℂ b *ℂ (reciprocal s *ℂ q)
    spread a b p q = ring6 complex_rationals units a b p q (reciprocal s) (λ u a b p q r. search quotes depth 12) tt

-- a row that contains the moments holds what the functional gives
pub moments_enclosed : (P s : ℕ) (c : Gaussian) (xs : List Source) (m : ℕ → BoxEnds) → 0 < s → HoldsMoments P s c xs m → (k : ℕ) → k < P → EnclosesBox (m k) (held_moment s c xs k)
moments_enclosed P s c xs m s>0 h k l = subst (EnclosesBox (m k)) (units-moment s c xs k) (enclosed_from_contained (pos (2 ^ 40)) (m k) (Stands-moment s c xs k s>0) (h.contains k l))

-- and back
pub moments_contained : (P s : ℕ) (c : Gaussian) (xs : List Source) (m : ℕ → BoxEnds) → 0 < s → ((k : ℕ) → k < P → EnclosesBox (m k) (held_moment s c xs k)) → HoldsMoments P s c xs m
moments_contained P s c xs m s>0 h = record {
  contains = λ k l. contained_from_enclosed (pos (2 ^ 40)) (m k) (Stands-moment s c xs k s>0) (subst (EnclosesBox (m k)) (sym (units-moment s c xs k)) (h k l));
}

-- ---- the laws
pub no_moments : NoMoments
no_moments P s c = record { contains = λ k l. BoxEndsContain-zero }

pub source_moments : SourceMoments
source_moments P s c x s≥1 = moments_contained P s c (x ∷ []) (source_moment s (pole_of x) (dipole_of x) (offset c x)) s≥1 (λ k l.
    subst (EnclosesBox (source_moment s (pole_of x) (dipole_of x) (offset c x) k)) (alone k) (source_moment_holds s (pole_of x) (dipole_of x) (offset c x) s≥1 k))
  where
    alone : (k : ℕ) → units *ℂ value (pole_of x) *ℂ pow complex_rationals (sides s (offset c x)) k +ℂ units *ℂ value (dipole_of x) *ℂ (reciprocal s *ℂ pow_slope complex_rationals (sides s (offset c x)) k) ≡ held_moment s c (x ∷ []) k
    alone k = ap (λ w. units *ℂ value (pole_of x) *ℂ w.re +ℂ units *ℂ value (dipole_of x) *ℂ w.im)
        (sym (pow-at Source dual_complex (held_places s c) k x ∙ pow-dual_scaled complex_rationals (sides s (offset c x)) (reciprocal s) k))
        ∙ sym (complex_rationals.add_zero _)

pub sum_of_moments : SumOfMoments
sum_of_moments P s c xs ys m n s≥1 h g = moments_contained P s c (xs ++ ys) (λ k. add_box (m k) (n k)) s≥1 (λ k l.
    subst (EnclosesBox (add_box (m k) (n k))) (sym (sum_list-append complex_rationals _ xs ys)) (EnclosesBox-add (moments_enclosed P s c xs m s≥1 h k l) (moments_enclosed P s c ys n s≥1 g k l)))

-- the offset from the parent's centre
up_offset : (s : ℕ) (q c : Gaussian) (x : Source) → parent_offset s q (offset (add_gaussian c (scale_gaussian s q)) x) ≡ offset c x
up_offset s q c x = λ i. record { re = cancel (x.place.re +ℤ x.place.re) c.re (pos s *ℤ q.re) i; im = cancel (x.place.im +ℤ x.place.im) c.im (pos s *ℤ q.im) i }
  where
    cancel : (z c p : ℤ) → z -ℤ (c +ℤ p) +ℤ p ≡ z -ℤ c
    cancel z c p = ring3 int_ring z c p (λ z c p. search int_quotes depth 12) tt

pub moments_up : MomentsUp
moments_up P s q c xs m s≥1 h = moments_contained P (2 * s) c xs (shifted_up m q) (omega arith) (λ k l.
    subst (EnclosesBox (shifted_up m q k)) (ap (λ f. (held xs).apply (pow (function_ring Source dual_complex) f k)) (λ i x. place (2 * s) (up_offset s q c x i)))
    (parent_moments_held pole_of dipole_of xs s q (offset (add_gaussian c (scale_gaussian s q))) s≥1 P m (moments_enclosed P s (add_gaussian c (scale_gaussian s q)) xs m s≥1 h) k l))

-- ---- values
-- the cut term of a source at the offset o, with w the inverse of the target's distance from the centre
abbrev exact_cut : ℕ → Gaussian → Gaussian → Source → ℂ
exact_cut P c t x = Cut.multipole_cut complex_rationals (value (pole_of x)) (value (dipole_of x)) (halved_value (offset c x)) (inverse_ℂ (halved_value (doubled_offset t c))) P

Stands-cut : (P : ℕ) (c t : Gaussian) (x : Source) → pos 0 <ℤ norm_gaussian (doubled_offset t c) → Stands (multipole_cut P c t x) (exact_cut P c t x)
Stands-cut P c t x h = by_kind x.dipole x.strength
  where
    poles : ℂ
    poles = sum_below complex_rationals P (λ k. pow complex_rationals (halved_value (doubled_offset x.place c)) k *ℂ pow complex_rationals (inverse_ℂ (halved_value (doubled_offset t c))) (suc k))

    dipoles : ℂ
    dipoles = sum_below complex_rationals P (λ k. pow_slope complex_rationals (halved_value (doubled_offset x.place c)) k *ℂ pow complex_rationals (inverse_ℂ (halved_value (doubled_offset t c))) (suc k))

    right : (a p q : ℂ) → a *ℂ p ≡ a *ℂ p +ℂ of_int_ℂ (pos 0) *ℂ q
    right a p q = ring3 complex_rationals a p q (λ a p q. search quotes depth 9) tt

    left : (b p q : ℂ) → b *ℂ q ≡ of_int_ℂ (pos 0) *ℂ p +ℂ b *ℂ q
    left b p q = ring3 complex_rationals b p q (λ b p q. search quotes depth 9) tt

    by_kind : (d : Bool) (g : Gaussian) → Stands (cond d (multipole_dipole_cut P (doubled_offset t c) (doubled_offset x.place c) g) (multipole_pole_cut P (doubled_offset t c) (doubled_offset x.place c) g))
        (value (cond d zero_gaussian g) *ℂ poles +ℂ value (cond d g zero_gaussian) *ℂ dipoles)
    by_kind true g = subst (Stands _) (left (value g) poles dipoles ∙ ap (λ a. a *ℂ poles +ℂ value g *ℂ dipoles) (sym value-nothing))
        (Stands-multipole_dipole_cut P (doubled_offset t c) (doubled_offset x.place c) (halved_positive (doubled_offset t c) h) g)
    by_kind false g = subst (Stands _) (right (value g) poles dipoles ∙ ap (λ b. value g *ℂ poles +ℂ b *ℂ dipoles) (sym value-nothing))
        (Stands-multipole_pole_cut P (doubled_offset t c) (doubled_offset x.place c) (halved_positive (doubled_offset t c) h) g)

-- a factor of both strengths
cut-units : (P : ℕ) (a b u w : ℂ) → Cut.multipole_cut complex_rationals (units *ℂ a) (units *ℂ b) u w P ≡ units *ℂ Cut.multipole_cut complex_rationals a b u w P
cut-units P a b u w = ring5 complex_rationals units a b (sum_below complex_rationals P (λ k. pow complex_rationals u k *ℂ pow complex_rationals w (suc k))) (sum_below complex_rationals P (λ k. pow_slope complex_rationals u k *ℂ pow complex_rationals w (suc k)))
    (λ u a b p q. search quotes depth 12) tt

pub multipole_values : MultipoleValues
multipole_values P s c t xs m s≥1 apart h = contained_from_enclosed (pos (2 ^ 40)) (multipole_value P m s (doubled_offset t c)) (Stands-sum_terms (multipole_cut P c t) (exact_cut P c t) xs (λ i d l. Stands-cut P c t (get_or xs i d) apart))
    (subst (EnclosesBox (multipole_value P m s (doubled_offset t c))) sums
    (multipole_value_holds P m (held_moment s c xs) (moments_enclosed P s c xs m s≥1 h) s s≥1 (doubled_offset t c) (far_ratio s (doubled_offset t c)) apart (far_ratio-is s (doubled_offset t c) apart)))
  where
    -- the places in sides are the offsets over the side
    scaled_places : held_places s c ≡ Cut.scaled complex_rationals (λ x. units *ℂ value (pole_of x)) (λ x. units *ℂ value (dipole_of x)) [] (reciprocal s) (λ x. halved_value (offset c x))
    scaled_places = λ i x. record { re = sym (sides-half s (offset c x) s≥1) i; im = reciprocal s }

    sums : reciprocal s *ℂ (far_ratio s (doubled_offset t c) *ℂ polynomial complex_rationals P (held_moment s c xs) (far_ratio s (doubled_offset t c))) ≡ units *ℂ sum_list complex_rationals (exact_cut P c t) xs
    sums =
        ap (λ f. reciprocal s *ℂ (far_ratio s (doubled_offset t c) *ℂ polynomial complex_rationals P (λ k. (held xs).apply (pow (function_ring Source dual_complex) f k)) (far_ratio s (doubled_offset t c)))) scaled_places
        ∙ Cut.multipole_cut_sum complex_rationals (λ x. units *ℂ value (pole_of x)) (λ x. units *ℂ value (dipole_of x)) xs (reciprocal s) (λ x. halved_value (offset c x)) (far_ratio s (doubled_offset t c)) P
        ∙ sum_list-congruence complex_rationals _ _ xs (λ x.
        ap (λ w. Cut.multipole_cut complex_rationals (units *ℂ value (pole_of x)) (units *ℂ value (dipole_of x)) (halved_value (offset c x)) w P) (far_ratio-over s (doubled_offset t c) s≥1 apart)
        ∙ cut-units P (value (pole_of x)) (value (dipole_of x)) (halved_value (offset c x)) (inverse_ℂ (halved_value (doubled_offset t c))))
        ∙ sum_list-mul complex_rationals units _ xs

-- a row with the same boxes
pub moments_same : (P s : ℕ) (c : Gaussian) (xs : List Source) (m n : ℕ → BoxEnds) → ((k : ℕ) → k < P → n k ≡ m k) → HoldsMoments P s c xs m → HoldsMoments P s c xs n
moments_same P s c xs m n e h = record { contains = λ k l. subst (λ b. BoxEndsContain (pos (2 ^ 40)) b (moment s c xs k)) (sym (e k l)) (h.contains k l) }
