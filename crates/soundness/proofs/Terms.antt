-- The terms of points at a place, 0 for a point at that place: pairs hold them, the direct sum is their sum, and what truncation compares is made of them.
use Rattle.std.proofs.Common.{◌≡◌, refl, sym, ap, ap₂, subst, subst₂, ◌∙◌, arith, Bool, true, false, cond, not, ◌&&◌, List, get_or}
use Rattle.std.specs.Prelude.{ℤ, pos, ◌+ℤ◌, ◌-ℤ◌, ◌*ℤ◌, ◌<ℤ◌, ◌^◌, [], ◌∷◌, map, All, if◌then◌else◌, filter}
use Rattle.std.specs.Ordering.{int_eq}
use Rattle.std.proofs.lemmas.Int.{ints}
use Rattle.std.proofs.lemmas.Bool.{and_parts}
use Rattle.std.proofs.lemmas.Bool.Decides.{Decides-int_eq}
use Rattle.std.proofs.lemmas.List.Elements.{All-map, filter_passes}
use Rattle.exact_math.specs.Ends.{zero_box}
use Rattle.exact_math.specs.Gaussian.{Gaussian, sub_gaussian, norm_gaussian, zero_gaussian}
use Rattle.exact_math.specs.Sums.{sum_terms}
use Rattle.exact_math.proofs.RingTactic.{quotes, ring1}
use Rattle.exact_math.proofs.Sums.{sum_list, sum_list-congruence, sum_list-mul}
use Rattle.exact_math.proofs.ListSums.{sum_list-congruence_all, sum_list-map, sum_list-filter}
use Rattle.exact_math.proofs.ComplexRationals.{ℂ, complex_rationals, of_int_ℂ, ◌*ℂ◌, inverse_ℂ}
use Rattle.exact_math.proofs.Gaussians.{value}
use Rattle.exact_math.proofs.DirectTerms.{pole-value}
use Rattle.exact_math.proofs.Fractions.{complex_value, Stands, Stands-itself, Stands-zero, Stands-sum_terms}
use Rattle.exact_math.proofs.BoxEnclosures.{EnclosesBox, EnclosesBox-zero, enclosed_from_contained}
use Rattle.near_field.specs.DirectSum.{acts_on, direct_sum}
use Rattle.points.specs.Points.{place, strength}
use Rattle.points.specs.Strength.{acts}
use Rattle.near_field.specs.Pair.{is_at, strength_term, term_of, outward, pair_box}
use Rattle.near_field.proofs.PairContains.{distance_positive, term_denominator, pair_box-contains, acts-apart}
use Rattle.points.specs.declared.Point.{Point}
use Rattle.points.specs.declared.Strength.{Strength}
use Rattle.points.specs.declared.Strength.TheVariants.{Pole, Dipole, Nothing}
use Rattle.row_recursions.specs.Sources.{source_at, source_of}
use Rattle.row_recursions.proofs.BoxSums.{units}
use Rattle.row_recursions.proofs.MomentLaws.{value-nothing}
use Rattle.truncation.specs.Entries.{Source, exact_term}
use Rattle.soundness.specs.Accounts.{LeafSource, points_of}

-- the source that a point is
abbrev pub source_in : LeafSource → Source
source_in x = source_of x.point

abbrev pub sources_in : List LeafSource → List Source
sources_in xs = map source_in xs

-- the term of a point at t, 0 where it stands there
abbrev pub term_value : Gaussian → Point → ℂ
term_value t p = cond (is_at t p) (of_int_ℂ (pos 0)) (complex_value (term_of t p))

-- in units of 2^-40
abbrev pub term_in_units : Gaussian → LeafSource → ℂ
term_in_units t x = units *ℂ term_value t x.point

zero_times : (z : ℂ) → z *ℂ of_int_ℂ (pos 0) ≡ of_int_ℂ (pos 0)
zero_times z = ring1 complex_rationals z (λ z. search quotes depth 9) tt

-- ---- pairs
pub pair_holds : (t : Gaussian) (x : LeafSource) → EnclosesBox (pair_box t x.point) (term_in_units t x)
pair_holds t x = by (is_at t x.point) refl
  where
    by : (b : Bool) → is_at t x.point ≡ b → EnclosesBox (pair_box t x.point) (term_in_units t x)
    by true e = subst₂ EnclosesBox (sym (ap (λ b. if b then zero_box else outward (term_of t x.point)) e))
        (sym (ap (λ b. units *ℂ cond b (of_int_ℂ (pos 0)) (complex_value (term_of t x.point))) e ∙ zero_times units)) EnclosesBox-zero
    by false e = subst (EnclosesBox (pair_box t x.point)) (sym (ap (λ b. units *ℂ cond b (of_int_ℂ (pos 0)) (complex_value (term_of t x.point))) e))
        (enclosed_from_contained (pos (2 ^ 40)) (pair_box t x.point) (Stands-itself (term_of t x.point) (term_denominator (strength x.point.kind) _ (distance_positive t x.point e))) (pair_box-contains t x.point e))

-- ---- the direct sum
-- a target adds nothing
acting_value : (a : Strength) (at : Bool) (delta : Gaussian) → cond (acts a && not at) (complex_value (strength_term a delta)) (of_int_ℂ (pos 0)) ≡ cond at (of_int_ℂ (pos 0)) (complex_value (strength_term a delta))
acting_value (Pole re im) true delta = refl
acting_value (Pole re im) false delta = refl
acting_value (Dipole re im) true delta = refl
acting_value (Dipole re im) false delta = refl
acting_value Nothing true delta = refl
acting_value Nothing false delta = sym (Stands-zero.is)

pub direct_sum-stands : (t : Gaussian) (points : List Point) → Stands (direct_sum t points) (sum_list complex_rationals (term_value t) points)
direct_sum-stands t points = subst (Stands (direct_sum t points))
    (sum_list-filter complex_rationals (acts_on t) (λ p. complex_value (term_of t p)) points
    ∙ sum_list-congruence complex_rationals _ _ points (λ p. acting_value (strength p.kind) (is_at t p) _))
    (Stands-sum_terms (term_of t) (λ p. complex_value (term_of t p)) (filter (acts_on t) points) (λ k d l. acting (get_or (filter (acts_on t) points) k d) (filter_passes (acts_on t) points k d l)))
  where
    acting : (p : Point) → acts_on t p ≡ true → Stands (term_of t p) (complex_value (term_of t p))
    acting p e = Stands-itself (term_of t p) (term_denominator (strength p.kind) _ (distance_positive t p (acts-apart t p e)))

-- in units, over sources with their leaves
pub direct_sum-in_units : (t : Gaussian) (xs : List LeafSource) → units *ℂ sum_list complex_rationals (term_value t) (points_of xs) ≡ sum_list complex_rationals (term_in_units t) xs
direct_sum-in_units t xs = ap (λ z. units *ℂ z) (sum_list-map complex_rationals (term_value t) (λ x. x.point) xs) ∙ sym (sum_list-mul complex_rationals units _ xs)

-- ---- the terms that truncation compares
-- one source alone
pub one_positive : (t : Gaussian) (x : Source) → pos 0 <ℤ (sum_terms (exact_term t) (x ∷ [])).denominator → pos 0 <ℤ (exact_term t x).denominator
one_positive t x h = below (exact_term t x).denominator h
  where
    below : (d : ℤ) → pos 0 <ℤ (pos 1 *ℤ d) → pos 0 <ℤ d
    below d h = omega (arith, ints)

-- the norm of a distance is above 0 where the term is a fraction
norm_of_term : (t z : Gaussian) (a : Strength) → pos 0 <ℤ (exact_term t (source_at z a)).denominator → norm_gaussian (sub_gaussian t z) ≡ pos 0 → ⊥
norm_of_term t z (Pole re im) h e = let k = subst (λ n. pos 0 <ℤ n) e h in omega (arith, ints)
norm_of_term t z (Dipole re im) h e = let k = subst (λ n. pos 0 <ℤ (n *ℤ n)) e h in omega (arith, ints)
norm_of_term t z Nothing h e = let k = subst (λ n. pos 0 <ℤ n) e h in omega (arith, ints)

-- so the source stands elsewhere
elsewhere : (t : Gaussian) (p : Point) → pos 0 <ℤ (exact_term t (source_of p)).denominator → is_at t p ≡ false
elsewhere t p h = by (is_at t p) refl
  where
    same : (a b : ℤ) → a ≡ b → b -ℤ a ≡ pos 0
    same a b e = omega (arith, ints)

    none : p.x ≡ t.re → p.y ≡ t.im → norm_gaussian (sub_gaussian t (place p)) ≡ pos 0
    none e f = ap₂ (λ a b. a *ℤ a +ℤ b *ℤ b) (same p.x t.re e) (same p.y t.im f)

    by : (b : Bool) → is_at t p ≡ b → is_at t p ≡ false
    by false e = e
    by true e =
        let q = and_parts (int_eq p.x t.re) (int_eq p.y t.im) e in
        absurd (norm_of_term t (place p) (strength p.kind) h (none ((Decides-int_eq p.x t.re).0 q.0) ((Decides-int_eq p.y t.im).0 q.1)))

-- the term of the source is that of the point
same_term : (t z : Gaussian) (a : Strength) → complex_value (exact_term t (source_at z a)) ≡ complex_value (strength_term a (sub_gaussian t z))
same_term t z (Pole re im) = refl
same_term t z (Dipole re im) = refl
same_term t z Nothing = pole-value zero_gaussian (sub_gaussian t z) ∙ ap (λ a. a *ℂ inverse_ℂ (value (sub_gaussian t z))) value-nothing ∙ times_zero (inverse_ℂ (value (sub_gaussian t z))) ∙ sym (Stands-zero.is)
  where
    times_zero : (z : ℂ) → of_int_ℂ (pos 0) *ℂ z ≡ of_int_ℂ (pos 0)
    times_zero z = ring1 complex_rationals z (λ z. search quotes depth 9) tt

exact_value : (t : Gaussian) (p : Point) → pos 0 <ℤ (exact_term t (source_of p)).denominator → complex_value (exact_term t (source_of p)) ≡ term_value t p
exact_value t p h = same_term t (place p) (strength p.kind) ∙ sym (ap (λ b. cond b (of_int_ℂ (pos 0)) (complex_value (term_of t p))) (elsewhere t p h))

-- the sum of the terms of sources whose terms are fractions
pub exact_sum : (t : Gaussian) (xs : List LeafSource) → All (λ x. pos 0 <ℤ (exact_term t (source_in x)).denominator) xs
    → units *ℂ complex_value (sum_terms (exact_term t) (sources_in xs)) ≡ sum_list complex_rationals (term_in_units t) xs
exact_sum t xs positive =
    ap (λ z. units *ℂ z) ((Stands-sum_terms (exact_term t) (λ x. complex_value (exact_term t x)) (sources_in xs) each).is ∙ sum_list-map complex_rationals _ source_in xs)
    ∙ sym (sum_list-mul complex_rationals units _ xs)
    ∙ sum_list-congruence_all complex_rationals _ _ xs (λ k d l. ap (λ z. units *ℂ z) (exact_value t (get_or xs k d).point (positive k d l)))
  where
    each : All (λ x. Stands (exact_term t x) (complex_value (exact_term t x))) (sources_in xs)
    each = All-map (λ x. Stands (exact_term t x) (complex_value (exact_term t x))) source_in xs (λ k d l. Stands-itself _ (positive k d l))
