-- A local row that is brought down to a child holds the same field.
use Rattle.exact_math.proofs.Common.{◌≡◌, sym, ap, ap₂, subst, ◌∙◌, ℕ, zero, suc, arith, ℤ, pos, ◌+ℤ◌, ◌-ℤ◌, ◌*ℤ◌, int_ring, quotes, int_quotes, combine, ring1, ring3, ring4, ring5, ring7, ℂ, complex_rationals, of_int_ℂ, ◌+ℂ◌, ◌*ℂ◌, neg_ℂ}
use Prim.Native.Nat.{◌-◌, ◌*◌, ◌<◌}
use Rattle.exact_math.specs.Gaussian.{Gaussian, add_gaussian, scale_gaussian}
use Rattle.exact_math.specs.Ratio.{ComplexRatio, zero_complex, whole_complex, over_complex, ◌+ᶜ◌, ◌*ᶜ◌}
use Rattle.exact_math.proofs.BoxEnclosures.{EnclosesBox}
use Rattle.exact_math.proofs.Fractions.{Stands, Stands-whole, Stands-count, Stands-zero, Stands-add, Stands-mul}
use Rattle.exact_math.proofs.Gaussians.{value}
use Rattle.exact_math.proofs.Horner.{polynomial}
use Rattle.exact_math.specs.Sums.{natural_complex}
use Rattle.truncation.specs.Places.{doubled_offset}
use Rattle.row_recursions.specs.Laws.{FieldDown}
use Rattle.row_recursions.specs.Rows.{shifted_down}
use Rattle.row_recursions.proofs.BoxSums.{units}
use Rattle.row_recursions.proofs.DownPolynomials.{down_coefficient, exact_down}
use Rattle.row_recursions.proofs.DownRows.{half, shifted_down_holds, shifted_down_polynomial}
use Rattle.row_recursions.proofs.FieldLaws.{Stands-over_side, field_value, holds_field, held_coefficient, coefficient_stands, coefficient_enclosed, field_stands}
use Rattle.row_recursions.proofs.Sides.{sides, reciprocal, reciprocal-right, reciprocal-double, parent_offset, parent_offset-value}

-- ---- the coefficients about the child's centre, in fractions
abbrev half_fraction : ComplexRatio
half_fraction = over_complex (natural_complex 1) (pos 2)

Stands-half : Stands half_fraction half
Stands-half = subst (Stands half_fraction) (ring1 complex_rationals half (λ h. search quotes depth 9) tt) (Stands-over_side 2 (omega arith) (Stands-count 1))

-- g/4
abbrev quarter_fraction : ComplexRatio → ComplexRatio
quarter_fraction z = half_fraction *ᶜ half_fraction *ᶜ z

down_fraction : Gaussian → ℕ → (ℕ → ComplexRatio) → ℕ → ℕ → ComplexRatio
down_fraction q P c zero k = zero_complex
down_fraction q P c (suc n) zero = c (P - suc n) +ᶜ quarter_fraction (whole_complex q *ᶜ down_fraction q P c n zero)
down_fraction q P c (suc n) (suc k) = quarter_fraction (whole_complex q *ᶜ down_fraction q P c n (suc k) +ᶜ natural_complex 2 *ᶜ down_fraction q P c n k)

Stands-down : (q : Gaussian) (P : ℕ) (c : ℕ → ComplexRatio) (v : ℕ → ℂ) → ((l : ℕ) → Stands (c l) (v l)) → (n k : ℕ) → Stands (down_fraction q P c n k) (down_coefficient complex_rationals half (value q) P v n k)
unfolding down_fraction
Stands-down q P c v st zero k = Stands-zero
Stands-down q P c v st (suc n) zero = Stands-add (st (P - suc n)) (Stands-mul (Stands-mul Stands-half Stands-half) (Stands-mul (Stands-whole q) (Stands-down q P c v st n zero)))
Stands-down q P c v st (suc n) (suc k) = Stands-mul (Stands-mul Stands-half Stands-half) (Stands-add (Stands-mul (Stands-whole q) (Stands-down q P c v st n (suc k))) (Stands-mul (Stands-count 2) (Stands-down q P c v st n k)))

-- with a factor
down-units : (q : ℂ) (P : ℕ) (v : ℕ → ℂ) (n k : ℕ) → down_coefficient complex_rationals half q P (λ l. units *ℂ v l) n k ≡ units *ℂ down_coefficient complex_rationals half q P v n k
down-units q P v zero k = ring1 complex_rationals units (λ u. search quotes depth 9) tt
down-units q P v (suc n) zero =
    ap (λ z. units *ℂ v (P - suc n) +ℂ half *ℂ half *ℂ (q *ℂ z)) (down-units q P v n zero)
    ∙ ring5 complex_rationals units (v (P - suc n)) half q (down_coefficient complex_rationals half q P v n zero) (λ u v h q d. search quotes depth 12) tt
down-units q P v (suc n) (suc k) =
    ap₂ (λ y z. half *ℂ half *ℂ (q *ℂ y +ℂ of_int_ℂ (pos 2) *ℂ z)) (down-units q P v n (suc k)) (down-units q P v n k)
    ∙ ring5 complex_rationals units half q (down_coefficient complex_rationals half q P v n (suc k)) (down_coefficient complex_rationals half q P v n k) (λ u h q d e. search quotes depth 12) tt

exact-units : (q : ℂ) (P : ℕ) (v : ℕ → ℂ) (k : ℕ) → exact_down complex_rationals half q P (λ l. units *ℂ v l) k ≡ units *ℂ exact_down complex_rationals half q P v k
exact-units q P v k = ap (λ z. half *ℂ z) (down-units q P v P k) ∙ ring3 complex_rationals units half (down_coefficient complex_rationals half q P v P k) (λ u h d. search quotes depth 9) tt

-- ---- places
-- the offset from the parent's centre
down_offset : (s : ℕ) (q b t : Gaussian) → parent_offset s q (doubled_offset t (add_gaussian b (scale_gaussian s q))) ≡ doubled_offset t b
down_offset s q b t = λ i. record { re = cancel (t.re +ℤ t.re) b.re (pos s *ℤ q.re) i; im = cancel (t.im +ℤ t.im) b.im (pos s *ℤ q.im) i }
  where
    cancel : (z c p : ℤ) → z -ℤ (c +ℤ p) +ℤ p ≡ z -ℤ c
    cancel z c p = ring3 int_ring z c p (λ z c p. search int_quotes depth 12) tt

-- 4 t = 2 T + q, for the place in the parent's sides and in the child's
moves : (s : ℕ) (q o : Gaussian) → 0 < s → of_int_ℂ (pos 4) *ℂ sides (2 * s) (parent_offset s q o) ≡ of_int_ℂ (pos 2) *ℂ sides s o +ℂ value q
moves s q o h =
    let p = value (parent_offset s q o) in
    let z = value o in
    let g = value q in
    let n = of_int_ℂ (pos s) in
    let r = reciprocal s in
    let a = reciprocal (2 * s) in
    let b = reciprocal (2 * (2 * s)) in
    combine complex_rationals (of_int_ℂ (pos 4) *ℂ b) (parent_offset-value s q o)
    (combine complex_rationals (of_int_ℂ (pos 2) *ℂ (z +ℂ n *ℂ g)) (reciprocal-double (2 * s) (omega arith))
    (combine complex_rationals (n *ℂ g) (reciprocal-double s h)
    (combine complex_rationals g (reciprocal-right s h)
    (ring7 complex_rationals p z g n r a b (λ p z g n r a b. search quotes depth 14) tt))))

pub field_down : FieldDown
field_down P s q b f m s≥1 h = holds_field P s (add_gaussian b (scale_gaussian s q)) f (shifted_down P m q)
    (λ k. half_fraction *ᶜ down_fraction q P h.coefficient P k) (exact_down complex_rationals half (value q) P (held_coefficient wide h)) s≥1
    (λ k. Stands-mul Stands-half (Stands-down q P h.coefficient (held_coefficient wide h) (coefficient_stands wide h) P k))
    (λ k i. subst (EnclosesBox (shifted_down P m q k)) (exact-units (value q) P (held_coefficient wide h) k)
    (shifted_down_holds q P m (λ l. units *ℂ held_coefficient wide h l) (coefficient_enclosed wide h) k))
    (λ t. subst (Stands (f t)) (same t) (field_stands wide h t))
  where
    wide : 0 < 2 * s
    wide = omega arith

    same : (t : Gaussian) → field_value P (2 * s) (held_coefficient wide h) (doubled_offset t b)
        ≡ field_value P s (exact_down complex_rationals half (value q) P (held_coefficient wide h)) (doubled_offset t (add_gaussian b (scale_gaussian s q)))
    same t =
        let o = doubled_offset t (add_gaussian b (scale_gaussian s q)) in
        ap (λ y. polynomial complex_rationals P (held_coefficient wide h) (sides (2 * s) y) *ℂ reciprocal (2 * s)) (sym (down_offset s q b t))
        ∙ turned (polynomial complex_rationals P (held_coefficient wide h) (sides (2 * s) (parent_offset s q o)))
        (polynomial complex_rationals P (exact_down complex_rationals half (value q) P (held_coefficient wide h)) (sides s o))
        (shifted_down_polynomial q (sides (2 * s) (parent_offset s q o)) (sides s o) (moves s q o s≥1) P (held_coefficient wide h))
      where
        turned : (y x : ℂ) → of_int_ℂ (pos 2) *ℂ x ≡ y → y *ℂ reciprocal (2 * s) ≡ x *ℂ reciprocal s
        turned y x e = combine complex_rationals (neg_ℂ (reciprocal (2 * s))) e
            (combine complex_rationals x (reciprocal-double s s≥1) (ring4 complex_rationals y x (reciprocal s) (reciprocal (2 * s)) (λ y x r a. search quotes depth 12) tt))
