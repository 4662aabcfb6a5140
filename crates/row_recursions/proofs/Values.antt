-- The values of rows, by Horner's scheme.
use Rattle.exact_math.proofs.Common.{◌≡◌, sym, ap, subst, ◌∙◌, ℕ, zero, suc, arith, ints, pos, ◌<ℤ◌, quotes, combine, ring1, ring4, ring5, ℂ, complex_rationals, of_int_ℂ, ◌+ℂ◌, ◌*ℂ◌}
use Prim.Native.Nat.{◌-◌, ◌*◌, ◌<◌, ◌≤◌}
use Rattle.exact_math.specs.Ends.{BoxEnds}
use Rattle.exact_math.specs.Gaussian.{Gaussian, norm_gaussian}
use Rattle.exact_math.proofs.BoxEnclosures.{EnclosesBox, EnclosesBox-zero, EnclosesBox-add, EnclosesBox-quot, EnclosesBox-gquot}
use Rattle.exact_math.proofs.Gaussians.{value}
use Rattle.exact_math.proofs.Horner.{polynomial, horner_round, horner_sum}
use Rattle.row_recursions.specs.Rows.{local_round, local_value, multipole_round, multipole_value}
use Rattle.row_recursions.proofs.BoxSums.{EnclosesBox-ratio}
use Rattle.row_recursions.proofs.Sides.{sides, sides-doubled, reciprocal, side_over}

module _ (P : ℕ) (m : ℕ → BoxEnds) (c : ℕ → ℂ) (contains : (l : ℕ) → l < P → EnclosesBox (m l) (c l)) (s : ℕ) (s>0 : 0 < s) where
  module _ (o : Gaussian) where
    local_round_holds : (n : ℕ) → n ≤ P → EnclosesBox (local_round P m s o n) (horner_round complex_rationals P c (sides s o) n)
    unfolding local_round
    local_round_holds zero h = EnclosesBox-zero
    local_round_holds (suc n) h = EnclosesBox-add
        (EnclosesBox-gquot o (pos (2 * s)) (omega (arith, ints)) (local_round_holds n (omega arith))
        (combine complex_rationals (horner_round complex_rationals P c (sides s o) n) (sides-doubled s o s>0)
        (ring4 complex_rationals (of_int_ℂ (pos (2 * s))) (sides s o) (value o) (horner_round complex_rationals P c (sides s o) n) (λ s x o h. search quotes depth 12) tt)))
        (contains (P - suc n) (omega arith))

    -- the polynomial's value over the side
    pub local_value_holds : EnclosesBox (local_value P m s o) (reciprocal s *ℂ polynomial complex_rationals P c (sides s o))
    unfolding local_value
    local_value_holds = EnclosesBox-quot (pos s) (omega (arith, ints)) (subst (EnclosesBox (local_round P m s o P)) (horner_sum complex_rationals P c (sides s o) ∙ sym (side_over s _ s>0))
        (local_round_holds P (omega arith)))

  -- the doubled offset zeta, and r = 2 s/zeta
  module _ (zeta : Gaussian) (r : ℂ) (apart : pos 0 <ℤ norm_gaussian zeta) (r-is : value zeta *ℂ r ≡ of_int_ℂ (pos (2 * s))) where
    multipole_round_holds : (n : ℕ) → n ≤ P → EnclosesBox (multipole_round P m s zeta n) (r *ℂ horner_round complex_rationals P c r n)
    unfolding multipole_round
    multipole_round_holds zero h = subst (EnclosesBox (multipole_round P m s zeta zero)) (ring1 complex_rationals r (λ r. search quotes depth 9) tt) EnclosesBox-zero
    multipole_round_holds (suc n) h =
        let k = horner_round complex_rationals P c r n in
        let a = c (P - suc n) in
        EnclosesBox-ratio (2 * s) zeta apart (EnclosesBox-add (multipole_round_holds n (omega arith)) (contains (P - suc n) (omega arith)))
        (combine complex_rationals (r *ℂ k +ℂ a) r-is (ring5 complex_rationals r k a (value zeta) (of_int_ℂ (pos (2 * s))) (λ r k a z s. search quotes depth 12) tt))

    -- (1/s) sum of c k r^(k + 1)
    pub multipole_value_holds : EnclosesBox (multipole_value P m s zeta) (reciprocal s *ℂ (r *ℂ polynomial complex_rationals P c r))
    unfolding multipole_value
    multipole_value_holds = EnclosesBox-quot (pos s) (omega (arith, ints)) (subst (EnclosesBox (multipole_round P m s zeta P)) (ap (λ z. r *ℂ z) (horner_sum complex_rationals P c r) ∙ sym (side_over s _ s>0))
        (multipole_round_holds P (omega arith)))
