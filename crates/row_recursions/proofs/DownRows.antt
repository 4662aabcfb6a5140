-- The shift down: a row that holds the coefficients of a polynomial goes to one that holds those of its half about the child's centre.
use Rattle.exact_math.proofs.Common.{◌≡◌, sym, subst, ℕ, zero, suc, arith, ints, pos, quotes, combine, ring2, ℂ, complex_rationals, of_int_ℂ, ◌+ℂ◌, ◌*ℂ◌, neg_ℂ}
use Prim.Native.Nat.{◌-◌, ◌<◌, ◌≤◌}
use Rattle.exact_math.specs.Ends.{BoxEnds, add_box, scale_box, gscale_box}
use Rattle.exact_math.specs.Gaussian.{Gaussian}
use Rattle.exact_math.proofs.BoxEnclosures.{EnclosesBox, EnclosesBox-zero, EnclosesBox-add, EnclosesBox-gscale, EnclosesBox-quot}
use Rattle.exact_math.proofs.Gaussians.{value}
use Rattle.exact_math.proofs.Horner.{polynomial}
use Rattle.row_recursions.specs.Rows.{down_round, shifted_down}
use Rattle.row_recursions.proofs.BoxSums.{EnclosesBox-scale}
use Rattle.row_recursions.proofs.DownPolynomials.{down_coefficient, exact_down, down_polynomial}
use Rattle.row_recursions.proofs.Sides.{reciprocal, reciprocal-right}

-- 1/2
abbrev pub half : ℂ
half = reciprocal 2

pub half-is : of_int_ℂ (pos 2) *ℂ half ≡ of_int_ℂ (pos 1)
half-is = reciprocal-right 2 (omega arith)

quarter-is : (z : ℂ) → of_int_ℂ (pos 4) *ℂ (half *ℂ half *ℂ z) ≡ z
quarter-is z = combine complex_rationals (of_int_ℂ (pos 2) *ℂ half *ℂ z) half-is (combine complex_rationals z half-is (ring2 complex_rationals half z (λ h z. search quotes depth 12) tt))

module _ (q : Gaussian) (P : ℕ) (m : ℕ → BoxEnds) (c : ℕ → ℂ) (contains : (l : ℕ) → l < P → EnclosesBox (m l) (c l)) where
  abbrev E : ℕ → ℕ → ℂ
  E = down_coefficient complex_rationals half (value q) P c

  round_holds : (n k : ℕ) → n ≤ P → EnclosesBox (down_round P m q n k) (E n k)
  unfolding down_round
  round_holds zero k h = EnclosesBox-zero
  round_holds (suc n) zero h = EnclosesBox-add (contains (P - suc n) (omega arith)) (EnclosesBox-quot (pos 4) (omega (arith, ints))
      (subst (EnclosesBox (gscale_box (down_round P m q n zero) q)) (sym (quarter-is _)) (EnclosesBox-gscale q (round_holds n zero (omega arith)))))
  round_holds (suc n) (suc k) h = EnclosesBox-quot (pos 4) (omega (arith, ints))
      (subst (EnclosesBox (add_box (gscale_box (down_round P m q n (suc k)) q) (scale_box (down_round P m q n k) (pos 2)))) (sym (quarter-is _))
      (EnclosesBox-add (EnclosesBox-gscale q (round_holds n (suc k) (omega arith))) (EnclosesBox-scale (pos 2) (round_holds n k (omega arith)))))

  -- the coefficients about the child's centre
  pub shifted_down_holds : (k : ℕ) → EnclosesBox (shifted_down P m q k) (exact_down complex_rationals half (value q) P c k)
  unfolding shifted_down
  shifted_down_holds k = EnclosesBox-quot (pos 2) (omega (arith, ints)) (subst (EnclosesBox (down_round P m q P k))
      (combine complex_rationals (neg_ℂ (E P k)) half-is (ring2 complex_rationals half (E P k) (λ h e. search quotes depth 12) tt))
      (round_holds P k (omega arith)))

-- the same function of the place: t in the parent's sides from its centre, T in the child's from its own
pub shifted_down_polynomial : (q : Gaussian) (t T : ℂ) → of_int_ℂ (pos 4) *ℂ t ≡ of_int_ℂ (pos 2) *ℂ T +ℂ value q
    → (P : ℕ) (c : ℕ → ℂ) → of_int_ℂ (pos 2) *ℂ polynomial complex_rationals P (exact_down complex_rationals half (value q) P c) T ≡ polynomial complex_rationals P c t
shifted_down_polynomial q t T moves P c = down_polynomial complex_rationals half (value q) t T half-is moves P c
