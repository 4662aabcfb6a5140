-- The shift up: a row that holds the moments L(x^k) of a linear functional goes to one that holds L(X^k), where 4 X = 2 x + q.
use Rattle.exact_math.proofs.Common.{◌≡◌, sym, ap, ap₂, subst, ◌∙◌, ℕ, zero, suc, arith, ints, pos, CommutativeRing, pow, quotes, combine, ring1, ring5, complex_rationals, of_int_ℂ, ◌+ℂ◌, ◌*ℂ◌}
use Prim.Native.Nat.{◌+◌, ◌<◌}
use Rattle.exact_math.specs.Ends.{BoxEnds, add_box, scale_box, gscale_box}
use Rattle.exact_math.specs.Gaussian.{Gaussian}
use Rattle.exact_math.proofs.BoxEnclosures.{EnclosesBox, EnclosesBox-add, EnclosesBox-gscale, EnclosesBox-quot}
use Rattle.exact_math.proofs.Gaussians.{value}
use Rattle.row_recursions.specs.Rows.{up_round, shifted_up}
use Rattle.row_recursions.proofs.BoxSums.{EnclosesBox-scale}
use Rattle.row_recursions.proofs.LinearFunctionals.{LinearFunctional, apply-int}

module _ (S : CommutativeRing) (L : LinearFunctional complex_rationals S) (x X : S.carrier) (q : Gaussian)
    (moves : S.mul (S.of_int (pos 4)) X ≡ S.add (S.mul (S.of_int (pos 2)) x) (L.constant (value q))) where
  -- X^r x^i
  abbrev mixed : ℕ → ℕ → S.carrier
  mixed r i = S.mul (pow S X r) (pow S x i)

  mixed_step : (r i : ℕ) → S.mul (S.of_int (pos 4)) (mixed (suc r) i) ≡ S.add (S.mul (S.of_int (pos 2)) (mixed r (suc i))) (S.mul (L.constant (value q)) (mixed r i))
  mixed_step r i = combine S (mixed r i) moves (ring5 S x X (L.constant (value q)) (pow S X r) (pow S x i) (λ x y q a b. search quotes depth 12) tt)

  value_step : (r i : ℕ) → of_int_ℂ (pos 4) *ℂ L.apply (mixed (suc r) i) ≡ of_int_ℂ (pos 2) *ℂ L.apply (mixed r (suc i)) +ℂ value q *ℂ L.apply (mixed r i)
  value_step r i =
      sym (apply-int complex_rationals S L (pos 4) (mixed (suc r) i)) ∙ ap L.apply (mixed_step r i) ∙ L.apply-add _ _
      ∙ ap₂ ◌+ℂ◌ (apply-int complex_rationals S L (pos 2) (mixed r (suc i))) (L.apply-mul (value q) (mixed r i))

  module _ (P : ℕ) (m : ℕ → BoxEnds) (contains : (i : ℕ) → i < P → EnclosesBox (m i) (L.apply (pow S x i))) where
    round_holds : (r i : ℕ) → r + i < P → EnclosesBox (up_round m q r i) (L.apply (mixed r i))
    unfolding up_round
    round_holds zero i h = subst (λ u. EnclosesBox (m i) (L.apply u)) (ring1 S (pow S x i) (λ p. search quotes depth 9) tt) (contains i (omega arith))
    round_holds (suc r) i h = EnclosesBox-quot (pos 4) (omega (arith, ints)) (subst (EnclosesBox (add_box (scale_box (up_round m q r (suc i)) (pos 2)) (gscale_box (up_round m q r i) q))) (sym (value_step r i))
        (EnclosesBox-add (EnclosesBox-scale (pos 2) (round_holds r (suc i) (omega arith))) (EnclosesBox-gscale q (round_holds r i (omega arith)))))

    -- the moments about the parent's centre
    pub shifted_up_holds : (k : ℕ) → k < P → EnclosesBox (shifted_up m q k) (L.apply (pow S X k))
    unfolding shifted_up
    shifted_up_holds k h = subst (λ u. EnclosesBox (up_round m q k 0) (L.apply u)) (S.mul_one _) (round_holds k 0 (omega arith))
