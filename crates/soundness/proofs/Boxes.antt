-- Sums of boxes hold the sums of what the boxes hold, and a widened box holds what is near.
use Rattle.exact_math.proofs.Common.{◌≡◌, sym, subst, ◌∙◌, ℕ, suc, arith, ints, pos, neg_ℤ, quotes, ring2, ring4, sum_list, ℂ, complex_rationals, of_int_ℂ, ◌+ℂ◌, ◌-ℂ◌}
use mathlib.Core.List.{List, [], ◌∷◌}
use Prim.Native.Nat.{◌+◌, ◌≤◌}
use Rattle.std.specs.Prelude.{fold, All, sum_by}
use Rattle.std.proofs.lemmas.List.Sums.{sum_by-cons}
use Rattle.exact_math.specs.Ends.{BoxEnds, add_box, widen_box}
use Rattle.exact_math.proofs.BoxEnclosures.{EnclosesBox, EnclosesBox-zero, EnclosesBox-add, EnclosesBox-inside}
use Rattle.soundness.specs.Computed.{total_box}

module _ {A : Type 0} (box : A → BoxEnds) (exact : A → ℂ) where
  added : (xs : List A) (b : BoxEnds) (z : ℂ) → EnclosesBox b z → All (λ x. EnclosesBox (box x) (exact x)) xs
      → EnclosesBox (fold (λ s x. add_box s (box x)) b xs) (z +ℂ sum_list complex_rationals exact xs)
  added [] b z h each = subst (EnclosesBox b) (sym (complex_rationals.add_zero z)) h
  added (x ∷ xs) b z h each =
      subst (EnclosesBox (fold (λ s x. add_box s (box x)) (add_box b (box x)) xs)) (complex_rationals.add_assoc _ _ _)
      (added xs (add_box b (box x)) (z +ℂ exact x) (EnclosesBox-add h (each 0 x (omega arith))) (λ k d l. each (suc k) d (omega arith)))

  -- the sum of the boxes holds the sum of the numbers
  pub EnclosesBox-total : (xs : List A) → All (λ x. EnclosesBox (box x) (exact x)) xs → EnclosesBox (total_box box xs) (sum_list complex_rationals exact xs)
  EnclosesBox-total xs each = subst (EnclosesBox (total_box box xs)) (complex_rationals.add_comm _ _ ∙ complex_rationals.add_zero _) (added xs _ (of_int_ℂ (pos 0)) EnclosesBox-zero each)

-- ---- near 0
-- at most r on both sides
abbrev pub slack : ℕ → BoxEnds
slack r = record { re = record { lo = neg_ℤ (pos r); hi = pos r }; im = record { lo = neg_ℤ (pos r); hi = pos r } }

-- z is at most r from w, in each part
abbrev pub IsNear : ℕ → ℂ → ℂ → Type 0
IsNear r z w = EnclosesBox (slack r) (z -ℂ w)

pub IsNear-wider : {r s : ℕ} (z w : ℂ) → r ≤ s → IsNear r z w → IsNear s z w
IsNear-wider z w h k = EnclosesBox-inside (record { re = record { lo = omega (arith, ints); hi = omega (arith, ints) }; im = record { lo = omega (arith, ints); hi = omega (arith, ints) } }) k

-- nothing is 0 from nothing
pub IsNear-zero : IsNear 0 (of_int_ℂ (pos 0)) (of_int_ℂ (pos 0))
IsNear-zero = subst (EnclosesBox (slack 0)) (sym (less (of_int_ℂ (pos 0)))) EnclosesBox-zero
  where
    less : (z : ℂ) → z -ℂ z ≡ of_int_ℂ (pos 0)
    less z = ring2 complex_rationals z z (λ z w. search quotes depth 9) tt

-- distances add up
pub IsNear-add : {r s : ℕ} (z w z' w' : ℂ) → IsNear r z w → IsNear s z' w' → IsNear (r + s) (z +ℂ z') (w +ℂ w')
IsNear-add {r} {s} z w z' w' h k =
    subst (EnclosesBox (slack (r + s))) (ring4 complex_rationals z w z' w' (λ a b c d. search quotes depth 12) tt)
    (EnclosesBox-inside (record { re = record { lo = omega (arith, ints); hi = omega (arith, ints) }; im = record { lo = omega (arith, ints); hi = omega (arith, ints) } }) (EnclosesBox-add h k))

-- over a list
pub IsNear-sum : {A : Type 0} (f g : A → ℂ) (r : A → ℕ) (xs : List A) → All (λ x. IsNear (r x) (f x) (g x)) xs → IsNear (sum_by r xs) (sum_list complex_rationals f xs) (sum_list complex_rationals g xs)
IsNear-sum f g r [] each = IsNear-zero
IsNear-sum f g r (x ∷ xs) each =
    subst (λ n. IsNear n (sum_list complex_rationals f (x ∷ xs)) (sum_list complex_rationals g (x ∷ xs))) (sym (sum_by-cons r x xs))
    (IsNear-add (f x) (g x) _ _ (each 0 x (omega arith)) (IsNear-sum f g r xs (λ k d l. each (suc k) d (omega arith))))

-- a box that holds w, widened by r, holds what is at most r from w
pub EnclosesBox-widen : {b : BoxEnds} (r : ℕ) (z w : ℂ) → IsNear r z w → EnclosesBox b w → EnclosesBox (widen_box b (pos r)) z
EnclosesBox-widen {b} r z w h k =
    subst (EnclosesBox (widen_box b (pos r))) (ring2 complex_rationals z w (λ z w. search quotes depth 9) tt)
    (EnclosesBox-inside (record { re = record { lo = omega (arith, ints); hi = omega (arith, ints) }; im = record { lo = omega (arith, ints); hi = omega (arith, ints) } }) (EnclosesBox-add k h))
