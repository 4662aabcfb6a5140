-- Rounds of Horner's scheme: their sizes, and the coefficients that are nothing yet.
use Rattle.std.proofs.Common.{◌≡◌, refl, sym, ap, ap₂, ◌∙◌, Bool, true, false, ℕ, zero, suc, ◌+◌, ◌-◌, ◌*◌, ◌^◌, ◌≤◌, ◌<◌, arith, pos}
use mathlib.Core.Logic.{⊎_elim}
use Rattle.std.proofs.lemmas.Bool.{cases_lt}
use Rattle.std.proofs.lemmas.Int.{ints}
use Rattle.exact_math.specs.Ends.{BoxEnds, BoxEndsWithin, zero_box, add_box, scale_box, gscale_box, quot_box}
use Rattle.exact_math.specs.Gaussian.{Gaussian, gaussian}
use Rattle.complex_box.proofs.Sizes.{box_wider, add_box_within, quot_box_within, scale_box_within}
use Rattle.cell_name.specs.declared.cell.Quadrant.{Quadrant}
use Rattle.row_recursions.specs.Rows.{down_round}
use Rattle.row_recursions.specs.Sizes.{RowWithin}
use Rattle.row_recursions.proofs.Equations.{down_round-zero, down_round-first, down_round-suc}
use Rattle.row_recursions.proofs.RowSizes.{box_gscale_within, down_round_within}
use Rattle.row_recursions.specs.Cells.{sign, quadrant_of}
use Rattle.row_recursions.proofs.Turns.{unit_quadrant}
use Rattle.local_shift.specs.Rounds.{next_row}

-- ---- sizes
-- q times a box
pub turned_within : (q : Quadrant) (b : BoxEnds) → BoxEndsWithin (2 ^ 91) b → BoxEndsWithin (2 ^ 92) (gscale_box b (quadrant_of q))
turned_within q b w = box_wider (2 ^ 91 * 1 + 2 ^ 91 * 1) (2 ^ 92) _ (omega arith) (box_gscale_within (2 ^ 91) 1 1 b (quadrant_of q) (unit_quadrant q).re (unit_quadrant q).im w)

pub first_fits : (q : Quadrant) (t b : BoxEnds) → BoxEndsWithin (2 ^ 91) t → BoxEndsWithin (2 ^ 91) b → BoxEndsWithin (2 ^ 126) (add_box t (quot_box (gscale_box b (quadrant_of q)) (pos 4)))
first_fits q t b v w = box_wider (2 ^ 91 + 2 ^ 92) (2 ^ 126) _ (omega arith)
    (add_box_within (2 ^ 91) (2 ^ 92) t _ v (quot_box_within (2 ^ 92) (gscale_box b (quadrant_of q)) (pos 4) (omega (arith, ints)) (turned_within q b w)))

pub next_fits : (q : Quadrant) (b l : BoxEnds) → BoxEndsWithin (2 ^ 91) b → BoxEndsWithin (2 ^ 91) l → BoxEndsWithin (2 ^ 126) (add_box (gscale_box b (quadrant_of q)) (scale_box l (pos 2)))
next_fits q b l v w = box_wider (2 ^ 92 + 2 ^ 91 * 2) (2 ^ 126) _ (omega arith)
    (add_box_within (2 ^ 92) (2 ^ 91 * 2) _ _ (turned_within q b v) (scale_box_within 2 (2 ^ 91) (pos 2) l (record { above = omega (arith, ints); below = omega (arith, ints) }) w))

-- after n rounds
pub rounds_within : (P : ℕ) (q : Quadrant) (m : ℕ → BoxEnds) → RowWithin P (2 ^ 90) m → (n k : ℕ) → n ≤ P → BoxEndsWithin (2 ^ 91) (down_round P m (quadrant_of q) n k)
rounds_within P q m bounded n k h = box_wider (2 * 2 ^ 90) (2 ^ 91) _ (omega arith) (down_round_within P (2 ^ 90) (quadrant_of q) m (unit_quadrant q) bounded n k h)

-- ---- nothing
nothing_turned : (x y : Bool) → quot_box (add_box (gscale_box zero_box (gaussian (sign x) (sign y))) (scale_box zero_box (pos 2))) (pos 4) ≡ zero_box
nothing_turned true true = refl
nothing_turned true false = refl
nothing_turned false true = refl
nothing_turned false false = refl

-- n rounds have n coefficients
pub rounds_above : (P : ℕ) (q : Quadrant) (m : ℕ → BoxEnds) (n k : ℕ) → n ≤ k → down_round P m (quadrant_of q) n k ≡ zero_box
rounds_above P q m zero k h = down_round-zero P m (quadrant_of q) k
rounds_above P q m (suc n) zero h = absurd (omega arith)
rounds_above P q m (suc n) (suc k) h =
    down_round-suc P m (quadrant_of q) n k
    ∙ ap₂ (λ a b. quot_box (add_box (gscale_box a (quadrant_of q)) (scale_box b (pos 2))) (pos 4)) (rounds_above P q m n (suc k) (omega arith)) (rounds_above P q m n k (omega arith))
    ∙ nothing_turned q.right q.top

-- ---- one round
pub next_row-at : (c : BoxEnds) (q : Gaussian) (m : ℕ → BoxEnds) (k : ℕ) → 1 ≤ k → next_row c q m k ≡ quot_box (add_box (gscale_box (m k) q) (scale_box (m (k - 1)) (pos 2))) (pos 4)
next_row-at c q m zero h = absurd (omega arith)
next_row-at c q m (suc k) h = ap (λ j. quot_box (add_box (gscale_box (m (suc k)) q) (scale_box (m j) (pos 2))) (pos 4)) {x = k} {y = suc k - 1} (omega arith)

next_round : (P : ℕ) (q : Gaussian) (m row : ℕ → BoxEnds) (c : BoxEnds) (n k : ℕ) → n < P → c ≡ m (P - 1 - n) → ((j : ℕ) → j ≤ k → row j ≡ down_round P m q n j)
    → next_row c q row k ≡ down_round P m q (suc n) k
next_round P q m row c n zero h e rows =
    ap₂ (λ t b. add_box t (quot_box (gscale_box b q) (pos 4))) (e ∙ ap m {x = P - 1 - n} {y = P - suc n} (omega arith)) (rows zero (omega arith))
    ∙ sym (down_round-first P m q n)
next_round P q m row c n (suc k) h e rows =
    ap₂ (λ a b. quot_box (add_box (gscale_box a q) (scale_box b (pos 2))) (pos 4)) (rows (suc k) (omega arith)) (rows k (omega arith))
    ∙ sym (down_round-suc P m q n k)

-- the whole row after it, of which the boxes above n are as before
pub round_next : (P : ℕ) (q : Quadrant) (m row new : ℕ → BoxEnds) (c : BoxEnds) (n : ℕ) → n < P → c ≡ m (P - 1 - n) → ((j : ℕ) → j < P → row j ≡ down_round P m (quadrant_of q) n j)
    → ((k : ℕ) → k ≤ n → new k ≡ next_row c (quadrant_of q) row k) → ((k : ℕ) → n < k → new k ≡ row k)
    → (k : ℕ) → k < P → new k ≡ down_round P m (quadrant_of q) (n + 1) k
round_next P q m row new c n h e rows next others k l =
    ⊎_elim
    (λ above. others k above ∙ rows k l ∙ rounds_above P q m n k (omega arith) ∙ sym (rounds_above P q m (suc n) k (omega arith)))
    (λ below. next k below ∙ next_round P (quadrant_of q) m row c n k h e (λ j i. rows j (omega arith)))
    (cases_lt n k)
    ∙ ap (λ r. down_round P m (quadrant_of q) r k) {x = suc n} {y = n + 1} (omega arith)
