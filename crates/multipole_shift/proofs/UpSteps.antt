-- The rounds of the shift up in place: of the row m of P boxes that are at most 2^80 in size, with the quadrant q.
use Rattle.std.proofs.Common.{◌≡◌, ◌≢◌, sym, ap, ap₂, ◌∙◌, subst, ⊎_elim, ℕ, ◌+◌, ◌-◌, ◌^◌, ◌≤◌, ◌<◌, List, length, slice_set, below_more, arith, pos}
use Rattle.std.proofs.lemmas.Bool.{cases_eq}
use Rattle.exact_math.specs.Ends.{BoxEnds, BoxEndsWithin, add_box, scale_box, gscale_box, quot_box}
use Rattle.exact_math.specs.Gaussian.{Gaussian}
use Rattle.complex_box.specs.Box.{box_ends}
use Rattle.complex_box.specs.declared.CBox.{CBox}
use Rattle.complex_box.proofs.Sizes.{box_wider, add_box_within}
use Rattle.exact_math.specs.Within.{GaussianWithin}
use Rattle.row_recursions.specs.Rows.{row_of, up_round, shifted_up}
use Rattle.row_recursions.specs.Sizes.{RowWithin}
use Rattle.row_recursions.proofs.Equations.{up_round-zero, up_round-next, shifted_up-is}
use Rattle.row_recursions.proofs.RowSizes.{up_round_within}
use Rattle.row_recursions.proofs.RowWrites.{row_set-same, row_set-other}

-- before the round r: below r the coefficients are done, and the coefficient i of the round stands at r + i
pub record BeforeRound (P : ℕ) (m : ℕ → BoxEnds) (q : Gaussian) (r : ℕ) (row : List CBox) : Type 0 where
  pub done : (k : ℕ) → k < r → row_of row k ≡ shifted_up m q k
  pub rest : (j : ℕ) → r ≤ j → j < P → row_of row j ≡ up_round m q r (j - r)

-- within the round r, when the last i places hold the next round
pub record WithinRound (P : ℕ) (m : ℕ → BoxEnds) (q : Gaussian) (r i : ℕ) (row : List CBox) : Type 0 where
  pub done : (k : ℕ) → k < r → row_of row k ≡ shifted_up m q k
  pub low : (j : ℕ) → r ≤ j → j + i < P → row_of row j ≡ up_round m q r (j - r)
  pub high : (j : ℕ) → P ≤ j + i → j < P → row_of row j ≡ up_round m q (r + 1) (j - (r + 1))

-- one entry of the next round
abbrev pub up_step : BoxEnds → BoxEnds → Gaussian → BoxEnds
up_step next here q = quot_box (add_box (scale_box next (pos 2)) (gscale_box here q)) (pos 4)

module _ (P : ℕ) (m : ℕ → BoxEnds) (q : Gaussian) where
  pub start : (row : List CBox) → ((j : ℕ) → row_of row j ≡ m j) → BeforeRound P m q 0 row
  start row h = record {
    done = λ k l. absurd (omega arith);
    rest = λ j k l. h j ∙ sym (up_round-zero m q j) ∙ ap (up_round m q 0) {x = j} {y = j - 0} (omega arith);
  }

  pub start_round : (r : ℕ) (row : List CBox) → BeforeRound P m q r row → WithinRound P m q r 0 row
  start_round r row b = record { done = b.done; low = λ j k l. b.rest j k (omega arith); high = λ j k l. absurd (omega arith) }

  pub next_entry : (r i : ℕ) (row : List CBox) (v : CBox) → length row ≡ P → i + 1 + r < P → box_ends v ≡ up_step (row_of row (P - 1 - i)) (row_of row (P - 1 - i - 1)) q
      → WithinRound P m q r i row → WithinRound P m q r (i + 1) (slice_set row (P - 1 - i) v)
  next_entry r i row v len inside value w = record {
    done = λ k h. row_set-other row (P - 1 - i) k v (omega arith) ∙ w.done k h;
    low = λ j k l. row_set-other row (P - 1 - i) j v (omega arith) ∙ w.low j k (omega arith);
    high = λ j k l. ⊎_elim
        (λ (e : j ≡ P - 1 - i). subst (λ n. row_of (slice_set row (P - 1 - i) v) n ≡ up_round m q (r + 1) (n - (r + 1))) (sym e) written)
        (λ (e : j ≢ P - 1 - i). row_set-other row (P - 1 - i) j v e ∙ w.high j (omega arith) l)
        (cases_eq j (P - 1 - i));
  }
    where
      written : row_of (slice_set row (P - 1 - i) v) (P - 1 - i) ≡ up_round m q (r + 1) (P - 1 - i - (r + 1))
      written =
          row_set-same row (P - 1 - i) v (omega arith) ∙ value
          ∙ ap₂ (λ a b. up_step a b q)
          (w.low (P - 1 - i) (omega arith) (omega arith) ∙ ap (up_round m q r) {x = P - 1 - i - r} {y = P - 1 - i - (r + 1) + 1} (omega arith))
          (w.low (P - 1 - i - 1) (omega arith) (omega arith) ∙ ap (up_round m q r) {x = P - 1 - i - 1 - r} {y = P - 1 - i - (r + 1)} (omega arith))
          ∙ sym (up_round-next m q r (P - 1 - i - (r + 1)))

  pub next_round : (r i : ℕ) (row : List CBox) → r < P → i + 1 + r ≡ P → WithinRound P m q r i row → BeforeRound P m q (r + 1) row
  next_round r i row h e w = record {
    done = below_more (λ k. row_of row k ≡ shifted_up m q k) r w.done
        (w.low r (omega arith) (omega arith) ∙ ap (up_round m q r) {x = r - r} {y = 0} (omega arith) ∙ sym (shifted_up-is m q r));
    rest = λ j k l. w.high j (omega arith) l;
  }

  module _ (unit : GaussianWithin 1 q) (bounded : RowWithin P (2 ^ 80) m) where
    -- what a round takes is of the row's size
    pub entry_within : (r i j : ℕ) (row : List CBox) (b : CBox) → box_ends b ≡ row_of row j → r ≤ j → j + i < P → WithinRound P m q r i row → BoxEndsWithin (2 ^ 80) (box_ends b)
    entry_within r i j row b e h l w = subst (BoxEndsWithin (2 ^ 80)) (sym (e ∙ w.low j h l)) (up_round_within P (2 ^ 80) q m unit bounded r (j - r) (omega arith))

-- the sum of a step
pub step_fits : (a b : BoxEnds) → BoxEndsWithin (2 ^ 82) a → BoxEndsWithin (2 ^ 82) b → BoxEndsWithin (2 ^ 126) (add_box a b)
step_fits a b v w = box_wider (2 ^ 82 + 2 ^ 82) (2 ^ 126) _ (omega arith) (add_box_within (2 ^ 82) (2 ^ 82) a b v w)
