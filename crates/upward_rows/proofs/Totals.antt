-- Sums of rows, and rows that agree.
use Rattle.std.proofs.Common.{ℕ, ◌≡◌, ◌+◌, ◌<◌, zero, suc, List, [], ◌∷◌, ◌++◌, ap₂, arith}
use Rattle.std.specs.Prelude.{pos}
use Rattle.std.proofs.lemmas.List.Sums.{fold-append}
use Rattle.exact_math.specs.Ends.{BoxEnds, zero_box, add_box, scale_box, gscale_box, quot_box}
use Rattle.exact_math.specs.Gaussian.{Gaussian}
use Rattle.row_recursions.specs.Rows.{up_round, shifted_up}
use Rattle.soundness.specs.Computed.{total_row}

-- one more
pub total_row-more : {A : Type 0} (f : A → ℕ → BoxEnds) (xs : List A) (x : A) (k : ℕ) → total_row f (xs ++ x ∷ []) k ≡ add_box (total_row f xs k) (f x k)
total_row-more f xs x k = fold-append (λ b y. add_box b (f y k)) zero_box xs (x ∷ [])

-- ---- the first P boxes of a shifted row come from those of the row
round_same : (P : ℕ) (m l : ℕ → BoxEnds) (q : Gaussian) → ((i : ℕ) → i < P → m i ≡ l i) → (r i : ℕ) → r + i < P → up_round m q r i ≡ up_round l q r i
unfolding up_round
round_same P m l q h zero i lt = h i (omega arith)
round_same P m l q h (suc r) i lt =
    ap₂ (λ a b. quot_box (add_box (scale_box a (pos 2)) (gscale_box b q)) (pos 4)) (round_same P m l q h r (suc i) (omega arith)) (round_same P m l q h r i (omega arith))

pub shifted_same : (P : ℕ) (m l : ℕ → BoxEnds) (q : Gaussian) → ((i : ℕ) → i < P → m i ≡ l i) → (k : ℕ) → k < P → shifted_up m q k ≡ shifted_up l q k
unfolding shifted_up
shifted_same P m l q h k lt = round_same P m l q h k 0 (omega arith)
