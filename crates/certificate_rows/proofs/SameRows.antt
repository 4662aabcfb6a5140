-- What is made of a row reads its first P boxes alone.
use Rattle.std.proofs.Common.{ℕ, zero, suc, ◌+◌, ◌-◌, ◌≤◌, ◌<◌, ◌^◌, ◌≡◌, List, length, refl, ap, ap₂, subst, sym, ◌∙◌, arith, pos}
use Rattle.std.specs.Prelude.{All}
use Rattle.exact_math.specs.Ends.{BoxEnds, BoxEndsWithin, add_box, scale_box, times_box, gscale_box, quot_box}
use Rattle.exact_math.specs.Gaussian.{Gaussian}
use Rattle.complex_box.proofs.Sizes.{zero_within}
use Rattle.complex_box.proofs.ZeroBoxes.{zero_left}
use Rattle.complex_box.specs.Rows.{IsZero}
use Rattle.complex_box.specs.declared.CBox.{CBox}
use Rattle.local_shift.proofs.Sums.{nothing_at}
use Rattle.row_recursions.proofs.Equations.{sum_boxes-same}
use Rattle.row_recursions.specs.Rows.{row_of, up_round, shifted_up, converted, down_round, shifted_down, AreSameRows, RowsAdd}
use Rattle.row_recursions.specs.Sizes.{RowWithin}

round_same : (P : ℕ) (m n : ℕ → BoxEnds) (q : Gaussian) → AreSameRows P m n → (r i : ℕ) → r + i < P → up_round m q r i ≡ up_round n q r i
unfolding up_round
round_same P m n q h zero i lt = h i (omega arith)
round_same P m n q h (suc r) i lt =
    ap₂ (λ a b. quot_box (add_box (scale_box a (pos 2)) (gscale_box b q)) (pos 4)) (round_same P m n q h r (suc i) (omega arith)) (round_same P m n q h r i (omega arith))

pub shifted_up_same : (P : ℕ) (m n : ℕ → BoxEnds) (q : Gaussian) → AreSameRows P m n → (k : ℕ) → k < P → shifted_up m q k ≡ shifted_up n q k
unfolding shifted_up
shifted_up_same P m n q h k lt = round_same P m n q h k 0 (omega arith)

pub converted_same : (P : ℕ) (kernel : ℕ → ℕ → BoxEnds) (m n : ℕ → BoxEnds) → AreSameRows P m n → (l : ℕ) → converted P kernel m l ≡ converted P kernel n l
unfolding converted
converted_same P kernel m n h l = ap (λ b. quot_box b (pos (2 ^ 40))) (sum_boxes-same P (λ k. times_box (kernel k l) (m k)) (λ k. times_box (kernel k l) (n k)) (λ k i. ap (times_box (kernel k l)) (h k i)))

down_same : (P : ℕ) (m n : ℕ → BoxEnds) (q : Gaussian) → AreSameRows P m n → (r k : ℕ) → r ≤ P → down_round P m q r k ≡ down_round P n q r k
unfolding down_round
down_same P m n q h zero k le = refl
down_same P m n q h (suc r) zero le = ap₂ (λ a b. add_box a (quot_box (gscale_box b q) (pos 4))) (h (P - suc r) (omega arith)) (down_same P m n q h r zero (omega arith))
down_same P m n q h (suc r) (suc k) le =
    ap₂ (λ a b. quot_box (add_box (gscale_box a q) (scale_box b (pos 2))) (pos 4)) (down_same P m n q h r (suc k) (omega arith)) (down_same P m n q h r k (omega arith))

pub shifted_down_same : (P : ℕ) (m n : ℕ → BoxEnds) (q : Gaussian) → AreSameRows P m n → (k : ℕ) → shifted_down P m q k ≡ shifted_down P n q k
unfolding shifted_down
shifted_down_same P m n q h k = ap (λ b. quot_box b (pos 2)) (down_same P m n q h P k (omega arith))

-- a row of zeros
pub zeros_within : (P n : ℕ) (xs : List CBox) → length xs ≡ P → All IsZero xs → RowWithin P n (row_of xs)
zeros_within P n xs e z k h = subst (BoxEndsWithin n) (sym (nothing_at P xs e z k h)) (zero_within n)

-- what is added to zeros
pub from_zeros : (P : ℕ) (xs : List CBox) (part new : ℕ → BoxEnds) → length xs ≡ P → All IsZero xs → RowsAdd P (row_of xs) part new → AreSameRows P part new
from_zeros P xs part new e z adds k h = sym (adds k h ∙ ap (λ b. add_box b (part k)) (nothing_at P xs e z k h) ∙ zero_left (part k))
