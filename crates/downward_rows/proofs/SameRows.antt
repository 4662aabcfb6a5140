-- What is made of a row reads its first P boxes alone.
use Rattle.std.proofs.Common.{ℕ, zero, suc, ◌-◌, ◌≤◌, ◌^◌, ◌≡◌, refl, ap, ap₂, subst, sym, arith, pos}
use Rattle.exact_math.specs.Ends.{BoxEnds, BoxEndsWithin, add_box, scale_box, times_box, gscale_box, quot_box}
use Rattle.exact_math.specs.Gaussian.{Gaussian}
use Rattle.row_recursions.proofs.Equations.{sum_boxes-same}
use Rattle.row_recursions.specs.Rows.{converted, down_round, shifted_down, AreSameRows}
use Rattle.row_recursions.specs.Sizes.{RowWithin}
use Rattle.row_recursions.proofs.Equations.{sum_boxes-same}

pub converted_same : (P : ℕ) (kernel : ℕ → ℕ → BoxEnds) (m n : ℕ → BoxEnds) → AreSameRows P m n → (l : ℕ) → converted P kernel m l ≡ converted P kernel n l
unfolding converted
converted_same P kernel m n h l = ap (λ b. quot_box b (pos (2 ^ 40))) (sum_boxes-same P (λ k. times_box (kernel k l) (m k)) (λ k. times_box (kernel k l) (n k)) (λ k i. ap (times_box (kernel k l)) (h k i)))

down_same : (P : ℕ) (m n : ℕ → BoxEnds) (q : Gaussian) → AreSameRows P m n → (r k : ℕ) → r ≤ P → down_round P m q r k ≡ down_round P n q r k
unfolding down_round
down_same P m n q h zero k le = refl
down_same P m n q h (suc r) zero le = ap₂ (λ a b. add_box a (quot_box (gscale_box b q) (pos 4))) (h (P - suc r) (omega arith)) (down_same P m n q h r zero (omega arith))
down_same P m n q h (suc r) (suc k) le =
    ap₂ (λ a b. quot_box (add_box (gscale_box a q) (scale_box b (pos 2))) (pos 4)) (down_same P m n q h r (suc k) (omega arith)) (down_same P m n q h r k (omega arith))

pub shifted_down_same : (P : ℕ) (m n : ℕ → BoxEnds) (q : Gaussian) → AreSameRows P m n → (k : ℕ) → shifted_down P m q k ≡ shifted_down P n q k
unfolding shifted_down
shifted_down_same P m n q h k = ap (λ b. quot_box b (pos 2)) (down_same P m n q h P k (omega arith))

pub within_same : (P size : ℕ) (m n : ℕ → BoxEnds) → AreSameRows P m n → RowWithin P size n → RowWithin P size m
within_same P size m n h w k l = subst (BoxEndsWithin size) (sym (h k l)) (w k l)
