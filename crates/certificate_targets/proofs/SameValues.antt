-- Rows that agree up to their length have one value.
use Rattle.std.proofs.Common.{ℕ, zero, suc, ◌≡◌, ◌-◌, ◌*◌, ◌≤◌, pos, ap, ap₂, refl, arith}
use Rattle.exact_math.specs.Ends.{BoxEnds, add_box, quot_box, gquot_box}
use Rattle.exact_math.specs.Gaussian.{Gaussian}
use Rattle.row_recursions.specs.Rows.{ratio_box, local_round, local_value, multipole_round, multipole_value, AreSameRows}

local_round-same : (P : ℕ) (m n : ℕ → BoxEnds) (s : ℕ) (o : Gaussian) → AreSameRows P m n → (i : ℕ) → i ≤ P → local_round P m s o i ≡ local_round P n s o i
unfolding local_round
local_round-same P m n s o h zero le = refl
local_round-same P m n s o h (suc i) le = ap₂ add_box (ap (λ b. gquot_box b o (pos (2 * s))) (local_round-same P m n s o h i (omega arith))) (h (P - suc i) (omega arith))

pub local_value-same : (P : ℕ) (m n : ℕ → BoxEnds) (s : ℕ) (o : Gaussian) → AreSameRows P m n → local_value P m s o ≡ local_value P n s o
unfolding local_value
local_value-same P m n s o h = ap (λ b. quot_box b (pos s)) (local_round-same P m n s o h P (omega arith))

multipole_round-same : (P : ℕ) (m n : ℕ → BoxEnds) (s : ℕ) (z : Gaussian) → AreSameRows P m n → (i : ℕ) → i ≤ P → multipole_round P m s z i ≡ multipole_round P n s z i
unfolding multipole_round
multipole_round-same P m n s z h zero le = refl
multipole_round-same P m n s z h (suc i) le = ap (ratio_box (2 * s) z) (ap₂ add_box (multipole_round-same P m n s z h i (omega arith)) (h (P - suc i) (omega arith)))

pub multipole_value-same : (P : ℕ) (m n : ℕ → BoxEnds) (s : ℕ) (z : Gaussian) → AreSameRows P m n → multipole_value P m s z ≡ multipole_value P n s z
unfolding multipole_value
multipole_value-same P m n s z h = ap (λ b. quot_box b (pos s)) (multipole_round-same P m n s z h P (omega arith))
