-- The steps of the recursions, for loops: a proof in code cites these and unfolds no definition.
use Rattle.std.proofs.Common.{◌≡◌, refl, ℕ, zero, suc, ◌<◌, ◌+◌, ◌-◌, ◌*◌, ◌^◌, pos, ap, ap₂, ◌∙◌, arith}
use Rattle.exact_math.specs.Ends.{BoxEnds, zero_box, add_box, scale_box, times_box, gscale_box, quot_box, gquot_box}
use Rattle.exact_math.specs.Gaussian.{Gaussian}
use Rattle.row_recursions.specs.Rows.{ratio_box, sum_boxes, up_round, shifted_up, converted, down_round, shifted_down, local_round, local_value, multipole_round, multipole_value}

-- sums of equal boxes
pub sum_boxes-same : (n : ℕ) (f g : ℕ → BoxEnds) → ((k : ℕ) → k < n → f k ≡ g k) → sum_boxes n f ≡ sum_boxes n g
sum_boxes-same zero f g h = refl
sum_boxes-same (suc n) f g h = ap₂ add_box (sum_boxes-same n f g (λ k l. h k (omega (arith, l)))) (h n (omega arith))

pub up_round-zero : (m : ℕ → BoxEnds) (q : Gaussian) (i : ℕ) → up_round m q 0 i ≡ m i
unfolding up_round
up_round-zero m q i = refl

pub up_round-next : (m : ℕ → BoxEnds) (q : Gaussian) (r i : ℕ) → up_round m q (r + 1) i ≡ quot_box (add_box (scale_box (up_round m q r (i + 1)) (pos 2)) (gscale_box (up_round m q r i) q)) (pos 4)
unfolding up_round
up_round-next m q r i =
    ap (λ n. up_round m q n i) {x = r + 1} {y = suc r} (omega arith)
    ∙ ap (λ n. quot_box (add_box (scale_box (up_round m q r n) (pos 2)) (gscale_box (up_round m q r i) q)) (pos 4)) {x = suc i} {y = i + 1} (omega arith)

pub shifted_up-is : (m : ℕ → BoxEnds) (q : Gaussian) (k : ℕ) → shifted_up m q k ≡ up_round m q k 0
unfolding shifted_up
shifted_up-is m q k = refl

pub converted-is : (P : ℕ) (kernel : ℕ → ℕ → BoxEnds) (m : ℕ → BoxEnds) (l : ℕ) → converted P kernel m l ≡ quot_box (sum_boxes P (λ k. times_box (kernel k l) (m k))) (pos (2 ^ 40))
unfolding converted
converted-is P kernel m l = refl

pub down_round-zero : (P : ℕ) (m : ℕ → BoxEnds) (q : Gaussian) (k : ℕ) → down_round P m q 0 k ≡ zero_box
unfolding down_round
down_round-zero P m q k = refl

pub down_round-first : (P : ℕ) (m : ℕ → BoxEnds) (q : Gaussian) (n : ℕ) → down_round P m q (suc n) 0 ≡ add_box (m (P - suc n)) (quot_box (gscale_box (down_round P m q n 0) q) (pos 4))
unfolding down_round
down_round-first P m q n = refl

pub down_round-suc : (P : ℕ) (m : ℕ → BoxEnds) (q : Gaussian) (n k : ℕ)
    → down_round P m q (suc n) (suc k) ≡ quot_box (add_box (gscale_box (down_round P m q n (suc k)) q) (scale_box (down_round P m q n k) (pos 2))) (pos 4)
unfolding down_round
down_round-suc P m q n k = refl

pub shifted_down-is : (P : ℕ) (m : ℕ → BoxEnds) (q : Gaussian) (k : ℕ) → shifted_down P m q k ≡ quot_box (down_round P m q P k) (pos 2)
unfolding shifted_down
shifted_down-is P m q k = refl

pub local_round-zero : (P : ℕ) (m : ℕ → BoxEnds) (s : ℕ) (o : Gaussian) → local_round P m s o 0 ≡ zero_box
unfolding local_round
local_round-zero P m s o = refl

pub local_round-next : (P : ℕ) (m : ℕ → BoxEnds) (s : ℕ) (o : Gaussian) (n : ℕ) → local_round P m s o (n + 1) ≡ add_box (gquot_box (local_round P m s o n) o (pos (2 * s))) (m (P - 1 - n))
unfolding local_round
local_round-next P m s o n =
    ap (local_round P m s o) {x = n + 1} {y = suc n} (omega arith)
    ∙ ap (λ i. add_box (gquot_box (local_round P m s o n) o (pos (2 * s))) (m i)) {x = P - suc n} {y = P - 1 - n} (omega arith)

pub local_value-is : (P : ℕ) (m : ℕ → BoxEnds) (s : ℕ) (o : Gaussian) → local_value P m s o ≡ quot_box (local_round P m s o P) (pos s)
unfolding local_value
local_value-is P m s o = refl

pub multipole_round-zero : (P : ℕ) (m : ℕ → BoxEnds) (s : ℕ) (zeta : Gaussian) → multipole_round P m s zeta 0 ≡ zero_box
unfolding multipole_round
multipole_round-zero P m s zeta = refl

pub multipole_round-next : (P : ℕ) (m : ℕ → BoxEnds) (s : ℕ) (zeta : Gaussian) (n : ℕ) → multipole_round P m s zeta (n + 1) ≡ ratio_box (2 * s) zeta (add_box (multipole_round P m s zeta n) (m (P - 1 - n)))
unfolding multipole_round
multipole_round-next P m s zeta n =
    ap (multipole_round P m s zeta) {x = n + 1} {y = suc n} (omega arith)
    ∙ ap (λ i. ratio_box (2 * s) zeta (add_box (multipole_round P m s zeta n) (m i))) {x = P - suc n} {y = P - 1 - n} (omega arith)

pub multipole_value-is : (P : ℕ) (m : ℕ → BoxEnds) (s : ℕ) (zeta : Gaussian) → multipole_value P m s zeta ≡ quot_box (multipole_round P m s zeta P) (pos s)
unfolding multipole_value
multipole_value-is P m s zeta = refl
