-- Sizes of whole numbers under sums, products and rounded quotients.
use Rattle.std.proofs.Common.{◌≡◌, ℕ, suc, ◌+◌, ◌*◌, ◌≤◌, arith, ℤ, pos, negsuc, neg_ℤ, ◌+ℤ◌, ◌-ℤ◌, ◌*ℤ◌, ◌≤ℤ◌}
use Rattle.std.proofs.Math.Nat.{mul-le-mul}
use Rattle.std.specs.Prelude.{unsigned_abs}
use Rattle.std.proofs.lemmas.Int.{ints}
use Rattle.exact_math.specs.Rounding.{floor_div, ceil_div}
use Rattle.exact_math.specs.Within.{Within}
use Rattle.exact_math.proofs.Ring.{int_ring}
use Rattle.exact_math.proofs.RingTactic.{int_quotes, ring2}
use Rattle.exact_math.proofs.Integers.{*-cancel_≤}
use Rattle.exact_math.proofs.Enclosures.{floor_div_le}
use Rattle.exact_math.proofs.RoundedQuotients.{floor_is_greatest}

pub unsigned_abs-within : (m : ℕ) (z : ℤ) → Within m z → unsigned_abs z ≤ m
unsigned_abs-within m (pos n) h = let l = h.below in omega (arith, ints)
unsigned_abs-within m (negsuc n) h = let l = h.above in omega (arith, ints)

pub within-size : (z : ℤ) → Within (unsigned_abs z) z
within-size (pos n) = record { above = omega (arith, ints); below = omega (arith, ints) }
within-size (negsuc n) = record { above = omega (arith, ints); below = omega (arith, ints) }

pub within-weaker : {m n : ℕ} {x : ℤ} → m ≤ n → Within m x → Within n x
within-weaker h w = record { above = omega (arith, ints); below = omega (arith, ints) }

pub within-add : {m n : ℕ} {x y : ℤ} → Within m x → Within n y → Within (m + n) (x +ℤ y)
within-add v w = record { above = omega (arith, ints); below = omega (arith, ints) }

pub within-sub : {m n : ℕ} {x y : ℤ} → Within m x → Within n y → Within (m + n) (x -ℤ y)
within-sub v w = record { above = omega (arith, ints); below = omega (arith, ints) }

pub within-neg : {n : ℕ} {x : ℤ} → Within n x → Within n (neg_ℤ x)
within-neg w = record { above = omega (arith, ints); below = omega (arith, ints) }

pub within-mul : (m n : ℕ) (x y : ℤ) → Within m x → Within n y → Within (m * n) (x *ℤ y)
within-mul m n (pos a) (pos b) v w =
    let l : a * b ≤ m * n = mul-le-mul (omega (arith, ints)) (omega (arith, ints)) in
    record { above = omega (arith, ints); below = omega (arith, ints) }
within-mul m n (pos a) (negsuc b) v w =
    let l : a * suc b ≤ m * n = mul-le-mul (omega (arith, ints)) (omega (arith, ints)) in
    record { above = omega (arith, ints); below = omega (arith, ints) }
within-mul m n (negsuc a) (pos b) v w =
    let l : suc a * b ≤ m * n = mul-le-mul (omega (arith, ints)) (omega (arith, ints)) in
    record { above = omega (arith, ints); below = omega (arith, ints) }
within-mul m n (negsuc a) (negsuc b) v w =
    let l : suc a * suc b ≤ m * n = mul-le-mul (omega (arith, ints)) (omega (arith, ints)) in
    record { above = omega (arith, ints); below = omega (arith, ints) }

-- what is at most m divisors in size has a quotient of at most m, rounded down or up
pub within-floor : (m : ℕ) (z n : ℤ) → pos 1 ≤ℤ n → (neg_ℤ (pos m) *ℤ n) ≤ℤ z → z ≤ℤ (pos m *ℤ n) → Within m (floor_div z n)
within-floor m z n h v w = record {
  above = (floor_is_greatest (neg_ℤ (pos m)) n z h).0 v;
  below = let l = floor_div_le z n h in *-cancel_≤ n (floor_div z n) (pos m) (omega (arith, ints)) (omega (arith, ints));
}

pub within-ceil : (m : ℕ) (z n : ℤ) → pos 1 ≤ℤ n → (neg_ℤ (pos m) *ℤ n) ≤ℤ z → z ≤ℤ (pos m *ℤ n) → Within m (ceil_div z n)
within-ceil m z n h v w = within-neg (within-floor m (neg_ℤ z) n h (turned_below m z n w) (turned_above m z n v))
  where
    turned_below : (m : ℕ) (z n : ℤ) → z ≤ℤ (pos m *ℤ n) → (neg_ℤ (pos m) *ℤ n) ≤ℤ neg_ℤ z
    turned_below m z n w = let e : neg_ℤ (pos m) *ℤ n ≡ neg_ℤ (pos m *ℤ n) = ring2 int_ring (pos m) n (λ m n. search int_quotes depth 9) tt in omega (arith, ints)

    turned_above : (m : ℕ) (z n : ℤ) → (neg_ℤ (pos m) *ℤ n) ≤ℤ z → neg_ℤ z ≤ℤ (pos m *ℤ n)
    turned_above m z n v = let e : neg_ℤ (pos m) *ℤ n ≡ neg_ℤ (pos m *ℤ n) = ring2 int_ring (pos m) n (λ m n. search int_quotes depth 9) tt in omega (arith, ints)
