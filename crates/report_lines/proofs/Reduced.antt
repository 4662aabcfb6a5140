-- 2^12 divides both 10^12 and 2^40.
use Rattle.std.proofs.Common.{◌≡◌, ◌^◌, ℤ, pos, neg_ℤ, ◌+ℤ◌, ◌*ℤ◌, ◌≤ℤ◌, ◌<ℤ◌, arith, ap}
use borrow.Author.Differences.{ints}
use Rattle.exact_math.specs.Rounding.{floor_div, ceil_div}
use Rattle.exact_math.proofs.Enclosures.{floor_div_le}
use Rattle.exact_math.proofs.RoundedQuotients.{floor_near}

-- of any two numbers of which one is 2^12 times the other
reduced : (y z : ℤ) → z ≡ pos (2 ^ 12) *ℤ y → floor_div y (pos (2 ^ 28)) ≡ floor_div z (pos (2 ^ 40))
reduced y z e =
    let a = floor_div_le y (pos (2 ^ 28)) (omega (arith, ints)) in
    let b = floor_near y (pos (2 ^ 28)) (omega (arith, ints)) in
    let c = floor_div_le z (pos (2 ^ 40)) (omega (arith, ints)) in
    let d = floor_near z (pos (2 ^ 40)) (omega (arith, ints)) in
    whole y z _ _ e a b c d
  where
    whole : (y z a b : ℤ) → z ≡ pos (2 ^ 12) *ℤ y → (pos (2 ^ 28) *ℤ a) ≤ℤ y → y <ℤ (pos (2 ^ 28) *ℤ a +ℤ pos (2 ^ 28)) → (pos (2 ^ 40) *ℤ b) ≤ℤ z → z <ℤ (pos (2 ^ 40) *ℤ b +ℤ pos (2 ^ 40)) → a ≡ b
    whole y z a b e h k l m = omega (arith, ints)

pub floor_reduced : (n : ℤ) → floor_div (n *ℤ pos (5 ^ 12)) (pos (2 ^ 28)) ≡ floor_div (pos (10 ^ 12) *ℤ n) (pos (2 ^ 40))
floor_reduced n = reduced (n *ℤ pos (5 ^ 12)) (pos (10 ^ 12) *ℤ n) (omega (arith, ints))

pub ceil_reduced : (n : ℤ) → ceil_div (n *ℤ pos (5 ^ 12)) (pos (2 ^ 28)) ≡ ceil_div (pos (10 ^ 12) *ℤ n) (pos (2 ^ 40))
ceil_reduced n = ap neg_ℤ (reduced (neg_ℤ (n *ℤ pos (5 ^ 12))) (neg_ℤ (pos (10 ^ 12) *ℤ n)) (omega (arith, ints)))
