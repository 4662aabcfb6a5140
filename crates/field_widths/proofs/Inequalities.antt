-- From the sum of all parts to the bound: the order is at least 4 and the grid has at most 20 bits.
use Rattle.std.proofs.Common.{ℕ, ◌+◌, ◌*◌, ◌^◌, ◌≡◌, ◌≤◌, ap, ◌∙◌, pow-add, arith}
use Rattle.std.proofs.Math.Nat.{mul-le-mul_left, mul-le-mul_right, pow-suc, pow-zero}

-- ---- products
-- 4 P^3 + 4 G P^2 + 3 P is at most 30 P^4
of_each : (P G : ℕ) → 4 ≤ P → G ≤ 20 → 4 * (P * (P * P)) + 4 * G * (P * P) + 3 * P ≤ 30 * (P * P * (P * P))
of_each P G least few =
    let q = mul-le-mul_right (P * P) few in
    let a = mul-le-mul_right P least in
    let b = mul-le-mul_right (P * P) least in
    let c = mul-le-mul_right (P * (P * P)) least in
    omega (arith, q, a, b, c)

-- 2 G P^2 + (2 G + 2) P is at most 64 P^2
of_levels : (P G : ℕ) → 4 ≤ P → G ≤ 20 → 2 * G * (P * P) + (2 * G + 2) * P ≤ 64 * (P * P)
of_levels P G least few =
    let q = mul-le-mul_right (P * P) few in
    let p = mul-le-mul_right P few in
    let a = mul-le-mul_right P least in
    omega (arith, q, p, a)

-- ---- powers
first : (P : ℕ) → P ^ 1 ≡ P
first P = pow-suc P 0 ∙ ap (λ n. n * P) (pow-zero P) ∙ omega arith

square : (P : ℕ) → P ^ 2 ≡ P * P
square P = pow-suc P 1 ∙ ap (λ n. n * P) (first P)

fourth : (P : ℕ) → P ^ 4 ≡ P * P * (P * P)
fourth P = pow-add P 2 2 ∙ ap (λ n. n * n) (square P)

-- ---- the bound
-- what the parts of a box add up to, with one rounding for each count, is at most the bound: for the tail T, the weight S and the number n of the sources, and the smallest side s
pub sum_below_bound : (P G S T n s : ℕ) → 4 ≤ P → G ≤ 20
    → 2 * S * T + 2 * (P * P) * S + n * (4 * (P * (P * P)) + 4 * G * (P * P) + 3 * P) + (2 * G * (P * P) + (2 * G + 2) * P) + s * (4 * n + 2) + 2 * s
    ≤ 2 * S * T + 6 * P ^ 2 * S + 30 * P ^ 4 * n + 64 * P ^ 2 + s * (6 * n + 6)
sum_below_bound P G S T n s least few =
    rw (square P, fourth P) (together (P * P) (P * P * (P * P)) (4 * (P * (P * P)) + 4 * G * (P * P) + 3 * P) (2 * G * (P * P) + (2 * G + 2) * P) S T n s (of_each P G least few) (of_levels P G least few))
  where
    -- for q = P^2 and f = P^4
    together : (q f a b S T n s : ℕ) → a ≤ 30 * f → b ≤ 64 * q → 2 * S * T + 2 * q * S + n * a + b + s * (4 * n + 2) + 2 * s ≤ 2 * S * T + 6 * q * S + 30 * f * n + 64 * q + s * (6 * n + 6)
    together q f a b S T n s h k =
        let m = mul-le-mul_left n h in
        omega (arith, m, k)
