-- The sum of C(k + l, k)/2^k over k is at most 2^(l + 1), by Pascal's rule: S(K + 1, l + 1) = S(K + 1, l) + S(K, l + 1)/2.
use Rattle.std.proofs.Common.{◌≡◌, refl, ap, ◌∙◌, ℕ, zero, suc, ◌+◌, ◌*◌, ◌^◌, ◌≤◌, arith}
use Rattle.exact_math.specs.Binomials.{choose}
use Rattle.exact_math.proofs.Binomials.{choose-all}

-- 2^(K - 1) times the sum over k < K
pub column_count : ℕ → ℕ → ℕ
column_count zero l = 0
column_count (suc K) l = 2 * column_count K l + choose (K + l) K

pub column_count-zero : (l : ℕ) → column_count 0 l ≡ 0
unfolding column_count
column_count-zero l = refl

pub column_count-next : (K l : ℕ) → column_count (suc K) l ≡ 2 * column_count K l + choose (K + l) K
unfolding column_count
column_count-next K l = refl

two_power : (n : ℕ) → 2 ^ suc n ≡ 2 * 2 ^ n
two_power n = omega arith

pascal : (K l : ℕ) → column_count (suc K) (suc l) ≡ column_count (suc K) l + column_count K (suc l)
pascal zero l =
    let a = column_count-next 0 (suc l) in
    let b = column_count-next 0 l in
    let c = column_count-zero (suc l) in
    let d = column_count-zero l in
    let e : choose (0 + suc l) 0 ≡ 1 = refl in
    let f : choose (0 + l) 0 ≡ 1 = refl in
    omega (arith, a, b, c, d, e, f)
pascal (suc K) l =
    let h = pascal K l in
    let a = column_count-next (suc K) (suc l) in
    let b = column_count-next (suc K) l in
    let c = column_count-next K (suc l) in
    let e : choose (suc K + suc l) (suc K) ≡ choose (K + suc l) K + choose (K + suc l) (suc K) = ap (λ n. choose n (suc K)) {x = suc K + suc l} {y = suc (K + suc l)} (omega arith) in
    let f : choose (K + suc l) (suc K) ≡ choose (suc K + l) (suc K) = ap (λ n. choose n (suc K)) {x = K + suc l} {y = suc K + l} (omega arith) in
    omega (arith, h, a, b, c, e, f)

-- the first sum is one less than a power of two
first_column : (K : ℕ) → column_count K 0 + 1 ≤ 2 ^ K
first_column zero = let a = column_count-zero 0 in omega (arith, a)
first_column (suc K) =
    let h = first_column K in
    let a = column_count-next K 0 in
    let e : choose (K + 0) K ≡ 1 = ap (λ n. choose n K) {x = K + 0} {y = K} (omega arith) ∙ choose-all K in
    let p = two_power K in
    omega (arith, h, a, e, p)

pub column_count-bounded : (K l : ℕ) → column_count K l ≤ 2 ^ (K + l)
column_count-bounded zero l = let a = column_count-zero l in omega (arith, a)
column_count-bounded (suc K) zero =
    let h = first_column (suc K) in
    let p : 2 ^ (suc K + 0) ≡ 2 ^ suc K = ap (λ n. 2 ^ n) {x = suc K + 0} {y = suc K} (omega arith) in
    omega (arith, h, p)
column_count-bounded (suc K) (suc l) =
    let a = column_count-bounded (suc K) l in
    let b = column_count-bounded K (suc l) in
    let c = pascal K l in
    let p : 2 ^ (K + suc l) ≡ 2 ^ (suc K + l) = ap (λ n. 2 ^ n) {x = K + suc l} {y = suc K + l} (omega arith) in
    let q : 2 ^ (suc K + suc l) ≡ 2 * 2 ^ (suc K + l) = ap (λ n. 2 ^ n) {x = suc K + suc l} {y = suc (suc K + l)} (omega arith) ∙ two_power (suc K + l) in
    omega (arith, a, b, c, p, q)
