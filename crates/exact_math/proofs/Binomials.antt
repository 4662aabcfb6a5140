-- Binomial coefficients: Pascal's rule is their definition, the rest follows.
use mathlib.Core.Path.{◌≡◌, refl, sym, ap, ap₂, ◌∙◌}
use Prim.Native.Nat.{ℕ, zero, suc, ◌+◌, ◌<◌}
use native.Mathlib.Omega.{arith}
pub use Rattle.exact_math.specs.Binomials.{choose}

-- there is no way to choose more than there are
pub choose-above : (n k : ℕ) → n < k → choose n k ≡ 0
choose-above n zero h = absurd (omega arith)
choose-above zero (suc k) h = refl
choose-above (suc n) (suc k) h = ap₂ ◌+◌ (choose-above n k (omega arith)) (choose-above n (suc k) (omega arith))

-- one way to choose all
pub choose-all : (n : ℕ) → choose n n ≡ 1
choose-all zero = refl
choose-all (suc n) = ap₂ ◌+◌ (choose-all n) (choose-above n (suc n) (omega arith))

-- C(n, k) = C(n, l) where k + l = n
pub choose-symmetric : (n k l : ℕ) → k + l ≡ n → choose n k ≡ choose n l
choose-symmetric n zero l e = sym (ap (choose n) {x = l} {y = n} (omega arith) ∙ choose-all n)
choose-symmetric n (suc k) zero e = ap (choose n) {x = suc k} {y = n} (omega arith) ∙ choose-all n
choose-symmetric zero (suc k) (suc l) e = absurd (omega arith)
choose-symmetric (suc n) (suc k) (suc l) e =
    let p = choose-symmetric n k (suc l) (omega arith) in
    let q = choose-symmetric n (suc k) l (omega arith) in
    omega arith
