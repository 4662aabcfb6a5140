-- Where an entry lies in the table.
use mathlib.Core.Path.{◌≡◌, sym, ap, ◌∙◌}
use Prim.Native.Nat.{ℕ, suc, ◌+◌, ◌*◌, ◌/◌, ◌%◌, ◌≤◌, ◌<◌}
use native.Mathlib.Omega.{arith}
use Rattle.std.proofs.Math.Nat.{mul-le-mul_right, div-add-mod, mod-lt, lt_of_not-le, mul-le-mul_left}
use Rattle.std.proofs.lemmas.Nat.{div-mul-add}

-- the remainder of a P + k
pub mod-mul-add : (a P k : ℕ) → k < P → (a * P + k) % P ≡ k
mod-mul-add a P k h =
    let e = div-mul-add a P k h in
    let d = div-add-mod (a * P + k) P in
    let p : P * ((a * P + k) / P) ≡ P * a = ap (λ q. P * q) e in
    omega (arith, d, p)

-- the index of the entry (k, l) of the distance n
pub record Place (P n k l i : ℕ) : Type 0 where
  pub distance : i / P / P ≡ n
  pub row : i % P ≡ k
  pub column : i / P % P ≡ l

pub place : (P n k l : ℕ) → k < P → l < P → Place P n k l ((n * P + l) * P + k)
place P n k l k<P l<P =
    let first = div-mul-add (n * P + l) P k k<P in
    record {
      distance = ap (λ q. q / P) first ∙ div-mul-add n P l l<P;
      row = mod-mul-add (n * P + l) P k k<P;
      column = ap (λ q. q % P) first ∙ mod-mul-add n P l l<P;
    }

-- the product of numbers below n and P
below-product : (n m a b : ℕ) → a < n → b < m → a * m + b < n * m
below-product n m a b h k = let l : suc a * m ≤ n * m = mul-le-mul_right m h in omega (arith, l, k)

pub place-below : (P n k l : ℕ) → n < 40 → k < P → l < P → (n * P + l) * P + k < 40 * (P * P)
place-below P n k l n<40 k<P l<P =
    let a = below-product 40 P n l n<40 l<P in
    let b = below-product (40 * P) P (n * P + l) k a k<P in
    omega (arith, b)

pub column-below : (P n l : ℕ) → n < 40 → l < P → (n * P + l) * P + P ≤ 40 * (P * P)
column-below P n l n<40 l<P =
    let a = below-product 40 P n l n<40 l<P in
    let b : suc (n * P + l) * P ≤ 40 * P * P = mul-le-mul_right P a in
    omega (arith, b)

-- the parts of an index below P P
pub record Parts (P i : ℕ) : Type 0 where
  pub row : i % P < P
  pub column : i / P < P

pub parts : (P i : ℕ) → 0 < P → i < P * P → Parts P i
parts P i p h = record {
  row = mod-lt i p;
  column = lt_of_not-le (λ k.
      let m : P * P ≤ P * (i / P) = mul-le-mul_left P k in
      let d = div-add-mod i P in
      absurd (omega (arith, h, m, d)));
}

-- the i-th entry of the distance n
pub place-next : (P n i : ℕ) → 0 < P → i < P * P → Place P n (i % P) (i / P) (n * (P * P) + i)
place-next P n i p h =
    let q = parts P i p h in
    let at = place P n (i % P) (i / P) q.row q.column in
    let e : (n * P + i / P) * P + i % P ≡ n * (P * P) + i = let d = div-add-mod i P in omega (arith, d) in
    record {
      distance = sym (ap (λ j. j / P / P) e) ∙ at.distance;
      row = sym (ap (λ j. j % P) e) ∙ at.row;
      column = sym (ap (λ j. j / P % P) e) ∙ at.column;
    }
