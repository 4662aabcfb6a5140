-- A guessed quotient, and what it leaves.
use Rattle.std.proofs.Common.{◌≡◌, refl, sym, ap, ◌∙◌, ◌*◌, ◌^◌, arith, ℤ, pos, neg_ℤ, ◌+ℤ◌, ◌-ℤ◌, ◌*ℤ◌, ◌≤ℤ◌, ◌<ℤ◌, SFits}
use Rattle.std.proofs.Math.IntN.{*ℤ_comm}
use Rattle.std.proofs.lemmas.Int.{ints}
use Rattle.std.specs.Int.{w64, w128}
use Rattle.exact_math.specs.Rounding.{floor_div, ceil_div}
use Rattle.exact_math.specs.Within.{Within}
use Rattle.exact_math.proofs.Ring.{int_ring}
use Rattle.exact_math.proofs.RingTactic.{int_quotes, ring2, ring3}
use Rattle.exact_math.proofs.WholeSizes.{within-mul}
use Rattle.fixed_interval.specs.Division.{HasRest}
use Rattle.fixed_interval.proofs.Division.{floor_within_z, floor_unique, ceil_unique}

guess_within : (a : ℤ) → SFits w64 a → Within (2 ^ 63) a
guess_within a f = record { above = omega (arith, ints); below = omega (arith, ints) }

divisor_within : (n : ℤ) → pos 1 ≤ℤ n → n ≤ℤ pos (2 ^ 62) → Within (2 ^ 62) n
divisor_within n l m = record { above = omega (arith, ints); below = omega (arith, ints) }

-- the product of a guess and a divisor fits, and so does what it leaves of a number
pub record RestFits (z a n : ℤ) : Type 0 where
  pub number : SFits w128 z
  pub guess : SFits w128 a
  pub divisor : SFits w128 n
  pub product : SFits w128 (a *ℤ n)
  pub rest : SFits w128 (z -ℤ (a *ℤ n))

rest_at : (z a n p : ℤ) → p ≡ a *ℤ n → Within (2 ^ 63 * 2 ^ 62) p → SFits w64 a → pos 1 ≤ℤ n → n ≤ℤ pos (2 ^ 62) → Within (2 ^ 126) z → RestFits z a n
rest_at z a n p e w f l m s = record {
  number = omega (arith, ints);
  guess = omega (arith, ints);
  divisor = omega (arith, ints);
  product = rw (sym e) (omega (arith, ints, w));
  rest = rw (sym e) (omega (arith, ints, w, s));
}

pub rest_fits : (z a n : ℤ) → SFits w64 a → pos 1 ≤ℤ n → n ≤ℤ pos (2 ^ 62) → Within (2 ^ 126) z → RestFits z a n
rest_fits z a n f l m s = rest_at z a n (a *ℤ n) refl (within-mul (2 ^ 63) (2 ^ 62) a n (guess_within a f) (divisor_within n l m)) f l m s

-- what is left, where the guess is one too high, or right
pub one_less : (z n q r : ℤ) → r ≡ z -ℤ (q *ℤ n) → neg_ℤ n ≤ℤ r → r <ℤ pos 0 → HasRest z n (q -ℤ pos 1) (r +ℤ n)
one_less z n q r e l h =
    let p : (q -ℤ pos 1) *ℤ n ≡ (q *ℤ n) -ℤ n = ring2 int_ring q n (λ q n. search int_quotes depth 9) tt in
    record { whole = omega (arith, ints, e, p); from_zero = omega (arith, ints, l); below = omega (arith, ints, h) }

pub just_so : (z n q r : ℤ) → r ≡ z -ℤ (q *ℤ n) → pos 0 ≤ℤ r → r <ℤ n → HasRest z n q r
just_so z n q r e l h = record { whole = omega (arith, ints, e); from_zero = l; below = h }

pub rest_floor : (z n q r : ℤ) → HasRest z n q r → q ≡ floor_div z n
rest_floor z n q r d =
    let c = *ℤ_comm n q in
    floor_unique z q n (omega (arith, ints, d.from_zero, d.below)) (omega (arith, ints, c, d.whole, d.from_zero)) (omega (arith, ints, c, d.whole, d.below))

pub rest_ceil : (z n q r : ℤ) → HasRest (pos 0 -ℤ z) n q r → (pos 0 -ℤ q) ≡ ceil_div z n
rest_ceil z n q r d =
    let e : pos 0 -ℤ z ≡ neg_ℤ z = omega (arith, ints) in
    let f = rest_floor (pos 0 -ℤ z) n q r d ∙ ap (λ y. floor_div y n) e in
    omega (arith, ints, f)

-- the quotient that rounds up, from that of a number at most n below which rounds down
pub ceil_above : (y z n q r k : ℤ) → HasRest y n q r → (r +ℤ (z -ℤ y)) ≤ℤ (k *ℤ n) → (k *ℤ n) <ℤ ((r +ℤ (z -ℤ y)) +ℤ n) → (q +ℤ k) ≡ ceil_div z n
ceil_above y z n q r k d l h =
    let p : n *ℤ (q +ℤ k) ≡ (q *ℤ n) +ℤ (k *ℤ n) = ring_3 n q k in
    ceil_unique z (q +ℤ k) n (omega (arith, ints, d.from_zero, d.below)) (omega (arith, ints, l, p, d.whole)) (omega (arith, ints, h, p, d.whole))
  where
    ring_3 : (n q k : ℤ) → n *ℤ (q +ℤ k) ≡ (q *ℤ n) +ℤ (k *ℤ n)
    ring_3 n q k = ring3 int_ring n q k (λ n q k. search int_quotes depth 9) tt

-- what is above the quotient of the lower end, where the ends are near each other
pub record Above (lo hi n q r : ℤ) : Type 0 where
  pub width : SFits w128 (hi -ℤ lo)
  pub small : SFits w64 (hi -ℤ lo)
  pub fits : SFits w64 (r +ℤ (hi -ℤ lo))
  pub from_zero : pos 0 ≤ℤ (r +ℤ (hi -ℤ lo))
  pub most : (r +ℤ (hi -ℤ lo)) ≤ℤ (n +ℤ n)

pub above : (lo hi n q r : ℤ) → n ≤ℤ pos (2 ^ 62) → lo ≤ℤ hi → (hi -ℤ n) ≤ℤ lo → HasRest lo n q r → Above lo hi n q r
above lo hi n q r m o l d = record {
  width = omega (arith, ints, m, o, l);
  small = omega (arith, ints, m, o, l);
  fits = omega (arith, ints, m, o, l, d.from_zero, d.below);
  from_zero = omega (arith, ints, o, d.from_zero);
  most = omega (arith, ints, l, d.below);
}

pub quotient_within : (z n q r : ℤ) → pos 1 ≤ℤ n → Within (2 ^ 126) z → HasRest z n q r → Within (2 ^ 126) q
quotient_within z n q r h w d = rw (rest_floor z n q r d) (floor_within_z z n (2 ^ 126) h w)

pub step_fits : (q k : ℤ) → Within (2 ^ 126) q → pos 0 ≤ℤ k → k ≤ℤ pos 2 → SFits w128 (q +ℤ k)
step_fits q k w l h = omega (arith, ints, w, l, h)

-- what a guess leaves, where the tests made it small
pub record Left (z n q r : ℤ) : Type 0 where
  pub small : SFits w64 r
  pub wide : SFits w128 q
  pub less : SFits w128 (q -ℤ pos 1)
  pub low : neg_ℤ n ≤ℤ r
  pub high : r <ℤ n

pub left : (z n q r : ℤ) → SFits w64 q → n ≤ℤ pos (2 ^ 62) → neg_ℤ n ≤ℤ r → r <ℤ n → Left z n q r
left z n q r f m l h = record {
  small = omega (arith, ints, m, l, h);
  wide = omega (arith, ints);
  less = omega (arith, ints);
  low = l;
  high = h;
}

pub negative_fits : (q : ℤ) → Within (2 ^ 126) q → SFits w128 (pos 0 -ℤ q)
negative_fits q w = omega (arith, ints, w)

pub negative_within : (q : ℤ) → Within (2 ^ 126) q → Within (2 ^ 126) (pos 0 -ℤ q)
negative_within q w = record { above = omega (arith, ints, w); below = omega (arith, ints, w) }
