-- How large the box of a pair is: 2^40 times the weight of the source at most.
use lib.Signed.{le_z}
use Rattle.std.proofs.Common.{◌≡◌, ℕ, zero, suc, ◌+◌, ◌*◌, ◌≤◌, ◌^◌, arith, Bool, true, false, ℤ, pos, negsuc, neg_ℤ, ◌+ℤ◌, ◌-ℤ◌, ◌*ℤ◌, ◌≤ℤ◌, ◌<ℤ◌, unsigned_abs, refl, subst}
use Rattle.std.proofs.lemmas.Int.{ints}
use Rattle.exact_math.specs.Ends.{EndsNarrow, BoxEndsWithin, BoxEndsNarrow, EndsWithin, zero_box}
use Rattle.exact_math.specs.Gaussian.{Gaussian, gaussian, norm_gaussian, mul_gaussian}
use Rattle.exact_math.specs.Ratio.{ComplexRatio}
use Rattle.exact_math.specs.Rounding.{floor_div, ceil_div}
use Rattle.exact_math.specs.Terms.{pole_term, dipole_term}
use Rattle.exact_math.proofs.Integers.{*-mono_left, *-comm, *-cancel_≤, square_nonneg}
use Rattle.exact_math.proofs.Enclosures.{floor_div_le, ceil_div_ge}
use Rattle.exact_math.proofs.Ring.{int_ring}
use Rattle.exact_math.proofs.RingTactic.{int_quotes, ring1, ring2, ring3, ring4}
use Rattle.exact_math.proofs.RoundedQuotients.{floor_near}
use Rattle.exact_math.proofs.WholeSizes.{within-floor, within-ceil}
use Rattle.points.specs.Limits.{weight64}
use Rattle.exact_math.specs.Sizes.{abs_gaussian}
use Rattle.complex_box.proofs.Sizes.{zero_within}
use Rattle.points.specs.Points.{strength}
use Rattle.points.specs.Strength.{pole_part, dipole_part}
use Rattle.points.specs.declared.Point.{Point}
use Rattle.points.specs.declared.Strength.{Strength}
use Rattle.points.specs.declared.Strength.TheVariants.{Pole, Dipole, Nothing}
use Rattle.near_field.specs.Pair.{is_at, strength_term, term_of, outward, pair_box}
use Rattle.near_field.proofs.TermSizes.{pole_re, dipole_re, squared}
use Rattle.near_field.proofs.PairContains.{distance_positive, term_denominator}

-- z is at most m n in size
pub record Bounded (m : ℕ) (z n : ℤ) : Type 0 where
  pub above : (neg_ℤ (pos m) *ℤ n) ≤ℤ z
  pub below : z ≤ℤ (pos m *ℤ n)

turned : (b x : ℤ) → b *ℤ neg_ℤ x ≡ neg_ℤ b *ℤ x
turned b x = ring2 int_ring b x (λ b x. search int_quotes depth 9) tt

-- a product with what is at most n in size
scaled : (q x n : ℤ) → neg_ℤ n ≤ℤ x → x ≤ℤ n → Bounded (unsigned_abs q) (q *ℤ x) n
scaled (pos a) x n v w =
    let u = *-mono_left (pos a) x n (omega (arith, ints)) w in
    let l = *-mono_left (pos a) (neg_ℤ n) x (omega (arith, ints)) v in
    let e = turned (pos a) n in
    record { above = subst (λ z. z ≤ℤ (pos a *ℤ x)) e l; below = u }
scaled (negsuc a) x n v w =
    let u = *-mono_left (pos (suc a)) (neg_ℤ x) n (omega (arith, ints)) (omega (arith, ints)) in
    let l = *-mono_left (pos (suc a)) (neg_ℤ n) (neg_ℤ x) (omega (arith, ints)) (omega (arith, ints)) in
    let e = turned (pos (suc a)) n in
    let f = turned (pos (suc a)) x in
    record { above = subst (λ z. (neg_ℤ (pos (suc a)) *ℤ n) ≤ℤ z) f (subst (λ z. z ≤ℤ (pos (suc a) *ℤ neg_ℤ x)) e l); below = subst (λ z. z ≤ℤ (pos (suc a) *ℤ n)) f u }

bounded-add : (l m : ℕ) (y z n : ℤ) → Bounded l y n → Bounded m z n → Bounded (l + m) (y +ℤ z) n
bounded-add l m y z n v w =
    let e : pos (l + m) *ℤ n ≡ pos l *ℤ n +ℤ pos m *ℤ n = split (pos l) (pos m) n in
    let f : neg_ℤ (pos (l + m)) *ℤ n ≡ neg_ℤ (pos l) *ℤ n +ℤ neg_ℤ (pos m) *ℤ n = split_neg (pos l) (pos m) n in
    record { above = omega (arith, ints, v.above, w.above); below = omega (arith, ints, v.below, w.below) }
  where
    split : (a b n : ℤ) → (a +ℤ b) *ℤ n ≡ a *ℤ n +ℤ b *ℤ n
    split a b n = ring3 int_ring a b n (λ a b n. search int_quotes depth 9) tt

    split_neg : (a b n : ℤ) → neg_ℤ (a +ℤ b) *ℤ n ≡ neg_ℤ a *ℤ n +ℤ neg_ℤ b *ℤ n
    split_neg a b n = ring3 int_ring a b n (λ a b n. search int_quotes depth 9) tt

-- ---- the parts of a distance and of its square, by its norm
size_square : (x : ℤ) → (neg_ℤ (x *ℤ x) ≤ℤ x) × (x ≤ℤ (x *ℤ x))
size_square (pos zero) = (omega (arith, ints), omega (arith, ints))
size_square (pos (suc a)) = (omega (arith, ints), omega (arith, ints))
size_square (negsuc a) = (omega (arith, ints), omega (arith, ints))

part_x : (x y : ℤ) → (neg_ℤ (norm_gaussian (gaussian x y)) ≤ℤ x) × (x ≤ℤ norm_gaussian (gaussian x y))
part_x x y = let s = size_square x in let t = square_nonneg y in (omega (arith, ints, s.0), omega (arith, ints, s.1))

part_y : (x y : ℤ) → (neg_ℤ (norm_gaussian (gaussian x y)) ≤ℤ neg_ℤ y) × (neg_ℤ y ≤ℤ norm_gaussian (gaussian x y))
part_y x y = let s = size_square y in let t = square_nonneg x in (omega (arith, ints, s.1), omega (arith, ints, s.0))

-- (x - y)(x + y) and 2 x y are at most the norm in size, since squares are not negative
across_at_most : (x y : ℤ) → (neg_ℤ (norm_gaussian (gaussian x y)) ≤ℤ (x *ℤ x -ℤ y *ℤ y)) × ((x *ℤ x -ℤ y *ℤ y) ≤ℤ norm_gaussian (gaussian x y))
across_at_most x y =
    let s = square_nonneg x in
    let t = square_nonneg y in
    (omega (arith, ints, s, t), omega (arith, ints, s, t))

twice_at_most : (x y : ℤ) → (neg_ℤ (norm_gaussian (gaussian x y)) ≤ℤ (x *ℤ y +ℤ x *ℤ y)) × ((x *ℤ y +ℤ x *ℤ y) ≤ℤ norm_gaussian (gaussian x y))
twice_at_most x y =
    let s = square_nonneg (x +ℤ y) in
    let t = square_nonneg (x -ℤ y) in
    let e = sum_squared x y in
    let f = difference_squared x y in
    (omega (arith, ints, s, e), omega (arith, ints, t, f))
  where
    sum_squared : (x y : ℤ) → (x +ℤ y) *ℤ (x +ℤ y) ≡ x *ℤ x +ℤ y *ℤ y +ℤ (x *ℤ y +ℤ x *ℤ y)
    sum_squared x y = ring2 int_ring x y (λ x y. search int_quotes depth 9) tt

    difference_squared : (x y : ℤ) → (x -ℤ y) *ℤ (x -ℤ y) ≡ x *ℤ x +ℤ y *ℤ y -ℤ (x *ℤ y +ℤ x *ℤ y)
    difference_squared x y = ring2 int_ring x y (λ x y. search int_quotes depth 9) tt

-- the same bound over a norm and over its square
bounded-square : (m : ℕ) (z n : ℤ) → pos 0 <ℤ n → Bounded m z n → Bounded m z (n *ℤ n)
bounded-square m z n h w =
    let l = *-mono_left n (pos 1) n (omega (arith, ints)) (omega (arith, ints)) in
    let one = times_one n in
    let k : n ≤ℤ (n *ℤ n) = omega (arith, ints, l, one) in
    let u = *-mono_left (pos m) n (n *ℤ n) (omega (arith, ints)) k in
    let e = minus_times (pos m) n in
    let f = minus_times (pos m) (n *ℤ n) in
    record { above = omega (arith, ints, w.above, u, e, f); below = omega (arith, ints, w.below, u) }
  where
    times_one : (n : ℤ) → n *ℤ pos 1 ≡ n
    times_one n = ring1 int_ring n (λ n. search int_quotes depth 9) tt

    minus_times : (a n : ℤ) → neg_ℤ a *ℤ n ≡ neg_ℤ (a *ℤ n)
    minus_times a n = ring2 int_ring a n (λ a n. search int_quotes depth 9) tt

-- both parts of a term, by the weight of its source
pub record TermBounded (m : ℕ) (z : ComplexRatio) : Type 0 where
  pub re : Bounded m z.re z.denominator
  pub im : Bounded m z.im z.denominator

bounded-weaker : (l m : ℕ) (z n : ℤ) → pos 0 <ℤ n → l ≤ m → Bounded l z n → Bounded m z n
bounded-weaker l m z n h k w =
    let u = *-mono_left n (pos l) (pos m) (omega (arith, ints)) (omega (arith, ints)) in
    let e = *-comm n (pos l) in
    let f = *-comm n (pos m) in
    let d = minus_times (pos l) n in
    let g = minus_times (pos m) n in
    record { above = omega (arith, ints, w.above, u, e, f, d, g); below = omega (arith, ints, w.below, u, e, f) }
  where
    minus_times : (a n : ℤ) → neg_ℤ a *ℤ n ≡ neg_ℤ (a *ℤ n)
    minus_times a n = ring2 int_ring a n (λ a n. search int_quotes depth 9) tt

pole_bounded : (a b x y : ℤ) → TermBounded (unsigned_abs a + unsigned_abs b) (pole_term (gaussian a b) (gaussian x y))
pole_bounded a b x y =
    let p = part_x x y in
    let q = part_y x y in
    let n = norm_gaussian (gaussian x y) in
    let first = scaled a x n p.0 p.1 in
    let second = scaled b y n (omega (arith, ints, q.1)) (omega (arith, ints, q.0)) in
    record {
      re = subst (λ z. Bounded (unsigned_abs a + unsigned_abs b) z n) (pole_re a b x y) (bounded-add _ _ (a *ℤ x) (b *ℤ y) n first second);
      im = bounded-add _ _ (a *ℤ neg_ℤ y) (b *ℤ x) n (scaled a (neg_ℤ y) n q.0 q.1) (scaled b x n p.0 p.1);
    }

dipole_bounded : (a b x y : ℤ) → pos 0 <ℤ norm_gaussian (gaussian x y) → TermBounded (unsigned_abs a + unsigned_abs b) (dipole_term (gaussian a b) (gaussian x y))
dipole_bounded a b x y h =
    let n = norm_gaussian (gaussian x y) in
    let across = x *ℤ x -ℤ y *ℤ y in
    let twice = x *ℤ y +ℤ x *ℤ y in
    let p = across_at_most x y in
    let q = twice_at_most x y in
    record {
      re = bounded-square _ _ n h (subst (λ z. Bounded (unsigned_abs a + unsigned_abs b) z n) (dipole_re a b x y) (bounded-add _ _ (a *ℤ across) (b *ℤ twice) n (scaled a across n p.0 p.1) (scaled b twice n q.0 q.1)));
      im = bounded-square _ _ n h (subst (λ z. Bounded (unsigned_abs a + unsigned_abs b) z n) (dipole_im_turned a b x y) (bounded-add _ _ (a *ℤ neg_ℤ twice) (b *ℤ across) n (scaled a (neg_ℤ twice) n (omega (arith, ints, q.1)) (omega (arith, ints, q.0))) (scaled b across n p.0 p.1)));
    }
  where
    dipole_im_turned : (a b x y : ℤ) → a *ℤ neg_ℤ (x *ℤ y +ℤ x *ℤ y) +ℤ b *ℤ (x *ℤ x -ℤ y *ℤ y) ≡ (mul_gaussian (gaussian a b) (squared x y)).im
    dipole_im_turned a b x y = ring4 int_ring a b x y (λ a b x y. search int_quotes depth 12) tt

term_weaker : (l m : ℕ) (z : ComplexRatio) → pos 0 <ℤ z.denominator → l ≤ m → TermBounded l z → TermBounded m z
term_weaker l m z h k w = record { re = bounded-weaker l m _ _ h k w.re; im = bounded-weaker l m _ _ h k w.im }

abbrev weight_of : Strength → ℕ
weight_of a = abs_gaussian (pole_part a) + 64 * abs_gaussian (dipole_part a)

-- a term is at most the weight of its source in size
pub term_bounded : (a : Strength) (x y : ℤ) → pos 0 <ℤ norm_gaussian (gaussian x y) → TermBounded (weight_of a) (strength_term a (gaussian x y))
term_bounded (Pole a b) x y h = term_weaker _ _ _ h (omega arith) (pole_bounded a b x y)
term_bounded (Dipole a b) x y h = term_weaker _ _ _ (term_denominator (Dipole a b) (gaussian x y) h) (omega arith) (dipole_bounded a b x y h)
term_bounded Nothing x y h = record { re = record { above = omega (arith, ints); below = omega (arith, ints) }; im = record { above = omega (arith, ints); below = omega (arith, ints) } }

-- the same in units of 1/c
bounded-units : (c m : ℕ) (z n : ℤ) → Bounded m z n → Bounded (c * m) (pos c *ℤ z) n
bounded-units c m z n w =
    let l = *-mono_left (pos c) _ _ (omega (arith, ints)) w.above in
    let u = *-mono_left (pos c) _ _ (omega (arith, ints)) w.below in
    record { above = subst (λ v. v ≤ℤ (pos c *ℤ z)) (low (pos c) (pos m) n) l; below = subst (λ v. (pos c *ℤ z) ≤ℤ v) (high (pos c) (pos m) n) u }
  where
    low : (c m n : ℤ) → c *ℤ (neg_ℤ m *ℤ n) ≡ neg_ℤ (c *ℤ m) *ℤ n
    low c m n = ring3 int_ring c m n (λ c m n. search int_quotes depth 9) tt

    high : (c m n : ℤ) → c *ℤ (m *ℤ n) ≡ c *ℤ m *ℤ n
    high c m n = ring3 int_ring c m n (λ c m n. search int_quotes depth 9) tt

-- a quotient rounded outward is at most the bound
quot-within : (m : ℕ) (z n : ℤ) → pos 0 <ℤ n → Bounded m z n → EndsWithin m (record { lo = floor_div z n; hi = ceil_div z n })
quot-within m z n h w = record { lo = within-floor m z n (omega (arith, ints)) w.above w.below; hi = within-ceil m z n (omega (arith, ints)) w.above w.below }

outward-within : (m : ℕ) (z : ComplexRatio) → pos 0 <ℤ z.denominator → TermBounded m z → BoxEndsWithin (2 ^ 40 * m) (outward z)
outward-within m z h w = record {
  re = quot-within (2 ^ 40 * m) _ z.denominator h (bounded-units (2 ^ 40) m z.re z.denominator w.re);
  im = quot-within (2 ^ 40 * m) _ z.denominator h (bounded-units (2 ^ 40) m z.im z.denominator w.im);
}

-- all ends of the box of a pair are at most 2^40 times the weight of the source
pub pair_box-within : (t : Gaussian) (p : Point) → BoxEndsWithin (2 ^ 40 * weight64 p) (pair_box t p)
pair_box-within t p = cases (is_at t p) refl
  where
    cases : (b : Bool) → is_at t p ≡ b → BoxEndsWithin (2 ^ 40 * weight64 p) (pair_box t p)
    cases true e = rw e (zero_within _)
    cases false e =
        let h = distance_positive t p e in
        rw e (outward-within _ _ (term_denominator (strength p.kind) _ h) (term_bounded (strength p.kind) (t.re -ℤ p.x) (t.im -ℤ p.y) h))

-- ---- widths: a rounding adds less than one unit on each side
rounded_width : (z n : ℤ) → pos 1 ≤ℤ n → (ceil_div z n -ℤ floor_div z n) ≤ℤ pos 1
rounded_width z n h = case (le_z (ceil_div z n -ℤ floor_div z n) (pos 1)) refl
  where
    impossible : (f c : ℤ) → z <ℤ (n *ℤ f +ℤ n) → neg_ℤ z <ℤ (n *ℤ neg_ℤ c +ℤ n) → pos 1 <ℤ (c -ℤ f) → ⊥
    impossible f c below above less =
        let m = *-mono_left n (f +ℤ pos 2) c (omega (arith, ints)) (omega (arith, ints, less)) in
        let e = two_more n f in
        let d = turned n c in
        let g = times_minus n c in
        absurd (omega (arith, ints, below, above, m, e, d, g))
      where
        two_more : (n f : ℤ) → n *ℤ (f +ℤ pos 2) ≡ n *ℤ f +ℤ n +ℤ n
        two_more n f = ring2 int_ring n f (λ n f. search int_quotes depth 9) tt

        times_minus : (n c : ℤ) → n *ℤ neg_ℤ c ≡ neg_ℤ (n *ℤ c)
        times_minus n c = ring2 int_ring n c (λ n c. search int_quotes depth 9) tt

    double_neg : (c : ℤ) → neg_ℤ (neg_ℤ c) ≡ c
    double_neg c = omega (arith, ints)

    case : (t : Bool) → le_z (ceil_div z n -ℤ floor_div z n) (pos 1) ≡ t → (ceil_div z n -ℤ floor_div z n) ≤ℤ pos 1
    case true e = omega (arith, ints)
    case false e = absurd (impossible (floor_div z n) (ceil_div z n) (floor_near z n h) (rw double_neg (floor_near (neg_ℤ z) n h)) (omega (arith, ints)))

rounded_ordered : (z n : ℤ) → pos 1 ≤ℤ n → floor_div z n ≤ℤ ceil_div z n
rounded_ordered z n h =
    let f = floor_div_le z n h in
    let c = ceil_div_ge z n h in
    *-cancel_≤ n _ _ (omega (arith, ints)) (omega (arith, ints, f, c))

rounded_narrow : (z n : ℤ) → pos 0 <ℤ n → EndsNarrow 1 (record { lo = floor_div z n; hi = ceil_div z n })
rounded_narrow z n h =
    let l : pos 1 ≤ℤ n = omega (arith, ints) in
    record { ordered = rounded_ordered z n l; width = rounded_width z n l }

outward-narrow : (z : ComplexRatio) → pos 0 <ℤ z.denominator → BoxEndsNarrow 1 (outward z)
outward-narrow z h = record { re = rounded_narrow _ z.denominator h; im = rounded_narrow _ z.denominator h }

zero-narrow : BoxEndsNarrow 1 zero_box
zero-narrow = let w : EndsNarrow 1 (record { lo = (pos 0); hi = (pos 0) }) = record { ordered = omega (arith, ints); width = omega (arith, ints) } in record { re = w; im = w }

-- each part of the box of a pair is at most one unit wide
pub pair_box-narrow : (t : Gaussian) (p : Point) → BoxEndsNarrow 1 (pair_box t p)
pair_box-narrow t p = cases (is_at t p) refl
  where
    cases : (b : Bool) → is_at t p ≡ b → BoxEndsNarrow 1 (pair_box t p)
    cases true e = rw e zero-narrow
    cases false e = rw e (outward-narrow (term_of t p) (term_denominator (strength p.kind) _ (distance_positive t p e)))
