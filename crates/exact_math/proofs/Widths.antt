-- The widths of the results of rounded operations on whole ends: the operations of intervals and boxes.
use mathlib.Core.Path.{◌≡◌, sym, subst}
use Prim.Native.Nat.{ℕ, suc, ◌+◌, ◌-◌, ◌*◌, ◌≤◌, ◌<◌}
use native.Mathlib.Nat.{lt_of_not-le, mul-le-mul_left, mul-le-mul_right}
use native.Mathlib.Omega.{arith}
use lib.IntN.{ℤ, pos, negsuc, neg_ℤ, ◌+ℤ◌, ◌-ℤ◌, ◌*ℤ◌}
use lib.Signed.{◌<ℤ◌, ◌≤ℤ◌}
use Rattle.std.proofs.lemmas.Int.{ints, clamps}
use Rattle.std.specs.Prelude.{unsigned_abs}
use Rattle.exact_math.specs.Ends.{Ends, BoxEnds, add_ends, neg_ends, sub_ends, scale_ends, times_ends, least, greatest, quot_ends, EndsWithin, EndsNarrow, BoxEndsNarrow, zero_box, add_box, neg_box, scale_box, gscale_box, quot_box, gquot_box}
use Rattle.exact_math.specs.Gaussian.{Gaussian}
use Rattle.exact_math.specs.Rounding.{floor_div, ceil_div}
use Rattle.exact_math.specs.Within.{Within}
use Rattle.exact_math.proofs.Ring.{int_ring}
use Rattle.exact_math.proofs.RingTactic.{int_quotes, ring2, ring3}
use Rattle.exact_math.proofs.Integers as Z
use Rattle.exact_math.proofs.Enclosures.{floor_div_le, ceil_div_ge}
use Rattle.exact_math.proofs.WholeSizes.{unsigned_abs-within, within-mul}

-- ---- intervals
pub narrow-point : (n : ℤ) → EndsNarrow 0 (record { lo = n; hi = n })
narrow-point n = record { ordered = omega (arith, ints); width = omega (arith, ints) }

pub narrow-wider : {v w : ℕ} {i : Ends} → v ≤ w → EndsNarrow v i → EndsNarrow w i
narrow-wider h k = record { ordered = k.ordered; width = omega (arith, ints, h, k.width) }

pub narrow-add : {i j : Ends} {a b : ℕ} → EndsNarrow a i → EndsNarrow b j → EndsNarrow (a + b) (add_ends i j)
narrow-add {i} {j} {a} {b} h k = record { ordered = omega (arith, ints, h.ordered, k.ordered); width = omega (arith, ints, h.width, k.width) }

pub narrow-sub : {i j : Ends} {a b : ℕ} → EndsNarrow a i → EndsNarrow b j → EndsNarrow (a + b) (sub_ends i j)
narrow-sub {i} {j} {a} {b} h k = record { ordered = omega (arith, ints, h.ordered, k.ordered); width = omega (arith, ints, h.width, k.width) }

pub narrow-neg : {i : Ends} {a : ℕ} → EndsNarrow a i → EndsNarrow a (neg_ends i)
narrow-neg {i} {a} h = record { ordered = omega (arith, ints, h.ordered); width = omega (arith, ints, h.width) }

-- n times what lies between both ends
apart_times : (n : ℕ) (lo hi : ℤ) → pos n *ℤ (hi -ℤ lo) ≡ hi *ℤ pos n -ℤ lo *ℤ pos n
apart_times n lo hi = ring3 int_ring (pos n) hi lo (λ n h l. search int_quotes depth 9) tt

pub narrow-scale : (k : ℤ) {i : Ends} {w : ℕ} → EndsNarrow w i → EndsNarrow (unsigned_abs k * w) (scale_ends i k)
narrow-scale (pos n) {i} {w} h =
    let p : pos 0 ≤ℤ pos n = omega (arith, ints) in
    let e = apart_times n i.lo i.hi in
    let o = Z.*-mono_left (pos n) (pos 0) (i.hi -ℤ i.lo) p (omega (arith, ints, h.ordered)) in
    let m = Z.*-mono_left (pos n) (i.hi -ℤ i.lo) (pos w) p h.width in
    record { ordered = omega (arith, ints, clamps); width = omega (arith, ints, clamps, e, o, m) }
narrow-scale (negsuc n) {i} {w} h =
    let p : pos 0 ≤ℤ pos (suc n) = omega (arith, ints) in
    let e = turned (pos (suc n)) (negsuc n) i.lo i.hi (omega (arith, ints)) in
    let o = Z.*-mono_left (pos (suc n)) (pos 0) (i.hi -ℤ i.lo) p (omega (arith, ints, h.ordered)) in
    let m = Z.*-mono_left (pos (suc n)) (i.hi -ℤ i.lo) (pos w) p h.width in
    record { ordered = omega (arith, ints, clamps); width = omega (arith, ints, clamps, e, o, m) }
  where
    turned : (p m lo hi : ℤ) → m ≡ neg_ℤ p → p *ℤ (hi -ℤ lo) ≡ lo *ℤ m -ℤ hi *ℤ m
    turned p m lo hi e = subst (λ m. p *ℤ (hi -ℤ lo) ≡ lo *ℤ m -ℤ hi *ℤ m) (sym e) (ring3 int_ring p lo hi (λ p l h. search int_quotes depth 12) tt)

-- the other side of rounding
pub floor_div_gt : (a : ℤ) (n : ℕ) → 0 < n → a ≤ℤ (pos n *ℤ floor_div a (pos n) +ℤ pos (n - 1))
floor_div_gt (pos a) n h = omega (arith, ints)
floor_div_gt (negsuc a) n h = omega (arith, ints)

pub ceil_div_lt : (a : ℤ) (n : ℕ) → 0 < n → (pos n *ℤ ceil_div a (pos n)) ≤ℤ (a +ℤ pos (n - 1))
ceil_div_lt a n h =
    let k = floor_div_gt (neg_ℤ a) n h in
    let e : pos n *ℤ ceil_div a (pos n) ≡ neg_ℤ (pos n *ℤ floor_div (neg_ℤ a) (pos n)) = ring2 int_ring (floor_div (neg_ℤ a) (pos n)) (pos n) (λ f n. search int_quotes depth 9) tt in
    rw e (omega (arith, ints, k))

floor_le_ceil : (lo hi : ℤ) (n : ℕ) → 0 < n → lo ≤ℤ hi → floor_div lo (pos n) ≤ℤ ceil_div hi (pos n)
floor_le_ceil lo hi n h o =
    let f = floor_div_le lo (pos n) (omega (arith, ints)) in
    let c = ceil_div_ge hi (pos n) (omega (arith, ints)) in
    Z.*-cancel_≤ (pos n) _ _ (omega (arith, ints)) (omega (arith, ints, f, c, o))

-- a number below n (v + 1) in the n-fold is at most v
pub at_most : (n v : ℕ) (d : ℤ) → (pos n *ℤ d) <ℤ (pos n *ℤ pos (suc v)) → d ≤ℤ pos v
at_most n v (pos d) k =
    let m : d < suc v = lt_of_not-le (λ l. let t = mul-le-mul_left n l in absurd (omega (arith, ints))) in
    omega (arith, ints)
at_most n v (negsuc d) k = omega (arith, ints)

-- n times the width of a quotient is at most the width and 2 (n - 1)
pub narrow-quot : (n : ℕ) {i : Ends} {w v : ℕ} → 0 < n → EndsNarrow w i → w + 2 * (n - 1) < n * suc v → EndsNarrow v (quot_ends i (pos n))
narrow-quot n {i} {w} {v} n>0 h enough = record {
  ordered = floor_le_ceil i.lo i.hi n n>0 h.ordered;
  width = last (ceil_div i.hi (pos n)) (floor_div i.lo (pos n)) (ceil_div_lt i.hi n n>0) (floor_div_gt i.lo n n>0);
}
  where
    -- from n (c - f) < n (v + 1)
    last : (c f : ℤ) → (pos n *ℤ c) ≤ℤ (i.hi +ℤ pos (n - 1)) → i.lo ≤ℤ (pos n *ℤ f +ℤ pos (n - 1)) → (c -ℤ f) ≤ℤ pos v
    last c f up down =
        let e : pos n *ℤ (c -ℤ f) ≡ pos n *ℤ c -ℤ pos n *ℤ f = ring3 int_ring (pos n) c f (λ n c f. search int_quotes depth 9) tt in
        let less : (pos n *ℤ (c -ℤ f)) <ℤ (pos n *ℤ pos (suc v)) = rw e (omega (arith, ints, h.width, up, down)) in
        at_most n v (c -ℤ f) less

-- ---- products
-- x y less x' y', where x and y' are bounded
products_apart : (X Y a b : ℕ) (x y x' y' : ℤ) → Within X x → Within Y y' → Within a (x -ℤ x') → Within b (y -ℤ y') → (x *ℤ y -ℤ x' *ℤ y') ≤ℤ pos (X * b + Y * a)
products_apart X Y a b x y x' y' h k v w =
    let f = within-mul X b x (y -ℤ y') h w in
    let g = within-mul Y a y' (x -ℤ x') k v in
    let c = first x y y' in
    let d = second x x' y' in
    omega (arith, ints, f.below, g.below, c, d)
  where
    first : (x y z : ℤ) → x *ℤ (y -ℤ z) ≡ x *ℤ y -ℤ x *ℤ z
    first x y z = ring3 int_ring x y z (λ x y z. search int_quotes depth 9) tt

    second : (x y z : ℤ) → z *ℤ (x -ℤ y) ≡ x *ℤ z -ℤ y *ℤ z
    second x y z = ring3 int_ring x y z (λ x y z. search int_quotes depth 9) tt

-- four numbers, from the differences
above_least : (w : ℕ) (t a b c d : ℤ) → (t -ℤ a) ≤ℤ pos w → (t -ℤ b) ≤ℤ pos w → (t -ℤ c) ≤ℤ pos w → (t -ℤ d) ≤ℤ pos w → (t -ℤ least a b c d) ≤ℤ pos w
above_least w t a b c d h k l m = omega (arith, ints, clamps, h, k, l, m)

below_greatest : (w : ℕ) (t a b c d : ℤ) → (a -ℤ t) ≤ℤ pos w → (b -ℤ t) ≤ℤ pos w → (c -ℤ t) ≤ℤ pos w → (d -ℤ t) ≤ℤ pos w → (greatest a b c d -ℤ t) ≤ℤ pos w
below_greatest w t a b c d h k l m = omega (arith, ints, clamps, h, k, l, m)

in_order : (a b c d : ℤ) → least a b c d ≤ℤ greatest a b c d
in_order a b c d = omega (arith, ints, clamps)

-- a number that lies between the ends
record Between (i : Ends) (x : ℤ) : Type 0 where
  low : i.lo ≤ℤ x
  high : x ≤ℤ i.hi

between_apart : {w : ℕ} {i : Ends} {x y : ℤ} → EndsNarrow w i → Between i x → Between i y → Within w (x -ℤ y)
between_apart n h k = record { above = omega (arith, ints, n.width, h.low, k.high); below = omega (arith, ints, n.width, h.high, k.low) }

-- of two intervals at most a and b wide, with ends of at most X and Y in size
pub narrow-times : (X Y : ℕ) {a b : ℕ} {i j : Ends} → EndsWithin X i → EndsWithin Y j → EndsNarrow a i → EndsNarrow b j → EndsNarrow (X * b + Y * a) (times_ends i j)
narrow-times X Y {a} {b} {i} {j} h k v w = record {
  ordered = in_order (i.lo *ℤ j.lo) (i.lo *ℤ j.hi) (i.hi *ℤ j.lo) (i.hi *ℤ j.hi);
  width = below_greatest (X * b + Y * a) (least (i.lo *ℤ j.lo) (i.lo *ℤ j.hi) (i.hi *ℤ j.lo) (i.hi *ℤ j.hi)) (i.lo *ℤ j.lo) (i.lo *ℤ j.hi) (i.hi *ℤ j.lo) (i.hi *ℤ j.hi) (above i.lo j.lo h.lo il jl) (above i.lo j.hi h.lo il jh) (above i.hi j.lo h.hi ih jl) (above i.hi j.hi h.hi ih jh);
}
  where
    il : Between i i.lo
    il = record { low = Z.≤-refl i.lo; high = v.ordered }

    ih : Between i i.hi
    ih = record { low = v.ordered; high = Z.≤-refl i.hi }

    jl : Between j j.lo
    jl = record { low = Z.≤-refl j.lo; high = w.ordered }

    jh : Between j j.hi
    jh = record { low = w.ordered; high = Z.≤-refl j.hi }

    apart : (x y x' y' : ℤ) → Within X x → Within Y y' → Between i x → Between j y → Between i x' → Between j y' → (x *ℤ y -ℤ x' *ℤ y') ≤ℤ pos (X * b + Y * a)
    apart x y x' y' p q c d e f = products_apart X Y a b x y x' y' p q (between_apart v c e) (between_apart w d f)

    above : (x y : ℤ) → Within X x → Between i x → Between j y → (x *ℤ y -ℤ least (i.lo *ℤ j.lo) (i.lo *ℤ j.hi) (i.hi *ℤ j.lo) (i.hi *ℤ j.hi)) ≤ℤ pos (X * b + Y * a)
    above x y p c d = above_least (X * b + Y * a) (x *ℤ y) (i.lo *ℤ j.lo) (i.lo *ℤ j.hi) (i.hi *ℤ j.lo) (i.hi *ℤ j.hi)
        (apart x y i.lo j.lo p k.lo c d il jl) (apart x y i.lo j.hi p k.hi c d il jh) (apart x y i.hi j.lo p k.lo c d ih jl) (apart x y i.hi j.hi p k.hi c d ih jh)

-- ---- boxes
pub narrow-box : {v w : ℕ} {b : BoxEnds} → v ≤ w → BoxEndsNarrow v b → BoxEndsNarrow w b
narrow-box h k = record { re = narrow-wider h k.re; im = narrow-wider h k.im }

pub narrow-zero_box : (w : ℕ) → BoxEndsNarrow w zero_box
narrow-zero_box w = narrow-box (omega arith) (record { re = narrow-point (pos 0); im = narrow-point (pos 0) })

pub narrow-add_box : {v w : ℕ} {b c : BoxEnds} → BoxEndsNarrow v b → BoxEndsNarrow w c → BoxEndsNarrow (v + w) (add_box b c)
narrow-add_box h k = record { re = narrow-add h.re k.re; im = narrow-add h.im k.im }

pub narrow-neg_box : {w : ℕ} {b : BoxEnds} → BoxEndsNarrow w b → BoxEndsNarrow w (neg_box b)
narrow-neg_box h = record { re = narrow-neg h.re; im = narrow-neg h.im }

pub narrow-scale_box : (n : ℕ) {w : ℕ} {b : BoxEnds} → BoxEndsNarrow w b → BoxEndsNarrow (n * w) (scale_box b (pos n))
narrow-scale_box n h = record { re = narrow-scale (pos n) h.re; im = narrow-scale (pos n) h.im }

pub narrow-quot_box : (n : ℕ) {w v : ℕ} {b : BoxEnds} → 0 < n → BoxEndsNarrow w b → w + 2 * (n - 1) < n * suc v → BoxEndsNarrow v (quot_box b (pos n))
narrow-quot_box n p h enough = record { re = narrow-quot n p h.re enough; im = narrow-quot n p h.im enough }

-- a product with a Gaussian integer whose parts are at most x and y in size
narrow-scaled : {x : ℕ} {k : ℤ} {i : Ends} {w : ℕ} → Within x k → EndsNarrow w i → EndsNarrow (x * w) (scale_ends i k)
narrow-scaled {x} {k} {i} {w} h n = narrow-wider (mul-le-mul_right w (unsigned_abs-within x k h)) (narrow-scale k n)

pub narrow-gscale_box : (x y : ℕ) {w : ℕ} {b : BoxEnds} {g : Gaussian} → Within x g.re → Within y g.im → BoxEndsNarrow w b → BoxEndsNarrow ((x + y) * w) (gscale_box b g)
narrow-gscale_box x y {w} h k n = record {
  re = narrow-wider (omega arith) (narrow-sub (narrow-scaled h n.re) (narrow-scaled k n.im));
  im = narrow-wider (omega arith) (narrow-add (narrow-scaled k n.re) (narrow-scaled h n.im));
}

-- a factor g/d of at most 1 widens by no more than the rounding
pub narrow-gquot_box : (x y d : ℕ) {w : ℕ} {b : BoxEnds} {g : Gaussian} → 0 < d → x + y ≤ d → Within x g.re → Within y g.im → BoxEndsNarrow w b → BoxEndsNarrow (suc w) (gquot_box b g (pos d))
narrow-gquot_box x y d {w} {b} {g} p l h k n = narrow-quot_box d p (narrow-gscale_box x y h k n) (enough (mul-le-mul_right w l))
  where
    enough : (x + y) * w ≤ d * w → (x + y) * w + 2 * (d - 1) < d * suc (suc w)
    enough l = omega (arith, l, p)
