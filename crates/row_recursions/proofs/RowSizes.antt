-- How large the ends of rows grow: a factor of at most 1 enlarges no end, and a quotient by d of what is at most d n is at most n.
use Rattle.std.proofs.Common.{◌≡◌, sym, ap, subst, ℕ, zero, suc, ◌+◌, ◌-◌, ◌*◌, ◌^◌, ◌≤◌, ◌<◌, arith, ℤ, pos, neg_ℤ, ◌+ℤ◌, ◌-ℤ◌, ◌*ℤ◌, ◌≤ℤ◌}
use mathlib.Core.Logic.{⊎_elim}
use Rattle.std.proofs.Math.Nat.{mul-le-mul_left, mul-le-mul_right}
use Rattle.std.proofs.Math.Pow.{pow_mono}
use Rattle.std.proofs.lemmas.Int.{ints}
use Rattle.std.specs.Prelude.{unsigned_abs}
use Rattle.exact_math.specs.Ends.{Ends, BoxEnds, EndsWithin, BoxEndsWithin, add_box, scale_box, gscale_box, quot_ends, quot_box, gquot_box, scale_ends}
use Rattle.exact_math.specs.Gaussian.{Gaussian, norm_gaussian, conj, scale_gaussian}
use Rattle.exact_math.specs.Sizes.{abs_gaussian}
use Rattle.exact_math.specs.Within.{Within, GaussianWithin, GaussianBeyond}
use Rattle.exact_math.proofs.Ring.{int_ring}
use Rattle.exact_math.proofs.RingTactic.{int_quotes, ring2}
use Rattle.exact_math.proofs.GaussianSizes.{norm_count, norm_count-is}
use Rattle.exact_math.proofs.Integers.{square_nonneg}
use Rattle.exact_math.proofs.WholeSizes.{within-mul, within-neg, within-floor, within-ceil, within-size}
use Rattle.fixed_interval.proofs.Sizes.{ends_wider, add_within, sub_within, scale_within}
use Rattle.complex_box.proofs.Sizes.{box_wider, add_box_within, neg_box_within, scale_box_within, zero_within}
use Rattle.row_recursions.specs.Rows.{RowsAdd, units_box, units_over, ratio_box, source_moment, up_round, shifted_up, far_source, down_round, shifted_down, local_round, local_value, multipole_round, multipole_value, powers, far_powers}
use Rattle.row_recursions.specs.Sizes.{RowWithin, MomentSizes, UpSizes, FarSizes, DownSizes, LocalValueSizes, MultipoleValueSizes}

-- ---- boxes
-- a quotient of what is at most d n
ends_quot : (n d : ℕ) (i : Ends) → 1 ≤ d → EndsWithin (n * d) i → EndsWithin n (quot_ends i (pos d))
ends_quot n d i h w = record {
  lo = within-floor n i.lo (pos d) (omega (arith, ints)) (least n d w.lo.above) w.lo.below;
  hi = within-ceil n i.hi (pos d) (omega (arith, ints)) (least n d w.hi.above) w.hi.below;
}
  where
    least : (n d : ℕ) {z : ℤ} → neg_ℤ (pos (n * d)) ≤ℤ z → (neg_ℤ (pos n) *ℤ pos d) ≤ℤ z
    least n d {z} h = subst (λ y. y ≤ℤ z) (turned (pos n) (pos d)) h
      where
        turned : (x y : ℤ) → neg_ℤ (x *ℤ y) ≡ neg_ℤ x *ℤ y
        turned x y = ring2 int_ring x y (λ x y. search int_quotes depth 9) tt

pub box_quot_within : (n d : ℕ) (b : BoxEnds) → 1 ≤ d → BoxEndsWithin (n * d) b → BoxEndsWithin n (quot_box b (pos d))
box_quot_within n d b h w = record { re = ends_quot n d b.re h w.re; im = ends_quot n d b.im h w.im }

-- a product with a Gaussian integer whose parts are at most x and y in size
pub box_gscale_within : (n x y : ℕ) (b : BoxEnds) (g : Gaussian) → Within x g.re → Within y g.im → BoxEndsWithin n b → BoxEndsWithin (n * x + n * y) (gscale_box b g)
box_gscale_within n x y b g v w h = record {
  re = sub_within (n * x) (n * y) (scale_ends b.re g.re) (scale_ends b.im g.im) (scale_within x n g.re b.re v h.re) (scale_within y n g.im b.im w h.im);
  im = ends_wider (n * y + n * x) (n * x + n * y) _ (omega arith) (add_within (n * y) (n * x) (scale_ends b.re g.im) (scale_ends b.im g.re) (scale_within y n g.im b.re w h.re) (scale_within x n g.re b.im v h.im));
}

-- a factor g/d of at most 1 enlarges no end
pub box_gquot_within : (n x y d : ℕ) (b : BoxEnds) (g : Gaussian) → 1 ≤ d → x + y ≤ d → Within x g.re → Within y g.im → BoxEndsWithin n b → BoxEndsWithin n (gquot_box b g (pos d))
box_gquot_within n x y d b g p l v w h = box_quot_within n d (gscale_box b g) p (box_wider (n * x + n * y) (n * d) (gscale_box b g) (spread n x y d l) (box_gscale_within n x y b g v w h))
  where
    spread : (n x y d : ℕ) → x + y ≤ d → n * x + n * y ≤ n * d
    spread n x y d h = let m = mul-le-mul_left n h in omega arith

-- 2^40 a
pub units_within : (a : Gaussian) → BoxEndsWithin (2 ^ 40 * abs_gaussian a) (units_box a)
units_within a = record { re = point (unsigned_abs a.re) (omega arith) (within-size a.re); im = point (unsigned_abs a.im) (omega arith) (within-size a.im) }
  where
    forty : Within (2 ^ 40) (pos (2 ^ 40))
    forty = record { above = omega (arith, ints); below = omega (arith, ints) }

    point : {z : ℤ} (m : ℕ) → m ≤ abs_gaussian a → Within m z → EndsWithin (2 ^ 40 * abs_gaussian a) (record { lo = pos (2 ^ 40) *ℤ z; hi = pos (2 ^ 40) *ℤ z })
    point {z} m h w =
        let p = within-mul (2 ^ 40) m (pos (2 ^ 40)) z forty w in
        ends_wider (2 ^ 40 * m) (2 ^ 40 * abs_gaussian a) _ (mul-le-mul_left (2 ^ 40) h) (record { lo = p; hi = p })

-- over s
pub units_over_within : (b : Gaussian) (s : ℕ) → 1 ≤ s → BoxEndsWithin (2 ^ 40 * abs_gaussian b) (units_over b s)
units_over_within b s h = box_quot_within (2 ^ 40 * abs_gaussian b) s (units_box b) h (box_wider (2 ^ 40 * abs_gaussian b) (2 ^ 40 * abs_gaussian b * s) (units_box b) (more (2 ^ 40 * abs_gaussian b) s h) (units_within b))
  where
    more : (n s : ℕ) → 1 ≤ s → n ≤ n * s
    more n s h = let m = mul-le-mul_left n h in omega arith

-- ---- moments
module _ (s : ℕ) (o : Gaussian) (s≥1 : 1 ≤ s) (near : GaussianWithin s o) where
  pub pole_moment_within : (a : Gaussian) (k : ℕ) → BoxEndsWithin (2 ^ 40 * abs_gaussian a) (powers (units_box a) o (2 * s) k)
  unfolding powers
  pole_moment_within a zero = units_within a
  pole_moment_within a (suc k) = box_gquot_within (2 ^ 40 * abs_gaussian a) s s (2 * s) (powers (units_box a) o (2 * s) k) o (omega arith) (omega arith) near.re near.im (pole_moment_within a k)

  pub dipole_moment_within : (b : Gaussian) (k : ℕ) → BoxEndsWithin (2 ^ 40 * abs_gaussian b) (powers (units_over b s) o (2 * s) k)
  unfolding powers
  dipole_moment_within b zero = units_over_within b s s≥1
  dipole_moment_within b (suc k) = box_gquot_within (2 ^ 40 * abs_gaussian b) s s (2 * s) (powers (units_over b s) o (2 * s) k) o (omega arith) (omega arith) near.re near.im (dipole_moment_within b k)

pub number_within : (k : ℕ) → Within k (pos k)
number_within k = record { above = omega (arith, ints); below = omega (arith, ints) }

gathered : (u a k b : ℕ) → u * a + u * b * k ≡ u * (a + k * b)
gathered u a k b = omega arith

pub source_moment_within : MomentSizes
unfolding source_moment powers
source_moment_within s a b o zero h near = box_wider (2 ^ 40 * abs_gaussian a) (2 ^ 40 * (abs_gaussian a + 0 * abs_gaussian b)) (powers (units_box a) o (2 * s) zero) (omega arith) (pole_moment_within s o h near a zero)
source_moment_within s a b o (suc k) h near = subst (λ n. BoxEndsWithin n (source_moment s a b o (suc k))) (gathered (2 ^ 40) (abs_gaussian a) (suc k) (abs_gaussian b))
    (add_box_within (2 ^ 40 * abs_gaussian a) (2 ^ 40 * abs_gaussian b * suc k) (powers (units_box a) o (2 * s) (suc k)) (scale_box (powers (units_over b s) o (2 * s) k) (pos (suc k))) (pole_moment_within s o h near a (suc k))
    (scale_box_within (suc k) (2 ^ 40 * abs_gaussian b) (pos (suc k)) (powers (units_over b s) o (2 * s) k) (number_within (suc k)) (dipole_moment_within s o h near b k)))

-- ---- shifts
module _ (P n : ℕ) (q : Gaussian) (m : ℕ → BoxEnds) (unit : GaussianWithin 1 q) (bounded : RowWithin P n m) where
  pub up_round_within : (r i : ℕ) → r + i < P → BoxEndsWithin n (up_round m q r i)
  unfolding up_round
  up_round_within zero i h = bounded i (omega arith)
  up_round_within (suc r) i h = box_quot_within n 4 _ (omega arith) (box_wider (n * 2 + (n * 1 + n * 1)) (n * 4) _ (omega arith)
      (add_box_within (n * 2) (n * 1 + n * 1) (scale_box (up_round m q r (suc i)) (pos 2)) (gscale_box (up_round m q r i) q)
      (scale_box_within 2 n (pos 2) (up_round m q r (suc i)) (number_within 2) (up_round_within r (suc i) (omega arith)))
      (box_gscale_within n 1 1 (up_round m q r i) q unit.re unit.im (up_round_within r i (omega arith)))))

  pub down_round_within : (r k : ℕ) → r ≤ P → BoxEndsWithin (2 * n) (down_round P m q r k)
  unfolding down_round
  down_round_within zero k h = zero_within (2 * n)
  down_round_within (suc r) zero h = box_wider (n + n) (2 * n) _ (omega arith) (add_box_within n n (m (P - suc r)) (quot_box (gscale_box (down_round P m q r zero) q) (pos 4)) (bounded (P - suc r) (omega arith))
      (box_quot_within n 4 (gscale_box (down_round P m q r zero) q) (omega arith)
      (box_wider (2 * n * 1 + 2 * n * 1) (n * 4) _ (omega arith) (box_gscale_within (2 * n) 1 1 (down_round P m q r zero) q unit.re unit.im (down_round_within r zero (omega arith))))))
  down_round_within (suc r) (suc k) h = box_quot_within (2 * n) 4 _ (omega arith) (box_wider (2 * n * 1 + 2 * n * 1 + 2 * n * 2) (2 * n * 4) _ (omega arith)
      (add_box_within (2 * n * 1 + 2 * n * 1) (2 * n * 2) (gscale_box (down_round P m q r (suc k)) q) (scale_box (down_round P m q r k) (pos 2))
      (box_gscale_within (2 * n) 1 1 (down_round P m q r (suc k)) q unit.re unit.im (down_round_within r (suc k) (omega arith)))
      (scale_box_within 2 (2 * n) (pos 2) (down_round P m q r k) (number_within 2) (down_round_within r k (omega arith)))))

pub shifted_up_within : UpSizes
unfolding shifted_up
shifted_up_within P n q m unit bounded k h = up_round_within P n q m unit bounded k 0 (omega arith)

pub shifted_down_within : DownSizes
unfolding shifted_down
shifted_down_within P n q m unit bounded k h = box_quot_within n 2 (down_round P m q P k) (omega arith) (box_wider (2 * n) (n * 2) _ (omega arith) (down_round_within P n q m unit bounded P k (omega arith)))

-- ---- a factor 2 s/g, where a part of g is at least 3 s in size
-- twice a product is at most the sum of the squares
pub two_products : (s r : ℕ) → 2 * (s * r) ≤ s * s + r * r
two_products s r = let h = subst (λ z. pos 0 ≤ℤ z) (expand (pos r) (pos s)) (square_nonneg (pos r -ℤ pos s)) in omega (arith, ints)
  where
    expand : (x y : ℤ) → (x -ℤ y) *ℤ (x -ℤ y) ≡ x *ℤ x +ℤ y *ℤ y -ℤ pos 2 *ℤ (y *ℤ x)
    expand x y = ring2 int_ring x y (λ x y. search int_quotes depth 12) tt

far_first : (s p r : ℕ) → 3 * s ≤ p → 2 * s * p + 2 * s * r ≤ p * p + r * r
far_first s p r h =
    let a = two_products s r in
    let b = mul-le-mul_right p h in
    let c = mul-le-mul_left s h in
    omega arith

pub far_sum : (s : ℕ) (g : Gaussian) → GaussianBeyond (3 * s) g → 2 * s * unsigned_abs g.re + 2 * s * unsigned_abs g.im ≤ norm_count g
far_sum s g h = ⊎_elim
    (λ l. far_first s (unsigned_abs g.re) (unsigned_abs g.im) l)
    (λ l. let m = far_first s (unsigned_abs g.im) (unsigned_abs g.re) l in omega arith) h

pub far_positive : (s : ℕ) (g : Gaussian) → 1 ≤ s → GaussianBeyond (3 * s) g → 1 ≤ norm_count g
far_positive s g h far = ⊎_elim
    (λ l. let a = one s (unsigned_abs g.re) h l in omega arith)
    (λ l. let a = one s (unsigned_abs g.im) h l in omega arith) far
  where
    one : (s p : ℕ) → 1 ≤ s → 3 * s ≤ p → 1 ≤ p * p
    one s p h l = let q : 1 ≤ p = omega arith in let m = mul-le-mul_left p q in omega arith

pub far_norm_positive : (s : ℕ) (g : Gaussian) → 1 ≤ s → GaussianBeyond (3 * s) g → pos 1 ≤ℤ norm_gaussian g
far_norm_positive s g h far = let e = norm_count-is g in let p = far_positive s g h far in omega (arith, ints)

pub ratio_within : (n s : ℕ) (g : Gaussian) (b : BoxEnds) → 1 ≤ s → GaussianBeyond (3 * s) g → BoxEndsWithin n b → BoxEndsWithin n (ratio_box (2 * s) g b)
ratio_within n s g b h far w = subst (λ d. BoxEndsWithin n (gquot_box b (conj (scale_gaussian (2 * s) g)) d)) (norm_count-is g)
    (box_gquot_within n (2 * s * unsigned_abs g.re) (2 * s * unsigned_abs g.im) (norm_count g) b (conj (scale_gaussian (2 * s) g)) (far_positive s g h far) (far_sum s g far)
    (within-mul (2 * s) (unsigned_abs g.re) (pos (2 * s)) g.re (number_within (2 * s)) (within-size g.re))
    (within-neg (within-mul (2 * s) (unsigned_abs g.im) (pos (2 * s)) g.im (number_within (2 * s)) (within-size g.im))) w)

-- and even five sixths of it, so what grows by a part of six is as small again
far_first_less : (s p r : ℕ) → 3 * s ≤ p → 6 * (2 * s * p + 2 * s * r) ≤ 5 * (p * p + r * r)
far_first_less s p r h =
    let a = two_products p (2 * r) in
    let b = mul-le-mul_right p h in
    let c = mul-le-mul_right r h in
    omega arith

far_sum_less : (s : ℕ) (g : Gaussian) → GaussianBeyond (3 * s) g → 6 * (2 * s * unsigned_abs g.re + 2 * s * unsigned_abs g.im) ≤ 5 * norm_count g
far_sum_less s g h = ⊎_elim
    (λ l. far_first_less s (unsigned_abs g.re) (unsigned_abs g.im) l)
    (λ l. let m = far_first_less s (unsigned_abs g.im) (unsigned_abs g.re) l in omega arith) h

pub ratio_shrinks : (n s : ℕ) (g : Gaussian) (b : BoxEnds) → 1 ≤ s → GaussianBeyond (3 * s) g → BoxEndsWithin (6 * n) b → BoxEndsWithin (5 * n) (ratio_box (2 * s) g b)
ratio_shrinks n s g b h far w = subst (λ d. BoxEndsWithin (5 * n) (gquot_box b (conj (scale_gaussian (2 * s) g)) d)) (norm_count-is g)
    (box_quot_within (5 * n) (norm_count g) (gscale_box b (conj (scale_gaussian (2 * s) g))) (far_positive s g h far)
    (box_wider (6 * n * x + 6 * n * y) (5 * n * norm_count g) _ (spread n x y (norm_count g) (far_sum_less s g far))
    (box_gscale_within (6 * n) x y b (conj (scale_gaussian (2 * s) g))
    (within-mul (2 * s) (unsigned_abs g.re) (pos (2 * s)) g.re (number_within (2 * s)) (within-size g.re))
    (within-neg (within-mul (2 * s) (unsigned_abs g.im) (pos (2 * s)) g.im (number_within (2 * s)) (within-size g.im))) w)))
  where
    x : ℕ
    x = 2 * s * unsigned_abs g.re

    y : ℕ
    y = 2 * s * unsigned_abs g.im

    spread : (n x y d : ℕ) → 6 * (x + y) ≤ 5 * d → 6 * n * x + 6 * n * y ≤ 5 * n * d
    spread n x y d h = let m = mul-le-mul_left n h in omega arith

module _ (s : ℕ) (zeta : Gaussian) (s≥1 : 1 ≤ s) (far : GaussianBeyond (3 * s) zeta) where
  pub far_pole_within : (a : Gaussian) (l : ℕ) → BoxEndsWithin (2 ^ 40 * abs_gaussian a) (far_powers (units_box a) (2 * s) zeta (suc l))
  unfolding far_powers
  far_pole_within a zero = ratio_within (2 ^ 40 * abs_gaussian a) s zeta (units_box a) s≥1 far (units_within a)
  far_pole_within a (suc l) = ratio_within (2 ^ 40 * abs_gaussian a) s zeta (far_powers (units_box a) (2 * s) zeta (suc l)) s≥1 far (far_pole_within a l)

  pub far_dipole_within : (b : Gaussian) (l : ℕ) → BoxEndsWithin (2 ^ 40 * abs_gaussian b) (far_powers (units_over b s) (2 * s) zeta (suc l))
  unfolding far_powers
  far_dipole_within b zero = ratio_within (2 ^ 40 * abs_gaussian b) s zeta (units_over b s) s≥1 far (units_over_within b s s≥1)
  far_dipole_within b (suc l) = ratio_within (2 ^ 40 * abs_gaussian b) s zeta (far_powers (units_over b s) (2 * s) zeta (suc l)) s≥1 far (far_dipole_within b l)

  pub multipole_round_within : (P n : ℕ) (m : ℕ → BoxEnds) → RowWithin P n m → (k : ℕ) → k ≤ P → BoxEndsWithin (k * n) (multipole_round P m s zeta k)
  unfolding multipole_round
  multipole_round_within P n m bounded zero h = zero_within (0 * n)
  multipole_round_within P n m bounded (suc k) h = ratio_within (suc k * n) s zeta (add_box (multipole_round P m s zeta k) (m (P - suc k))) s≥1 far
      (box_wider (k * n + n) (suc k * n) _ (omega arith) (add_box_within (k * n) n (multipole_round P m s zeta k) (m (P - suc k)) (multipole_round_within P n m bounded k (omega arith)) (bounded (P - suc k) (omega arith))))

  -- the same without the number of steps: each adds one box, and its factor leaves five of six
  pub multipole_round_bounded : (P n : ℕ) (m : ℕ → BoxEnds) → RowWithin P n m → (k : ℕ) → k ≤ P → BoxEndsWithin (5 * n) (multipole_round P m s zeta k)
  unfolding multipole_round
  multipole_round_bounded P n m bounded zero h = zero_within (5 * n)
  multipole_round_bounded P n m bounded (suc k) h = ratio_shrinks n s zeta (add_box (multipole_round P m s zeta k) (m (P - suc k))) s≥1 far
      (box_wider (5 * n + n) (6 * n) _ (omega arith) (add_box_within (5 * n) n (multipole_round P m s zeta k) (m (P - suc k)) (multipole_round_bounded P n m bounded k (omega arith)) (bounded (P - suc k) (omega arith))))

pub far_source_within : FarSizes
unfolding far_source
far_source_within s a b zeta l h far = subst (λ n. BoxEndsWithin n (far_source s a b zeta l)) (gathered (2 ^ 40) (abs_gaussian a) (suc l) (abs_gaussian b))
    (add_box_within (2 ^ 40 * abs_gaussian a) (2 ^ 40 * abs_gaussian b * suc l) _ _ (neg_box_within (2 ^ 40 * abs_gaussian a) (far_powers (units_box a) (2 * s) zeta (suc l)) (far_pole_within s zeta h far a l))
    (scale_box_within (suc l) (2 ^ 40 * abs_gaussian b) (pos (suc l)) (far_powers (units_over b s) (2 * s) zeta (suc (suc l))) (number_within (suc l)) (far_dipole_within s zeta h far b (suc l))))

-- ---- values
over_side : (s n : ℕ) (b : BoxEnds) → 1 ≤ s → BoxEndsWithin n b → BoxEndsWithin n (quot_box b (pos s))
over_side s n b h w = box_quot_within n s b h (box_wider n (n * s) b (more n s h) w)
  where
    more : (n s : ℕ) → 1 ≤ s → n ≤ n * s
    more n s h = let m = mul-le-mul_left n h in omega arith

pub multipole_value_within : MultipoleValueSizes
unfolding multipole_value
multipole_value_within P n s zeta m h far bounded = over_side s (P * n) (multipole_round P m s zeta P) h (multipole_round_within s zeta h far P n m bounded P (omega arith))

pub local_round_within : (P n s : ℕ) (o : Gaussian) (m : ℕ → BoxEnds) → 1 ≤ s → GaussianWithin s o → RowWithin P n m → (k : ℕ) → k ≤ P → BoxEndsWithin (k * n) (local_round P m s o k)
unfolding local_round
local_round_within P n s o m h near bounded zero l = zero_within (0 * n)
local_round_within P n s o m h near bounded (suc k) l = box_wider (k * n + n) (suc k * n) _ (omega arith)
    (add_box_within (k * n) n (gquot_box (local_round P m s o k) o (pos (2 * s))) (m (P - suc k))
    (box_gquot_within (k * n) s s (2 * s) (local_round P m s o k) o (omega arith) (omega arith) near.re near.im (local_round_within P n s o m h near bounded k (omega arith))) (bounded (P - suc k) (omega arith)))

pub local_value_within : LocalValueSizes
unfolding local_value
local_value_within P n s o m h near bounded = over_side s (P * n) (local_round P m s o P) h (local_round_within P n s o m h near bounded P (omega arith))

-- ---- sums of rows
pub added_within : (P m n : ℕ) (old part new : ℕ → BoxEnds) → RowsAdd P old part new → RowWithin P m old → RowWithin P n part → RowWithin P (m + n) new
added_within P m n old part new adds v w k h = subst (BoxEndsWithin (m + n)) (sym (adds k h)) (add_box_within m n (old k) (part k) (v k h) (w k h))

-- what is left of a row
left_within : (m n : ℕ) {x y z : ℤ} → z ≡ x +ℤ y → Within m z → Within n y → Within (m + n) x
left_within m n e v w = record { above = omega (arith, ints); below = omega (arith, ints) }

pub taken_within : (P m n : ℕ) (old part new : ℕ → BoxEnds) → RowsAdd P new part old → RowWithin P m old → RowWithin P n part → RowWithin P (m + n) new
taken_within P m n old part new adds v w k h =
    let e = adds k h in
    let a = v k h in
    let b = w k h in
    record {
      re = record { lo = left_within m n (ap (λ (x : BoxEnds). x.re.lo) e) a.re.lo b.re.lo; hi = left_within m n (ap (λ (x : BoxEnds). x.re.hi) e) a.re.hi b.re.hi };
      im = record { lo = left_within m n (ap (λ (x : BoxEnds). x.im.lo) e) a.im.lo b.im.lo; hi = left_within m n (ap (λ (x : BoxEnds). x.im.hi) e) a.im.hi b.im.hi };
    }

-- ---- powers of two
pub power_positive : (n : ℕ) → 1 ≤ 2 ^ n
power_positive n = pow_mono {i = 0} {j = n} (omega arith)
