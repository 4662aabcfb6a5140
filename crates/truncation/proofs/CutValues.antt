-- What the cut terms and the doubled distances stand for.
use Rattle.exact_math.proofs.Common.{◌≡◌, refl, sym, ap, ap₂, subst, subst₂, ◌∙◌, ℕ, suc, arith, ints, ℤ, pos, ◌+ℤ◌, ◌-ℤ◌, ◌*ℤ◌, ◌<ℤ◌, quotes, combine, ring1, ring2, ring3, pow, ℚ, rational_ring, of_int, of_int-add, of_int-mul, of_int-≤, ◌+ℚ◌, ◌*ℚ◌, neg_ℚ, inverse, ◌≤ℚ◌, ◌<ℚ◌, int-<, inverse_right, positive_mul, sum_below, ℂ, complex_rationals, of_int_ℂ, ◌+ℂ◌, ◌*ℂ◌, ◌-ℂ◌, neg_ℂ, inverse_ℂ, *ℂ-inverse, norm, norm-mul, real, parts-add, parts-neg, parts-int}
use Rattle.exact_math.specs.Gaussian.{Gaussian, gaussian, sub_gaussian, norm_gaussian, scale_gaussian, twice}
use Rattle.exact_math.specs.Ratio.{ComplexRatio, neg_complex, ◌*ᶜ◌, reciprocal, invert}
use Rattle.exact_math.proofs.ComplexRationals.{real-mul, inverse_unique}
use Rattle.exact_math.proofs.QuadraticExtension.{same_pair, pow_slope}
use Rattle.exact_math.proofs.TruncatedKernel.{kernel_sum}
use Rattle.exact_math.proofs.KernelSlope.{slope_sum}
use Rattle.exact_math.proofs.Enclosures.{of_int-neg}
use Rattle.exact_math.proofs.GaussianSizes.{absolute_int}
use Rattle.exact_math.proofs.Gaussians.{value, value-sub}
use Rattle.exact_math.proofs.Fractions.{complex_value, complex_value-split, Stands, Stands-whole, Stands-count, Stands-mul, Stands-neg, Stands-pow, Stands-slope, Stands-sum}
use Rattle.exact_math.proofs.WholeSizes.{unsigned_abs-within}
use Rattle.exact_math.proofs.KernelIdentity.{Stands-kernel, Stands-kernel_slope}
use Rattle.exact_math.proofs.DirectTerms.{norm_positive, Stands-reciprocal, Stands-pole, Stands-dipole}
use Rattle.truncation.specs.CutTerms.{halved, pair_pole_cut, pair_dipole_cut, multipole_pole_cut, multipole_dipole_cut, local_pole_cut, local_dipole_cut}
use Rattle.exact_math.specs.Within.{GaussianWithin, GaussianBeyond}
use Rattle.truncation.specs.Places.{pair_distance}
use Rattle.truncation.specs.Truncation.{halved_pole_term, halved_dipole_term}
use Rattle.truncation.proofs.Distances.{PartsAtMost, SomePartAtLeast, double}
use Rattle.std.specs.Prelude.{unsigned_abs}
use Rattle.std.proofs.lemmas.Int.{unsigned_abs-mul}
use mathlib.Core.Logic.{inl, inr}
use native.Mathlib.Nat.{mul-le-mul_left}
use Prim.Native.Nat.{◌*◌, ◌≤◌}

-- ---- reciprocals
real_one : real (of_int (pos 1)) ≡ of_int_ℂ (pos 1)
real_one = sym (parts-int (pos 1))

Stands-invert : {x : ComplexRatio} {z : ℂ} → Stands x z → of_int (pos 0) <ℚ norm z → Stands (invert x) (inverse_ℂ z)
Stands-invert {x} {z} h z>0 =
    let D = of_int x.denominator in
    let g = gaussian x.re x.im in
    let D>0 = int-< _ _ h.positive in
    let product : Stands (invert x) (value (gaussian x.denominator (pos 0)) *ℂ inverse_ℂ (value g)) = Stands-mul (Stands-whole (gaussian x.denominator (pos 0))) (Stands-reciprocal g (norm_positive g g>0)) in
    record { positive = product.positive; is = product.is ∙ inverse_unique z _ z>0 one }
  where
    i : ℂ
    i = real (inverse (of_int x.denominator))

    z_is : value (gaussian x.re x.im) *ℂ real (inverse (of_int x.denominator)) ≡ z
    z_is = sym (complex_value-split (gaussian x.re x.im) x.denominator) ∙ h.is

    g_is : z *ℂ value (gaussian x.denominator (pos 0)) ≡ value (gaussian x.re x.im)
    g_is =
        ap (λ w. w *ℂ real (of_int x.denominator)) (sym z_is)
        ∙ turn (value (gaussian x.re x.im)) (real (inverse (of_int x.denominator))) (real (of_int x.denominator)) (real-mul _ _ ∙ ap real (inverse_right _ (int-< _ _ h.positive)) ∙ real_one)
      where
        turn : (g i d : ℂ) → d *ℂ i ≡ of_int_ℂ (pos 1) → g *ℂ i *ℂ d ≡ g
        turn g i d e = combine complex_rationals g e (ring3 complex_rationals g i d (λ g i d. search quotes depth 12) tt)

    g>0 : of_int (pos 0) <ℚ norm (value (gaussian x.re x.im))
    g>0 = subst (λ w. of_int (pos 0) <ℚ norm w) g_is (subst (λ n. of_int (pos 0) <ℚ n) (sym (norm-mul z _)) (positive_mul _ _ z>0 (subst (λ n. of_int (pos 0) <ℚ n) (square (of_int x.denominator)) (positive_mul _ _ (int-< _ _ h.positive) (int-< _ _ h.positive)))))
      where
        square : (d : ℚ) → d *ℚ d ≡ d *ℚ d +ℚ of_int (pos 0) *ℚ of_int (pos 0)
        square d = ring1 rational_ring d (λ d. search quotes depth 12) tt

    one : z *ℂ (value (gaussian x.denominator (pos 0)) *ℂ inverse_ℂ (value (gaussian x.re x.im))) ≡ of_int_ℂ (pos 1)
    one = sym (complex_rationals.mul_assoc _ _ _) ∙ ap (λ w. w *ℂ inverse_ℂ (value (gaussian x.re x.im))) g_is ∙ *ℂ-inverse _ g>0

-- ---- offsets
-- g/2
abbrev pub halved_value : Gaussian → ℂ
halved_value g = complex_value (halved g)

Stands-halved : (g : Gaussian) → Stands (halved g) (halved_value g)
Stands-halved g = record { positive = omega (arith, ints); is = refl }

two_inverse : of_int (pos 2) *ℚ inverse (of_int (pos 2)) ≡ of_int (pos 1)
two_inverse = inverse_right _ (int-< _ _ (omega (arith, ints)))

double_halved : (g : Gaussian) → double (halved_value g) ≡ value g
double_halved g = parts-add _ _ ∙ same_pair rational_ring _ _ (one (of_int g.re) (inverse (of_int (pos 2))) two_inverse) (one (of_int g.im) (inverse (of_int (pos 2))) two_inverse)
  where
    one : (a i : ℚ) → of_int (pos 2) *ℚ i ≡ of_int (pos 1) → a *ℚ i +ℚ a *ℚ i ≡ a
    one a i e = combine rational_ring a e (ring2 rational_ring a i (λ a i. search quotes depth 12) tt)

int_le : (m n : ℕ) → m ≤ n → of_int (pos m) ≤ℚ of_int (pos n)
int_le m n h = (of_int-≤ _ _).1 (omega (arith, ints))

-- an offset within s
pub offset_parts : (g : Gaussian) (s : ℕ) → GaussianWithin s g → PartsAtMost (double (halved_value g)) (of_int (pos s))
offset_parts g s h = subst (λ z. PartsAtMost z (of_int (pos s))) (sym (double_halved g)) (record {
  re = subst (λ q. q ≤ℚ of_int (pos s)) (sym (absolute_int g.re)) (int_le _ _ (unsigned_abs-within s g.re h.re));
  im = subst (λ q. q ≤ℚ of_int (pos s)) (sym (absolute_int g.im)) (int_le _ _ (unsigned_abs-within s g.im h.im));
})

value_parts : (g : Gaussian) (m : ℕ) → GaussianBeyond m g → SomePartAtLeast (value g) (of_int (pos m))
value_parts g m (inl h) = inl (subst (λ q. of_int (pos m) ≤ℚ q) (sym (absolute_int g.re)) (int_le _ _ h))
value_parts g m (inr h) = inr (subst (λ q. of_int (pos m) ≤ℚ q) (sym (absolute_int g.im)) (int_le _ _ h))

times_side_parts : (s : ℕ) (e : Gaussian) → GaussianBeyond 2 e → GaussianBeyond (2 * s) (scale_gaussian s e)
times_side_parts s e (inl h) = inl (one e.re h)
  where
    one : (z : ℤ) → 2 ≤ unsigned_abs z → 2 * s ≤ unsigned_abs (pos s *ℤ z)
    one z h = let e = unsigned_abs-mul (pos s) z in let k = mul-le-mul_left s h in omega arith
times_side_parts s e (inr h) = inr (one e.im h)
  where
    one : (z : ℤ) → 2 ≤ unsigned_abs z → 2 * s ≤ unsigned_abs (pos s *ℤ z)
    one z h = let e = unsigned_abs-mul (pos s) z in let k = mul-le-mul_left s h in omega arith

-- centres 2 sides apart
pub centre_parts : (s : ℕ) (e : Gaussian) → GaussianBeyond 2 e → SomePartAtLeast (value (scale_gaussian s e)) (of_int (pos 2) *ℚ of_int (pos s))
centre_parts s e h = subst (λ m. SomePartAtLeast (value (scale_gaussian s e)) m) (of_int-mul (pos 2) (pos s)) (value_parts (scale_gaussian s e) (2 * s) (times_side_parts s e h))

-- a place beyond 3 sides
pub far_parts : (s : ℕ) (z : Gaussian) → GaussianBeyond (3 * s) z → SomePartAtLeast (double (halved_value z)) (of_int (pos 3) *ℚ of_int (pos s))
far_parts s z h = subst₂ SomePartAtLeast (sym (double_halved z)) (of_int-mul (pos 3) (pos s)) (value_parts z (3 * s) h)

-- ---- the doubled distances
pub pair_distance_is : (s : ℕ) (e o q : Gaussian) → value (pair_distance s e o q) ≡ double (value (scale_gaussian s e) +ℂ halved_value q -ℂ halved_value o)
pair_distance_is s e o q =
    parts_is ∙ ap₂ (λ a b. double (value (scale_gaussian s e)) +ℂ a -ℂ b) (sym (double_halved q)) (sym (double_halved o))
    ∙ ring3 complex_rationals (value (scale_gaussian s e)) (halved_value q) (halved_value o) (λ d v u. search quotes depth 12) tt
  where
    one : (d q o : ℤ) → of_int (d +ℤ d +ℤ q -ℤ o) ≡ of_int d +ℚ of_int d +ℚ of_int q +ℚ neg_ℚ (of_int o)
    one d q o = of_int-add _ _ ∙ ap₂ ◌+ℚ◌ (of_int-add _ _ ∙ ap (λ z. z +ℚ of_int q) (of_int-add d d)) (of_int-neg o)

    parts_is : value (pair_distance s e o q) ≡ double (value (scale_gaussian s e)) +ℂ value q -ℂ value o
    parts_is =
        same_pair rational_ring _ _ (one (pos s *ℤ e.re) q.re o.re) (one (pos s *ℤ e.im) q.im o.im)
        ∙ sym (ap₂ ◌+ℂ◌ (ap (λ z. z +ℂ value q) (parts-add (value (scale_gaussian s e)) (value (scale_gaussian s e))) ∙ parts-add _ (value q)) (parts-neg (value o)) ∙ parts-add _ _)

-- twice w - u
pub single_distance_is : (z o : Gaussian) → value (sub_gaussian z o) ≡ double (halved_value z -ℂ halved_value o)
single_distance_is z o =
    value-sub z o ∙ ap₂ (λ a b. a -ℂ b) (sym (double_halved z)) (sym (double_halved o))
    ∙ ring2 complex_rationals (halved_value z) (halved_value o) (λ w u. search quotes depth 12) tt

value-twice : (g : Gaussian) → value (twice g) ≡ double (value g)
value-twice g = same_pair rational_ring _ _ (of_int-add g.re g.re) (of_int-add g.im g.im) ∙ sym (parts-add _ _)

-- D is twice delta
module _ (D : Gaussian) (delta : ℂ) (is : value D ≡ double delta) (delta>0 : of_int (pos 0) <ℚ norm delta) where
  double_positive : of_int (pos 0) <ℚ norm (value D)
  double_positive = subst (λ n. of_int (pos 0) <ℚ n) (sym (ap norm (is ∙ parts-add delta delta) ∙ four delta.re delta.im)) (positive_mul _ _ (int-< (pos 0) (pos 4) (omega (arith, ints))) delta>0)
    where
      four : (a b : ℚ) → (a +ℚ a) *ℚ (a +ℚ a) +ℚ (b +ℚ b) *ℚ (b +ℚ b) ≡ of_int (pos 4) *ℚ (a *ℚ a +ℚ b *ℚ b)
      four a b = ring2 rational_ring a b (λ a b. search quotes depth 12) tt

  distance_positive : pos 0 <ℤ norm_gaussian D
  distance_positive = norm_positive D double_positive

  -- 1/delta is twice 1/D
  inverse_is : double (inverse_ℂ (value D)) ≡ inverse_ℂ delta
  inverse_is = inverse_unique delta (double (inverse_ℂ (value D))) delta>0 (one (value D) (inverse_ℂ (value D)) is (*ℂ-inverse (value D) double_positive))
    where
      one : (d j : ℂ) → d ≡ double delta → d *ℂ j ≡ of_int_ℂ (pos 1) → delta *ℂ double j ≡ of_int_ℂ (pos 1)
      one d j e f = combine complex_rationals (neg_ℂ j) e (combine complex_rationals (of_int_ℂ (pos 1)) f (ring3 complex_rationals d j delta (λ d j x. search quotes depth 12) tt))

  -- a/delta
  pub Stands-halved_pole : (a : Gaussian) → Stands (halved_pole_term a D) (value a *ℂ inverse_ℂ delta)
  Stands-halved_pole a = subst (Stands (halved_pole_term a D))
      (ap (λ z. z *ℂ inverse_ℂ (value D)) (value-twice a) ∙ ring2 complex_rationals (value a) (inverse_ℂ (value D)) (λ a j. search quotes depth 12) tt ∙ ap (λ z. value a *ℂ z) inverse_is)
      (Stands-pole (twice a) D distance_positive)

  -- b/delta^2
  pub Stands-halved_dipole : (b : Gaussian) → Stands (halved_dipole_term b D) (value b *ℂ (inverse_ℂ delta *ℂ inverse_ℂ delta))
  Stands-halved_dipole b = subst (Stands (halved_dipole_term b D))
      (ap (λ z. z *ℂ (inverse_ℂ (value D) *ℂ inverse_ℂ (value D))) (value-twice (twice b) ∙ ap double (value-twice b))
      ∙ ring2 complex_rationals (value b) (inverse_ℂ (value D)) (λ a j. search quotes depth 12) tt ∙ ap (λ z. value b *ℂ (z *ℂ z)) inverse_is)
      (Stands-dipole (twice (twice b)) D distance_positive)

-- ---- the cut terms
module _ (P s : ℕ) (e o q : Gaussian) (d>0 : of_int (pos 0) <ℚ norm (value (scale_gaussian s e))) where
  abbrev d : ℂ
  d = value (scale_gaussian s e)

  stands_d : Stands (reciprocal (scale_gaussian s e)) (inverse_ℂ d)
  stands_d = Stands-reciprocal (scale_gaussian s e) (norm_positive (scale_gaussian s e) d>0)

  stands_x : Stands (halved o *ᶜ reciprocal (scale_gaussian s e)) (halved_value o *ℂ inverse_ℂ d)
  stands_x = Stands-mul (Stands-halved o) stands_d

  stands_y : Stands (neg_complex (halved q *ᶜ reciprocal (scale_gaussian s e))) (neg_ℂ (halved_value q *ℂ inverse_ℂ d))
  stands_y = Stands-neg (Stands-mul (Stands-halved q) stands_d)

  -- (a/d) T(u/d, -v/d)
  pub Stands-pair_pole_cut : (a : Gaussian) → Stands (pair_pole_cut P s e o q a)
      (value a *ℂ inverse_ℂ (value (scale_gaussian s e)) *ℂ kernel_sum complex_rationals (halved_value o *ℂ inverse_ℂ (value (scale_gaussian s e))) (neg_ℂ (halved_value q *ℂ inverse_ℂ (value (scale_gaussian s e)))) P P)
  Stands-pair_pole_cut a = Stands-mul (Stands-mul (Stands-whole a) stands_d) (Stands-kernel stands_x stands_y P)

  -- (b/d^2) T'(u/d, -v/d)
  pub Stands-pair_dipole_cut : (b : Gaussian) → Stands (pair_dipole_cut P s e o q b)
      (value b *ℂ (inverse_ℂ (value (scale_gaussian s e)) *ℂ inverse_ℂ (value (scale_gaussian s e))) *ℂ slope_sum complex_rationals (halved_value o *ℂ inverse_ℂ (value (scale_gaussian s e))) (neg_ℂ (halved_value q *ℂ inverse_ℂ (value (scale_gaussian s e)))) P P)
  Stands-pair_dipole_cut b = Stands-mul (Stands-mul (Stands-whole b) (Stands-mul stands_d stands_d)) (Stands-kernel_slope stands_x stands_y P)

module _ (P : ℕ) (z o : Gaussian) (z>0 : of_int (pos 0) <ℚ norm (halved_value z)) where
  stands_w : Stands (invert (halved z)) (inverse_ℂ (halved_value z))
  stands_w = Stands-invert (Stands-halved z) z>0

  -- a times the sum of u^k / w^(k + 1)
  pub Stands-multipole_pole_cut : (a : Gaussian) → Stands (multipole_pole_cut P z o a)
      (value a *ℂ sum_below complex_rationals P (λ k. pow complex_rationals (halved_value o) k *ℂ pow complex_rationals (inverse_ℂ (halved_value z)) (suc k)))
  Stands-multipole_pole_cut a = Stands-mul (Stands-whole a) (Stands-sum P (λ k. Stands-mul (Stands-pow (Stands-halved o) k) (Stands-pow stands_w (suc k))))

  -- b times the sum of k u^(k - 1) / w^(k + 1)
  pub Stands-multipole_dipole_cut : (b : Gaussian) → Stands (multipole_dipole_cut P z o b)
      (value b *ℂ sum_below complex_rationals P (λ k. pow_slope complex_rationals (halved_value o) k *ℂ pow complex_rationals (inverse_ℂ (halved_value z)) (suc k)))
  Stands-multipole_dipole_cut b = Stands-mul (Stands-whole b) (Stands-sum P (λ k. Stands-mul (Stands-slope (Stands-halved o) k) (Stands-pow stands_w (suc k))))

  -- -a times the sum of v^l / zeta^(l + 1)
  pub Stands-local_pole_cut : (a : Gaussian) → Stands (local_pole_cut P z o a)
      (neg_ℂ (value a) *ℂ sum_below complex_rationals P (λ l. pow complex_rationals (halved_value o) l *ℂ pow complex_rationals (inverse_ℂ (halved_value z)) (suc l)))
  Stands-local_pole_cut a = Stands-mul (Stands-neg (Stands-whole a)) (Stands-sum P (λ l. Stands-mul (Stands-pow (Stands-halved o) l) (Stands-pow stands_w (suc l))))

  -- b times the sum of (l + 1) v^l / zeta^(l + 2)
  pub Stands-local_dipole_cut : (b : Gaussian) → Stands (local_dipole_cut P z o b)
      (value b *ℂ sum_below complex_rationals P (λ l. of_int_ℂ (pos (suc l)) *ℂ pow complex_rationals (halved_value o) l *ℂ pow complex_rationals (inverse_ℂ (halved_value z)) (suc (suc l))))
  Stands-local_dipole_cut b = Stands-mul (Stands-whole b) (Stands-sum P (λ l. Stands-mul (Stands-mul (Stands-count (suc l)) (Stands-pow (Stands-halved o) l)) (Stands-pow stands_w (suc (suc l)))))
