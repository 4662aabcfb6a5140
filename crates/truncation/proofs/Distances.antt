-- Offsets, distances and ratios: from bounds on parts to bounds on norms.
use Rattle.exact_math.proofs.Common.{◌≡◌, sym, ap, subst, subst₂, ◌∙◌, ℕ, pos, quotes, combine, ring1, ring2, ring3, ring4, ℚ, rational_ring, of_int, ◌+ℚ◌, ◌*ℚ◌, ◌-ℚ◌, neg_ℚ, inverse, ◌≤ℚ◌, ◌<ℚ◌, ≤ℚ-trans, *ℚ-nonneg, not_≤ℚ, <ℚ-from_not, le_equal, le_plus, le_using, add_mono, mul_mono, cancel_mul, nonneg_int, int-<, ≤-from_<, inverse_right, inverse_positive, positive_mul, absolute, absolute_nonneg, ℂ, ◌+ℂ◌, ◌*ℂ◌, ◌-ℂ◌, neg_ℂ, norm, norm-mul, parts-add, parts-neg, arith, ints}
use Rattle.exact_math.proofs.RationalOrder.{square_nonneg, absolute_within, by_absolute, le_absolute, neg_le_absolute}
use Rattle.exact_math.proofs.Fractions.{ratio}
use Rattle.truncation.proofs.Discs.{square_le, product_mono, norm_nonneg}
use mathlib.Core.Logic.{◌⊎◌, inl, inr}
use Prim.Native.Nat.{◌<◌}

-- both parts of z are at most m in size
pub record PartsAtMost (z : ℂ) (m : ℚ) : Type 0 where
  pub re : absolute z.re ≤ℚ m
  pub im : absolute z.im ≤ℚ m

-- a part of z is at least m in size
abbrev pub SomePartAtLeast : ℂ → ℚ → Type 0
SomePartAtLeast z m = (m ≤ℚ absolute z.re) ⊎ (m ≤ℚ absolute z.im)

-- 2 z
abbrev pub double : ℂ → ℂ
double z = z +ℂ z

-- what is at least a positive number is positive
pub positive_above : {a b : ℚ} → of_int (pos 0) <ℚ a → a ≤ℚ b → of_int (pos 0) <ℚ b
positive_above h k = <ℚ-from_not _ _ (λ l. not_≤ℚ _ _ h (≤ℚ-trans _ _ _ k l))

-- ---- norms
-- twice the norm of an offset is at most s^2
pub offset_norm : (u : ℂ) {s : ℚ} → PartsAtMost (double u) s → of_int (pos 2) *ℚ norm u ≤ℚ s *ℚ s
offset_norm u {s} h =
    let a = subst (λ z. absolute z.re ≤ℚ s) (parts-add u u) h.re in
    let b = subst (λ z. absolute z.im ≤ℚ s) (parts-add u u) h.im in
    cancel_mul (of_int (pos 2)) (int-< (pos 0) (pos 2) (omega (arith, ints))) (both u.re u.im s a b)
  where
    both : (p q s : ℚ) → absolute (p +ℚ p) ≤ℚ s → absolute (q +ℚ q) ≤ℚ s → of_int (pos 2) *ℚ (of_int (pos 2) *ℚ (p *ℚ p +ℚ q *ℚ q)) ≤ℚ of_int (pos 2) *ℚ (s *ℚ s)
    both p q s h k = subst₂ (λ a b. a ≤ℚ b)
        (ring2 rational_ring p q (λ p q. search quotes depth 12) tt)
        (ring1 rational_ring s (λ s. search quotes depth 12) tt)
        (add_mono (square_le (p +ℚ p) h) (square_le (q +ℚ q) k))

absolute_square : (p : ℚ) → absolute p *ℚ absolute p ≡ p *ℚ p
absolute_square p = by_absolute (λ z. z *ℚ z ≡ p *ℚ p) p (λ h. ring1 rational_ring p (λ p. search quotes depth 9) tt) (λ h. ring1 rational_ring p (λ p. search quotes depth 9) tt)

-- m^2 is at most the norm
pub part_norm : (z : ℂ) {m : ℚ} → of_int (pos 0) ≤ℚ m → SomePartAtLeast z m → m *ℚ m ≤ℚ norm z
part_norm z {m} low (inl h) = ≤ℚ-trans _ _ _ (product_mono low (absolute_nonneg _) h h)
    (le_plus (z.im *ℚ z.im) (square_nonneg _) (sym (ap (λ q. q +ℚ z.im *ℚ z.im) (absolute_square z.re))))
part_norm z {m} low (inr h) = ≤ℚ-trans _ _ _ (product_mono low (absolute_nonneg _) h h)
    (le_plus (z.re *ℚ z.re) (square_nonneg _) (ring2 rational_ring z.re z.im (λ a b. search quotes depth 9) tt ∙ sym (ap (λ q. q +ℚ z.re *ℚ z.re) (absolute_square z.im))))

-- ---- the places are apart
-- d + v - u is at least s in size
far_pair : (d u v s : ℚ) → of_int (pos 2) *ℚ s ≤ℚ absolute d → absolute (u +ℚ u) ≤ℚ s → absolute (v +ℚ v) ≤ℚ s → s ≤ℚ absolute (d +ℚ v -ℚ u)
far_pair d u v s h u_near v_near =
    by_absolute (λ a. of_int (pos 2) *ℚ s ≤ℚ a → s ≤ℚ absolute (d +ℚ v -ℚ u)) d
    (λ l k. ≤ℚ-trans _ _ _ (above k (absolute_within _ _ v_near).0 (absolute_within _ _ u_near).1) (le_absolute _))
    (λ l k. ≤ℚ-trans _ _ _ (below k (absolute_within _ _ v_near).1 (absolute_within _ _ u_near).0) (neg_le_absolute _)) h
  where
    two : of_int (pos 0) <ℚ of_int (pos 2)
    two = int-< _ _ (omega (arith, ints))

    above : of_int (pos 2) *ℚ s ≤ℚ d → neg_ℚ s ≤ℚ v +ℚ v → u +ℚ u ≤ℚ s → s ≤ℚ d +ℚ v -ℚ u
    above h k l = cancel_mul (of_int (pos 2)) two (le_using (of_int (pos 2)) (nonneg_int 2) h (le_using (of_int (pos 1)) (nonneg_int 1) k (le_using (of_int (pos 1)) (nonneg_int 1) l
        (le_equal (ring4 rational_ring d u v s (λ d u v s. search quotes depth 12) tt)))))

    below : of_int (pos 2) *ℚ s ≤ℚ neg_ℚ d → v +ℚ v ≤ℚ s → neg_ℚ s ≤ℚ u +ℚ u → s ≤ℚ neg_ℚ (d +ℚ v -ℚ u)
    below h k l = cancel_mul (of_int (pos 2)) two (le_using (of_int (pos 2)) (nonneg_int 2) h (le_using (of_int (pos 1)) (nonneg_int 1) k (le_using (of_int (pos 1)) (nonneg_int 1) l
        (le_equal (ring4 rational_ring d u v s (λ d u v s. search quotes depth 12) tt)))))

-- w - u is at least s in size
far_single : (w u s : ℚ) → of_int (pos 3) *ℚ s ≤ℚ absolute (w +ℚ w) → absolute (u +ℚ u) ≤ℚ s → s ≤ℚ absolute (w -ℚ u)
far_single w u s h u_near =
    by_absolute (λ a. of_int (pos 3) *ℚ s ≤ℚ a → s ≤ℚ absolute (w -ℚ u)) (w +ℚ w)
    (λ l k. ≤ℚ-trans _ _ _ (above k (absolute_within _ _ u_near).1) (le_absolute _))
    (λ l k. ≤ℚ-trans _ _ _ (below k (absolute_within _ _ u_near).0) (neg_le_absolute _)) h
  where
    two : of_int (pos 0) <ℚ of_int (pos 2)
    two = int-< _ _ (omega (arith, ints))

    above : of_int (pos 3) *ℚ s ≤ℚ w +ℚ w → u +ℚ u ≤ℚ s → s ≤ℚ w -ℚ u
    above h k = cancel_mul (of_int (pos 2)) two (le_using (of_int (pos 1)) (nonneg_int 1) h (le_using (of_int (pos 1)) (nonneg_int 1) k
        (le_equal (ring3 rational_ring w u s (λ w u s. search quotes depth 12) tt))))

    below : of_int (pos 3) *ℚ s ≤ℚ neg_ℚ (w +ℚ w) → neg_ℚ s ≤ℚ u +ℚ u → s ≤ℚ neg_ℚ (w -ℚ u)
    below h k = cancel_mul (of_int (pos 2)) two (le_using (of_int (pos 1)) (nonneg_int 1) h (le_using (of_int (pos 1)) (nonneg_int 1) k
        (le_equal (ring3 rational_ring w u s (λ w u s. search quotes depth 12) tt))))

module _ {s : ℚ} (u : ℂ) (u_near : PartsAtMost (double u) s) where
  offset_re : absolute (u.re +ℚ u.re) ≤ℚ s
  offset_re = subst (λ z. absolute z.re ≤ℚ s) (parts-add u u) u_near.re

  offset_im : absolute (u.im +ℚ u.im) ≤ℚ s
  offset_im = subst (λ z. absolute z.im ≤ℚ s) (parts-add u u) u_near.im

parts-sub : (z w : ℂ) → ((z -ℂ w).re ≡ z.re -ℚ w.re) × ((z -ℂ w).im ≡ z.im -ℚ w.im)
parts-sub z w =
    (ap (λ a. a.re) (parts-add z (neg_ℂ w)) ∙ ap (λ a. z.re +ℚ a.re) (parts-neg w), ap (λ a. a.im) (parts-add z (neg_ℂ w)) ∙ ap (λ a. z.im +ℚ a.im) (parts-neg w))

-- places whose centres are two sides apart are a side apart
pub places_apart : {s : ℚ} (d u v : ℂ) → SomePartAtLeast d (of_int (pos 2) *ℚ s) → PartsAtMost (double u) s → PartsAtMost (double v) s → SomePartAtLeast (d +ℂ v -ℂ u) s
places_apart {s} d u v (inl h) u_near v_near = inl (subst (λ a. s ≤ℚ absolute a) (sym ((parts-sub (d +ℂ v) u).0 ∙ ap (λ a. a.re -ℚ u.re) (parts-add d v))) (far_pair d.re u.re v.re s h (offset_re u u_near) (offset_re v v_near)))
places_apart {s} d u v (inr h) u_near v_near = inr (subst (λ a. s ≤ℚ absolute a) (sym ((parts-sub (d +ℂ v) u).1 ∙ ap (λ a. a.im -ℚ u.im) (parts-add d v))) (far_pair d.im u.im v.im s h (offset_im u u_near) (offset_im v v_near)))

-- a place beyond three half sides of a centre is a side apart from the cell
pub place_apart : {s : ℚ} (w u : ℂ) → SomePartAtLeast (double w) (of_int (pos 3) *ℚ s) → PartsAtMost (double u) s → SomePartAtLeast (w -ℂ u) s
place_apart {s} w u (inl h) u_near = inl (subst (λ a. s ≤ℚ absolute a) (sym (parts-sub w u).0) (far_single w.re u.re s (subst (λ z. of_int (pos 3) *ℚ s ≤ℚ absolute z.re) (parts-add w w) h) (offset_re u u_near)))
place_apart {s} w u (inr h) u_near = inr (subst (λ a. s ≤ℚ absolute a) (sym (parts-sub w u).1) (far_single w.im u.im s (subst (λ z. of_int (pos 3) *ℚ s ≤ℚ absolute z.im) (parts-add w w) h) (offset_im u u_near)))

-- ---- ratios
-- x d = u, 2 |u|^2 <= s^2 and K s^2 <= L |d|^2, so 2 K |x|^2 <= L
pub ratio_norm : (K L s : ℚ) (u d x : ℂ) → of_int (pos 0) ≤ℚ L → of_int (pos 0) <ℚ s → of_int (pos 2) *ℚ norm u ≤ℚ s *ℚ s → K *ℚ (s *ℚ s) ≤ℚ L *ℚ norm d → x *ℂ d ≡ u
    → of_int (pos 2) *ℚ K *ℚ norm x ≤ℚ L
ratio_norm K L s u d x L≥0 s>0 u_near d_far e =
    let n : norm x *ℚ norm d ≡ norm u = sym (norm-mul x d) ∙ ap norm e in
    cancel_mul (s *ℚ s) (positive_mul s s s>0 s>0) (≤ℚ-trans _ _ _ (le_equal (ring3 rational_ring K s (norm x) (λ K s n. search quotes depth 12) tt))
    (≤ℚ-trans _ _ _ (mul_mono (of_int (pos 2) *ℚ norm x) (*ℚ-nonneg _ _ (nonneg_int 2) (norm_nonneg x)) d_far)
    (≤ℚ-trans _ _ _ (le_equal (turn L (norm x) (norm d) (norm u) n)) (≤ℚ-trans _ _ _ (mul_mono L L≥0 u_near) (le_equal (ring2 rational_ring L s (λ L s. search quotes depth 12) tt))))))
  where
    turn : (L x d u : ℚ) → x *ℚ d ≡ u → of_int (pos 2) *ℚ x *ℚ (L *ℚ d) ≡ L *ℚ (of_int (pos 2) *ℚ u)
    turn L x d u e = combine rational_ring (of_int (pos 2) *ℚ L) e (ring4 rational_ring L x d u (λ L x d u. search quotes depth 12) tt)

-- ---- the four fractions
pub times_ratio : (n m : ℕ) → 0 < m → of_int (pos m) *ℚ ratio (pos n) (pos m) ≡ of_int (pos n)
times_ratio n m h = turn (of_int (pos m)) (of_int (pos n)) (inverse (of_int (pos m))) (inverse_right _ (int-< _ _ (omega (arith, ints))))
  where
    turn : (m n i : ℚ) → m *ℚ i ≡ of_int (pos 1) → m *ℚ (n *ℚ i) ≡ n
    turn m n i e = combine rational_ring n e (ring3 rational_ring m n i (λ m n i. search quotes depth 9) tt)

-- 0 <= n/m
pub ratio_nonneg : (n m : ℕ) → 0 < m → of_int (pos 0) ≤ℚ ratio (pos n) (pos m)
ratio_nonneg n m h = *ℚ-nonneg _ _ (nonneg_int n) (≤-from_< (inverse_positive _ (int-< _ _ (omega (arith, ints)))))

-- 17/48 and 17/31
pub rho_is : (r rho : ℚ) → of_int (pos 48) *ℚ r ≡ of_int (pos 17) → of_int (pos 31) *ℚ rho ≡ of_int (pos 17) → rho *ℚ (of_int (pos 1) -ℚ r) ≡ r
rho_is r rho e f = cancel (combine rational_ring (of_int (pos 1)) f (combine rational_ring (neg_ℚ (rho +ℚ of_int (pos 1))) e (ring2 rational_ring r rho (λ r t. search quotes depth 12) tt)))
  where
    cancel : of_int (pos 48) *ℚ (rho *ℚ (of_int (pos 1) -ℚ r)) ≡ of_int (pos 48) *ℚ r → rho *ℚ (of_int (pos 1) -ℚ r) ≡ r
    cancel h =
        let i = inverse (of_int (pos 48)) in
        let k : of_int (pos 48) *ℚ i ≡ of_int (pos 1) = inverse_right _ (int-< _ _ (omega (arith, ints))) in
        combine rational_ring i h (combine rational_ring (neg_ℚ (rho *ℚ (of_int (pos 1) -ℚ r) -ℚ r)) k (ring3 rational_ring r rho i (λ r t i. search quotes depth 12) tt))

-- 8 n <= 1 gives n <= (17/48)^2
pub pair_ratio : (r n : ℚ) → of_int (pos 48) *ℚ r ≡ of_int (pos 17) → of_int (pos 8) *ℚ n ≤ℚ of_int (pos 1) → n ≤ℚ r *ℚ r
pair_ratio r n e h = cancel_mul (of_int (pos 2304)) (int-< _ _ (omega (arith, ints))) (le_using (of_int (pos 288)) (nonneg_int 288) h (le_plus (of_int (pos 1)) (nonneg_int 1)
    (combine rational_ring (of_int (pos 48) *ℚ r +ℚ of_int (pos 17)) e (ring2 rational_ring r n (λ r n. search quotes depth 12) tt))))

-- 18 n <= 4 gives n <= (17/36)^2
pub single_ratio : (r n : ℚ) → of_int (pos 36) *ℚ r ≡ of_int (pos 17) → of_int (pos 18) *ℚ n ≤ℚ of_int (pos 4) → n ≤ℚ r *ℚ r
single_ratio r n e h = cancel_mul (of_int (pos 1296)) (int-< _ _ (omega (arith, ints))) (le_using (of_int (pos 72)) (nonneg_int 72) h (le_plus (of_int (pos 1)) (nonneg_int 1)
    (combine rational_ring (of_int (pos 36) *ℚ r +ℚ of_int (pos 17)) e (ring2 rational_ring r n (λ r n. search quotes depth 12) tt))))
