-- The truncation bound of one source, in whole numbers.
use Rattle.exact_math.proofs.Common.{◌≡◌, sym, ap, ap₂, subst, ◌∙◌, ℕ, zero, suc, arith, ints, pos, pow, ℚ, rational_ring, of_int, of_int-mul, of_int-≤, ◌*ℚ◌, inverse, ◌≤ℚ◌, ◌<ℚ◌, nonneg_int, ℂ, ◌+ℂ◌, ◌-ℂ◌, norm, size}
use Rattle.exact_math.specs.Gaussian.{Gaussian, zero_gaussian, sub_gaussian, scale_gaussian}
use Rattle.exact_math.specs.Sizes.{abs_gaussian, weight_at}
use Rattle.exact_math.proofs.GaussianSizes.{size_value, weight_at-pole, weight_at-dipole}
use Rattle.exact_math.proofs.Gaussians.{value}
use Rattle.truncation.specs.CutTerms.{pair_pole_cut, pair_dipole_cut, multipole_pole_cut, multipole_dipole_cut, local_pole_cut, local_dipole_cut}
use Rattle.truncation.specs.Places.{pair_distance, PairPlaces, SinglePlaces}
use Rattle.truncation.specs.Tails.{pair_tail, single_tail}
use Rattle.truncation.specs.Truncation.{Truncated, halved_pole_term, halved_dipole_term, PairTruncation, SingleTruncation}
use Rattle.truncation.proofs.Distances.{PartsAtMost, SomePartAtLeast, double, times_ratio}
use Rattle.truncation.proofs.Quotients.{PartsCounted}
use Rattle.truncation.proofs.CutValues.{halved_value, offset_parts, centre_parts, far_parts, pair_distance_is, single_distance_is, Stands-halved_pole, Stands-halved_dipole, Stands-pair_pole_cut, Stands-pair_dipole_cut, Stands-multipole_pole_cut, Stands-multipole_dipole_cut, Stands-local_pole_cut, Stands-local_dipole_cut}
use Rattle.truncation.proofs.Counting.{truncated}
use Rattle.truncation.proofs.Tails.{pair_tail-step, single_tail-step, pair_tail-start, single_tail-start, tail_dominates}
use Rattle.truncation.proofs.PairBound as Pair
use Rattle.truncation.proofs.SingleBound as Single
use Prim.Native.Nat.{◌*◌, ◌^◌, ◌≤◌}

-- 2 2^40 (17/31)^P <= TV(P)
pub pair_tail_dominates : (P : ℕ) → of_int (pos 2) *ℚ of_int (pos (2 ^ 40)) *ℚ pow rational_ring Pair.rho P ≤ℚ of_int (pos (pair_tail P))
pair_tail_dominates P = subst (λ z. z *ℚ pow rational_ring Pair.rho P ≤ℚ of_int (pos (pair_tail P)))
    (ap (λ n. of_int (pos n)) pair_tail-start ∙ of_int-mul (pos 2) (pos (2 ^ 40)))
    (tail_dominates 17 31 (omega arith) Pair.rho (times_ratio 17 31 (omega arith)) pair_tail pair_tail-step P)

-- 2^40 (17/36)^P <= TW(P)
pub single_tail_dominates : (P : ℕ) → of_int (pos (2 ^ 40)) *ℚ pow rational_ring Single.rho P ≤ℚ of_int (pos (single_tail P))
single_tail_dominates P = subst (λ z. z *ℚ pow rational_ring Single.rho P ≤ℚ of_int (pos (single_tail P)))
    (ap (λ n. of_int (pos n)) single_tail-start)
    (tail_dominates 17 36 (omega arith) Single.rho (times_ratio 17 36 (omega arith)) single_tail single_tail-step P)

side_large : (s : ℕ) → 1 ≤ s → of_int (pos 1) ≤ℚ of_int (pos s)
side_large s h = (of_int-≤ _ _).1 (omega (arith, ints))

-- the bounds, with the weight and the tail as one whole number
pole_total : (P : ℕ) (a : Gaussian) (t : ℕ) (i : ℚ) → size (value a) *ℚ of_int (pos t) *ℚ i ≡ of_int (pos (weight_at P a zero_gaussian * t)) *ℚ i
pole_total P a t i = ap (λ z. z *ℚ i)
    (ap (λ z. z *ℚ of_int (pos t)) (size_value a) ∙ sym (of_int-mul (pos (abs_gaussian a)) (pos t))
    ∙ ap (λ w. of_int (pos (w * t))) (sym (weight_at-pole P a)))

dipole_total : (P : ℕ) (b : Gaussian) (t : ℕ) (i : ℚ) → of_int (pos 2) *ℚ of_int (pos P) *ℚ size (value b) *ℚ of_int (pos t) *ℚ i ≡ of_int (pos (weight_at P zero_gaussian b * t)) *ℚ i
dipole_total P b t i = ap (λ z. z *ℚ i)
    (ap₂ (λ p z. p *ℚ z *ℚ of_int (pos t)) (sym (of_int-mul (pos 2) (pos P))) (size_value b)
    ∙ ap (λ z. z *ℚ of_int (pos t)) (sym (of_int-mul (pos (2 * P)) (pos (abs_gaussian b)))) ∙ sym (of_int-mul (pos (2 * P * abs_gaussian b)) (pos t))
    ∙ ap (λ w. of_int (pos (w * t))) (sym (weight_at-dipole P b)))

recount : {c : ℚ} {z : ℂ} {m n : ℚ} → m ≡ n → PartsCounted c z m → PartsCounted c z n
recount {c} {z} e h = subst (λ m. PartsCounted c z m) e h

-- ---- two cells of one side
module _ (s : ℕ) (e o q : Gaussian) (h : PairPlaces s e o q) where
  large : of_int (pos 1) ≤ℚ of_int (pos s)
  large = side_large s h.side

  centres_apart : SomePartAtLeast (value (scale_gaussian s e)) (of_int (pos 2) *ℚ of_int (pos s))
  centres_apart = centre_parts s e h.apart

  source_near : PartsAtMost (double (halved_value o)) (of_int (pos s))
  source_near = offset_parts o s h.source

  target_near : PartsAtMost (double (halved_value q)) (of_int (pos s))
  target_near = offset_parts q s h.target

  centres_positive : of_int (pos 0) <ℚ norm (value (scale_gaussian s e))
  centres_positive = Pair.centre_positive (of_int (pos s)) large (value (scale_gaussian s e)) (halved_value o) (halved_value q) centres_apart source_near target_near

  pair_positive : of_int (pos 0) <ℚ norm (value (scale_gaussian s e) +ℂ halved_value q -ℂ halved_value o)
  pair_positive = Pair.delta_positive (of_int (pos s)) large (value (scale_gaussian s e)) (halved_value o) (halved_value q) centres_apart source_near target_near

  pair_pole : (P : ℕ) → 1 ≤ P → (a : Gaussian) → Truncated (halved_pole_term a (pair_distance s e o q)) (pair_pole_cut P s e o q a) (weight_at P a zero_gaussian * pair_tail P) s
  pair_pole zero k a = absurd (omega arith)
  pair_pole (suc p) k a = truncated (weight_at (suc p) a zero_gaussian * pair_tail (suc p)) s h.side
      (Stands-halved_pole (pair_distance s e o q) _ (pair_distance_is s e o q) pair_positive a) (Stands-pair_pole_cut (suc p) s e o q centres_positive a)
      (recount (pole_total (suc p) a (pair_tail (suc p)) (inverse (of_int (pos s))))
      (Pair.pole_bound (of_int (pos s)) large (value (scale_gaussian s e)) (halved_value o) (halved_value q) centres_apart source_near target_near p (of_int (pos (2 ^ 40))) (of_int (pos (pair_tail (suc p)))) (nonneg_int (2 ^ 40)) (pair_tail_dominates (suc p)) (value a)))

  pair_dipole : (P : ℕ) → 1 ≤ P → (b : Gaussian) → Truncated (halved_dipole_term b (pair_distance s e o q)) (pair_dipole_cut P s e o q b) (weight_at P zero_gaussian b * pair_tail P) s
  pair_dipole zero k b = absurd (omega arith)
  pair_dipole (suc p) k b = truncated (weight_at (suc p) zero_gaussian b * pair_tail (suc p)) s h.side
      (Stands-halved_dipole (pair_distance s e o q) _ (pair_distance_is s e o q) pair_positive b) (Stands-pair_dipole_cut (suc p) s e o q centres_positive b)
      (recount (dipole_total (suc p) b (pair_tail (suc p)) (inverse (of_int (pos s))))
      (Pair.dipole_bound (of_int (pos s)) large (value (scale_gaussian s e)) (halved_value o) (halved_value q) centres_apart source_near target_near p (of_int (pos (2 ^ 40))) (of_int (pos (pair_tail (suc p)))) (nonneg_int (2 ^ 40)) (pair_tail_dominates (suc p)) (value b)))

-- ---- a cell and a far place
module _ (s : ℕ) (z o : Gaussian) (h : SinglePlaces s z o) where
  single_large : of_int (pos 1) ≤ℚ of_int (pos s)
  single_large = side_large s h.side

  far : SomePartAtLeast (double (halved_value z)) (of_int (pos 3) *ℚ of_int (pos s))
  far = far_parts s z h.far

  near : PartsAtMost (double (halved_value o)) (of_int (pos s))
  near = offset_parts o s h.near

  far_positive : of_int (pos 0) <ℚ norm (halved_value z)
  far_positive = Single.far_positive (of_int (pos s)) single_large (halved_value z) (halved_value o) far near

  out_positive : of_int (pos 0) <ℚ norm (halved_value z -ℂ halved_value o)
  out_positive = Single.delta_positive (of_int (pos s)) single_large (halved_value z) (halved_value o) far near

  in_positive : of_int (pos 0) <ℚ norm (halved_value o -ℂ halved_value z)
  in_positive = Single.turned_positive (of_int (pos s)) single_large (halved_value z) (halved_value o) far near

  multipole_pole : (P : ℕ) (a : Gaussian) → Truncated (halved_pole_term a (sub_gaussian z o)) (multipole_pole_cut P z o a) (weight_at P a zero_gaussian * single_tail P) s
  multipole_pole P a = truncated (weight_at P a zero_gaussian * single_tail P) s h.side
      (Stands-halved_pole (sub_gaussian z o) _ (single_distance_is z o) out_positive a) (Stands-multipole_pole_cut P z o far_positive a)
      (recount (pole_total P a (single_tail P) (inverse (of_int (pos s))))
      (Single.pole_bound (of_int (pos s)) single_large (halved_value z) (halved_value o) far near P (of_int (pos (2 ^ 40))) (of_int (pos (single_tail P))) (nonneg_int (2 ^ 40)) (single_tail_dominates P) (value a)))

  multipole_dipole : (P : ℕ) → 2 ≤ P → (b : Gaussian) → Truncated (halved_dipole_term b (sub_gaussian z o)) (multipole_dipole_cut P z o b) (weight_at P zero_gaussian b * single_tail P) s
  multipole_dipole P k b = truncated (weight_at P zero_gaussian b * single_tail P) s h.side
      (Stands-halved_dipole (sub_gaussian z o) _ (single_distance_is z o) out_positive b) (Stands-multipole_dipole_cut P z o far_positive b)
      (recount (dipole_total P b (single_tail P) (inverse (of_int (pos s))))
      (Single.dipole_bound (of_int (pos s)) single_large (halved_value z) (halved_value o) far near P (of_int (pos (2 ^ 40))) (of_int (pos (single_tail P))) (nonneg_int (2 ^ 40)) (single_tail_dominates P) k (value b)))

  local_pole : (P : ℕ) (a : Gaussian) → Truncated (halved_pole_term a (sub_gaussian o z)) (local_pole_cut P z o a) (weight_at P a zero_gaussian * single_tail P) s
  local_pole P a = truncated (weight_at P a zero_gaussian * single_tail P) s h.side
      (Stands-halved_pole (sub_gaussian o z) _ (single_distance_is o z) in_positive a) (Stands-local_pole_cut P z o far_positive a)
      (recount (pole_total P a (single_tail P) (inverse (of_int (pos s))))
      (Single.turned_pole_bound (of_int (pos s)) single_large (halved_value z) (halved_value o) far near P (of_int (pos (2 ^ 40))) (of_int (pos (single_tail P))) (nonneg_int (2 ^ 40)) (single_tail_dominates P) (value a)))

  local_dipole : (P : ℕ) → 1 ≤ P → (b : Gaussian) → Truncated (halved_dipole_term b (sub_gaussian o z)) (local_dipole_cut P z o b) (weight_at P zero_gaussian b * single_tail P) s
  local_dipole P k b = truncated (weight_at P zero_gaussian b * single_tail P) s h.side
      (Stands-halved_dipole (sub_gaussian o z) _ (single_distance_is o z) in_positive b) (Stands-local_dipole_cut P z o far_positive b)
      (recount (dipole_total P b (single_tail P) (inverse (of_int (pos s))))
      (Single.turned_dipole_bound (of_int (pos s)) single_large (halved_value z) (halved_value o) far near P (of_int (pos (2 ^ 40))) (of_int (pos (single_tail P))) (nonneg_int (2 ^ 40)) (single_tail_dominates P) k (value b)))

-- two cells of one side
pub pair_truncation : PairTruncation
pair_truncation P h = record {
  pole = λ s e o q a k. pair_pole s e o q k P h a;
  dipole = λ s e o q b k. pair_dipole s e o q k P h b;
}

-- a cell and a far place
pub single_truncation : SingleTruncation
single_truncation P h = record {
  multipole_pole = λ s z o a k. multipole_pole s z o k P a;
  multipole_dipole = λ s z o b k. multipole_dipole s z o k P h b;
  local_pole = λ s z q a k. local_pole s z q k P a;
  local_dipole = λ s z q b k. local_dipole s z q k P (omega arith) b;
}
