-- The truncation bound of a whole entry: all sources of one cell, seen from one target.
use Rattle.exact_math.proofs.Common.{◌≡◌, ap, ap₂, subst, ℕ, arith, ints, ℤ, pos, ◌+ℤ◌, ◌-ℤ◌, ◌*ℤ◌, ◌<ℤ◌, int_ring, int_quotes, ring2, ring4}
use Rattle.exact_math.specs.Gaussian.{Gaussian, gaussian, zero_gaussian, sub_gaussian, norm_gaussian, scale_gaussian, twice}
use Rattle.exact_math.specs.Ratio.{ComplexRatio}
use Rattle.exact_math.specs.Sizes.{weight_at}
use Rattle.exact_math.specs.Terms.{pole_term, dipole_term}
use Rattle.exact_math.proofs.Integers.{*-positive}
use Rattle.truncation.specs.Entries.{Source, weight, exact_term, pair_cut, multipole_cut, local_cut, PairEntries, MultipoleEntries, LocalEntries}
use Rattle.exact_math.specs.Within.{GaussianWithin, GaussianBeyond}
use Rattle.truncation.specs.Places.{pair_distance, PairPlaces, SinglePlaces, doubled_offset}
use Rattle.truncation.specs.Tails.{pair_tail, single_tail}
use Rattle.truncation.specs.Truncation.{Truncated, halved_pole_term, halved_dipole_term}
use Rattle.truncation.proofs.Counting.{Truncated-same, Truncated-sum}
use Rattle.truncation.proofs.SourceBounds.{pair_truncation, single_truncation}
use Rattle.std.specs.Prelude.{Bool, true, false, cond}
use Prim.Native.Nat.{◌*◌}

-- ---- at whole places: the doubled distance is twice the distance
positive_quarter : (x y : ℤ) → pos 0 <ℤ ((x +ℤ x) *ℤ (x +ℤ x) +ℤ (y +ℤ y) *ℤ (y +ℤ y)) → pos 0 <ℤ (x *ℤ x +ℤ y *ℤ y)
positive_quarter x y h =
    let e : (x +ℤ x) *ℤ (x +ℤ x) +ℤ (y +ℤ y) *ℤ (y +ℤ y) ≡ pos 4 *ℤ (x *ℤ x +ℤ y *ℤ y) = ring2 int_ring x y (λ x y. search int_quotes depth 12) tt in
    let k = subst (λ n. pos 0 <ℤ n) e h in
    quarter (x *ℤ x +ℤ y *ℤ y) k
  where
    quarter : (n : ℤ) → pos 0 <ℤ (pos 4 *ℤ n) → pos 0 <ℤ n
    quarter n h = omega (arith, ints)

module _ (delta a : Gaussian) (cut : ComplexRatio) (m n : ℕ) where
  -- the term of a pole at the distance delta
  pub at_places_pole : Truncated (halved_pole_term a (twice delta)) cut m n → Truncated (pole_term a delta) cut m n
  at_places_pole h = Truncated-same (halved_pole_term a (twice delta)) (pole_term a delta) cut m n (positive_quarter delta.re delta.im h.exact_fraction)
      (ring4 int_ring a.re a.im delta.re delta.im (λ a b x y. search int_quotes depth 16) tt)
      (ring4 int_ring a.re a.im delta.re delta.im (λ a b x y. search int_quotes depth 16) tt) h

  -- the term of a dipole at the distance delta
  pub at_places_dipole : pos 0 <ℤ norm_gaussian delta → Truncated (halved_dipole_term a (twice delta)) cut m n → Truncated (dipole_term a delta) cut m n
  at_places_dipole p h = Truncated-same (halved_dipole_term a (twice delta)) (dipole_term a delta) cut m n (*-positive _ _ p p)
      (ring4 int_ring a.re a.im delta.re delta.im (λ a b x y. search int_quotes depth 20) tt)
      (ring4 int_ring a.re a.im delta.re delta.im (λ a b x y. search int_quotes depth 20) tt) h

-- ---- a pole or a dipole
by_kind : (x y x' y' : ComplexRatio) (m m' n : ℕ) (d : Bool) → Truncated x y m n → Truncated x' y' m' n → Truncated (cond d x x') (cond d y y') (cond d m m') n
by_kind x y x' y' m m' n true h k = h
by_kind x y x' y' m m' n false h k = k

cond_times : (d : Bool) (m m' t : ℕ) → cond d (m * t) (m' * t) ≡ cond d m m' * t
cond_times true m m' t = omega arith
cond_times false m m' t = omega arith

-- one source, at the distance delta of which D is the double
one_source : (P T s : ℕ) (x : Source) (delta D : Gaussian) (pole dipole : ComplexRatio) → D ≡ twice delta
    → Truncated (halved_pole_term x.strength D) pole (weight_at P x.strength zero_gaussian * T) s → Truncated (halved_dipole_term x.strength D) dipole (weight_at P zero_gaussian x.strength * T) s
    → Truncated (cond x.dipole (dipole_term x.strength delta) (pole_term x.strength delta)) (cond x.dipole dipole pole) (weight P x * T) s
one_source P T s x delta D pole dipole e h k =
    let h' = at_places_pole delta x.strength pole _ s (subst (λ d. Truncated (halved_pole_term x.strength d) pole (weight_at P x.strength zero_gaussian * T) s) e h) in
    let k' = at_places_dipole delta x.strength dipole _ s h'.exact_fraction (subst (λ d. Truncated (halved_dipole_term x.strength d) dipole (weight_at P zero_gaussian x.strength * T) s) e k) in
    subst (λ m. Truncated (cond x.dipole (dipole_term x.strength delta) (pole_term x.strength delta)) (cond x.dipole dipole pole) m s)
    (cond_times x.dipole (weight_at P zero_gaussian x.strength) (weight_at P x.strength zero_gaussian) T)
    (by_kind _ _ _ _ _ _ s x.dipole k' h')

-- ---- entries
-- the centres are s e apart
pair_distance_twice : (s : ℕ) (e b c t z : Gaussian) → sub_gaussian b c ≡ scale_gaussian (2 * s) e → pair_distance s e (doubled_offset z c) (doubled_offset t b) ≡ twice (sub_gaussian t z)
pair_distance_twice s e b c t z f = ap₂ gaussian (one t.re z.re b.re c.re e.re (ap (λ g. g.re) f)) (one t.im z.im b.im c.im e.im (ap (λ g. g.im) f))
  where
    one : (t z b c e : ℤ) → b -ℤ c ≡ pos (2 * s) *ℤ e → pos s *ℤ e +ℤ pos s *ℤ e +ℤ (t +ℤ t -ℤ b) -ℤ (z +ℤ z -ℤ c) ≡ (t -ℤ z) +ℤ (t -ℤ z)
    one t z b c e f = let g : pos (2 * s) *ℤ e ≡ pos s *ℤ e +ℤ pos s *ℤ e = double_side (pos s) e in omega (arith, ints)
      where
        double_side : (k e : ℤ) → pos 2 *ℤ k *ℤ e ≡ k *ℤ e +ℤ k *ℤ e
        double_side k e = ring2 int_ring k e (λ k e. search int_quotes depth 12) tt

offsets_twice : (a b c : Gaussian) → sub_gaussian (doubled_offset a c) (doubled_offset b c) ≡ twice (sub_gaussian a b)
offsets_twice a b c = ap₂ gaussian (one a.re b.re c.re) (one a.im b.im c.im)
  where
    one : (a b c : ℤ) → (a +ℤ a -ℤ c) -ℤ (b +ℤ b -ℤ c) ≡ (a -ℤ b) +ℤ (a -ℤ b)
    one a b c = omega (arith, ints)

-- two cells of one side
pub pair_entries : PairEntries
pair_entries P s e b c t order side apart centres target xs sources =
    Truncated-sum (exact_term t) (pair_cut P s e b c t) (weight P) (pair_tail P) s xs (λ k d l. one _ (sources k d l))
  where
    one : (x : Source) → GaussianWithin s (doubled_offset x.place c) → Truncated (exact_term t x) (pair_cut P s e b c t x) (weight P x * pair_tail P) s
    one x near =
        let o = doubled_offset x.place c in
        let q = doubled_offset t b in
        let places : PairPlaces s e o q = record { side = side; apart = apart; source = near; target = target } in
        let holds = pair_truncation P order in
        one_source P (pair_tail P) s x (sub_gaussian t x.place) (pair_distance s e o q) _ _ (pair_distance_twice s e b c t x.place centres)
        (holds.pole s e o q x.strength places) (holds.dipole s e o q x.strength places)

-- a far target
pub multipole_entries : MultipoleEntries
multipole_entries P s c t order side far xs sources =
    Truncated-sum (exact_term t) (multipole_cut P c t) (weight P) (single_tail P) s xs (λ k d l. one _ (sources k d l))
  where
    one : (x : Source) → GaussianWithin s (doubled_offset x.place c) → Truncated (exact_term t x) (multipole_cut P c t x) (weight P x * single_tail P) s
    one x near =
        let o = doubled_offset x.place c in
        let z = doubled_offset t c in
        let places : SinglePlaces s z o = record { side = side; far = far; near = near } in
        let holds = single_truncation P order in
        one_source P (single_tail P) s x (sub_gaussian t x.place) (sub_gaussian z o) _ _ (offsets_twice t x.place c)
        (holds.multipole_pole s z o x.strength places) (holds.multipole_dipole s z o x.strength places)

-- far sources
pub local_entries : LocalEntries
local_entries P s b t order side near xs sources =
    Truncated-sum (exact_term t) (local_cut P b t) (weight P) (single_tail P) s xs (λ k d l. one _ (sources k d l))
  where
    one : (x : Source) → GaussianBeyond (3 * s) (doubled_offset x.place b) → Truncated (exact_term t x) (local_cut P b t x) (weight P x * single_tail P) s
    one x far =
        let z = doubled_offset x.place b in
        let q = doubled_offset t b in
        let places : SinglePlaces s z q = record { side = side; far = far; near = near } in
        let holds = single_truncation P order in
        one_source P (single_tail P) s x (sub_gaussian t x.place) (sub_gaussian q z) _ _ (offsets_twice t x.place b)
        (holds.local_pole s z q x.strength places) (holds.local_dipole s z q x.strength places)
