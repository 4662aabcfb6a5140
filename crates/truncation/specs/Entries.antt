-- The truncation bound of a whole entry: all sources of one cell seen from one target.
use Rattle.std.specs.Prelude.{ℕ, ◌≡◌, ◌*◌, ◌≤◌, Bool, cond, List, sum_by, All}
use Rattle.exact_math.specs.Gaussian.{Gaussian, zero_gaussian, sub_gaussian, scale_gaussian}
use Rattle.exact_math.specs.Ratio.{ComplexRatio}
use Rattle.exact_math.specs.Sizes.{weight_at}
use Rattle.exact_math.specs.Sums.{sum_terms}
use Rattle.exact_math.specs.Terms.{pole_term, dipole_term}
use Rattle.truncation.specs.CutTerms.{pair_pole_cut, pair_dipole_cut, multipole_pole_cut, multipole_dipole_cut, local_pole_cut, local_dipole_cut}
use Rattle.exact_math.specs.Within.{GaussianWithin, GaussianBeyond}
use Rattle.truncation.specs.Places.{doubled_offset}
use Rattle.truncation.specs.Tails.{pair_tail, single_tail}
use Rattle.truncation.specs.Truncation.{Truncated}

-- a pole or a dipole at a place
pub record Source : Type 0 where
  pub place : Gaussian
  pub strength : Gaussian
  pub dipole : Bool

-- |a| of a pole a, 2 P |b| of a dipole b
abbrev pub weight : ℕ → Source → ℕ
weight P x = cond x.dipole (weight_at P zero_gaussian x.strength) (weight_at P x.strength zero_gaussian)

-- the term of x in the direct sum at t
abbrev pub exact_term : Gaussian → Source → ComplexRatio
exact_term t x = cond x.dipole (dipole_term x.strength (sub_gaussian t x.place)) (pole_term x.strength (sub_gaussian t x.place))

-- its cut term of order P: b and c are the doubled centres of the target's and of the source's cell, which are s e apart
abbrev pub pair_cut : ℕ → ℕ → Gaussian → Gaussian → Gaussian → Gaussian → Source → ComplexRatio
pair_cut P s e b c t x = cond x.dipole
    (pair_dipole_cut P s e (doubled_offset x.place c) (doubled_offset t b) x.strength)
    (pair_pole_cut P s e (doubled_offset x.place c) (doubled_offset t b) x.strength)

-- for a far target: c is the doubled centre of the sources' cell
abbrev pub multipole_cut : ℕ → Gaussian → Gaussian → Source → ComplexRatio
multipole_cut P c t x = cond x.dipole
    (multipole_dipole_cut P (doubled_offset t c) (doubled_offset x.place c) x.strength)
    (multipole_pole_cut P (doubled_offset t c) (doubled_offset x.place c) x.strength)

-- for far sources: b is the doubled centre of the target's cell
abbrev pub local_cut : ℕ → Gaussian → Gaussian → Source → ComplexRatio
local_cut P b t x = cond x.dipole
    (local_dipole_cut P (doubled_offset x.place b) (doubled_offset t b) x.strength)
    (local_pole_cut P (doubled_offset x.place b) (doubled_offset t b) x.strength)

-- two cells of side s whose centres are e sides apart, e with a part of at least 2; b - c is the difference of the doubled centres
abbrev pub PairEntries : Type 0
PairEntries = (P s : ℕ) (e b c t : Gaussian) → 1 ≤ P → 1 ≤ s → GaussianBeyond 2 e → sub_gaussian b c ≡ scale_gaussian (2 * s) e
    → GaussianWithin s (doubled_offset t b) → (xs : List Source) → All (λ x. GaussianWithin s (doubled_offset x.place c)) xs
    → Truncated (sum_terms (exact_term t) xs) (sum_terms (pair_cut P s e b c t) xs) (sum_by (weight P) xs * pair_tail P) s

-- a target far from the sources' cell of side s
abbrev pub MultipoleEntries : Type 0
MultipoleEntries = (P s : ℕ) (c t : Gaussian) → 2 ≤ P → 1 ≤ s → GaussianBeyond (3 * s) (doubled_offset t c)
    → (xs : List Source) → All (λ x. GaussianWithin s (doubled_offset x.place c)) xs
    → Truncated (sum_terms (exact_term t) xs) (sum_terms (multipole_cut P c t) xs) (sum_by (weight P) xs * single_tail P) s

-- sources far from the target's cell of side s
abbrev pub LocalEntries : Type 0
LocalEntries = (P s : ℕ) (b t : Gaussian) → 2 ≤ P → 1 ≤ s → GaussianWithin s (doubled_offset t b)
    → (xs : List Source) → All (λ x. GaussianBeyond (3 * s) (doubled_offset x.place b)) xs
    → Truncated (sum_terms (exact_term t) xs) (sum_terms (local_cut P b t) xs) (sum_by (weight P) xs * single_tail P) s
