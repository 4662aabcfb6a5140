-- How wide the parts of rows are: each step of a recursion rounds, which widens its boxes by a unit or two, and no factor widens them.
use Rattle.std.specs.Prelude.{ℕ, suc, ◌+◌, ◌*◌, ◌/◌, ◌<◌, ◌≤◌, pos, unsigned_abs, ◌*ℤ◌, ◌≤ℤ◌}
use Rattle.exact_math.specs.Ends.{BoxEnds, BoxEndsContain, BoxEndsNarrow}
use Rattle.exact_math.specs.Gaussian.{Gaussian}
use Rattle.exact_math.specs.Ratio.{ComplexRatio}
use Rattle.exact_math.specs.Units.{unit}
use Rattle.exact_math.specs.Within.{GaussianWithin, GaussianBeyond}
use Rattle.kernel_table.specs.Kernel.{IsKernelDistance, kernel_entry}
use Rattle.row_recursions.specs.Rows.{source_moment, shifted_up, converted, far_source, shifted_down, local_value, multipole_value}

-- each part of the first P boxes of the row is at most w wide
abbrev pub RowNarrow : ℕ → ℕ → (ℕ → BoxEnds) → Type 0
RowNarrow P w m = (k : ℕ) → k < P → BoxEndsNarrow w (m k)

-- the box, whose ends count units of 2^-40, contains a fraction with |re| + |im| at most A
pub record HoldsWithin (A : ℕ) (b : BoxEnds) : Type 0 where
  pub held : ComplexRatio
  pub contains : BoxEndsContain unit b held
  pub small : pos (unsigned_abs held.re + unsigned_abs held.im) ≤ℤ (pos A *ℤ held.denominator)

-- each of the first P boxes of the row does
abbrev pub RowHoldsWithin : ℕ → ℕ → (ℕ → BoxEnds) → Type 0
RowHoldsWithin P A m = (k : ℕ) → k < P → HoldsWithin A (m k)

-- the moments of a source in its cell: 2 k^2
abbrev pub MomentWidths : Type 0
MomentWidths = (s : ℕ) (a b o : Gaussian) (k : ℕ) → 1 ≤ s → GaussianWithin s o → BoxEndsNarrow (2 * (k * k)) (source_moment s a b o k)

-- a row shifted up: as wide as the widest of the coefficients up to k, and 2 k more
abbrev pub UpWidths : Type 0
UpWidths = (w k : ℕ) (q : Gaussian) (m : ℕ → BoxEnds) → GaussianWithin 1 q → RowNarrow (suc k) w m → BoxEndsNarrow (w + 2 * k) (shifted_up m q k)

-- the contribution of a row whose coefficients contain fractions of at most A to that of a cell 2 or 3 sides away: twice as wide, and 2 P A + 3 more
abbrev pub ConvertedWidths : Type 0
ConvertedWidths =
    (P w A : ℕ) (e : Gaussian) (m : ℕ → BoxEnds) → P ≤ 32 → IsKernelDistance e → RowNarrow P w m → RowHoldsWithin P A m
    → RowNarrow P (2 * w + 2 * P * A + 3) (converted P (kernel_entry e) m)

-- the contribution of a far source: 2 P^2 + 2 P
abbrev pub FarWidths : Type 0
FarWidths = (P s : ℕ) (a b zeta : Gaussian) → 1 ≤ s → GaussianBeyond (3 * s) zeta → RowNarrow P (2 * (P * P) + 2 * P) (far_source s a b zeta)

-- a row shifted down: 2 P + 2 more
abbrev pub DownWidths : Type 0
DownWidths = (P w : ℕ) (q : Gaussian) (m : ℕ → BoxEnds) → GaussianWithin 1 q → RowNarrow P w m → RowNarrow P (w + 2 * P + 2) (shifted_down P m q)

-- the value of a local row at a place in its cell: P (w + 2)/s + 2
abbrev pub LocalValueWidths : Type 0
LocalValueWidths =
    (P w s : ℕ) (o : Gaussian) (m : ℕ → BoxEnds) → 1 ≤ s → GaussianWithin s o → RowNarrow P w m → BoxEndsNarrow (P * (w + 2) / s + 2) (local_value P m s o)

-- the value of a multipole row at a far place: the same
abbrev pub MultipoleValueWidths : Type 0
MultipoleValueWidths =
    (P w s : ℕ) (zeta : Gaussian) (m : ℕ → BoxEnds) → 1 ≤ s → GaussianBeyond (3 * s) zeta
    → RowNarrow P w m → BoxEndsNarrow (P * (w + 2) / s + 2) (multipole_value P m s zeta)
