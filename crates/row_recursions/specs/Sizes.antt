-- How large the ends of rows are: no step of a recursion enlarges them, but for what Horner's scheme adds.
use Rattle.std.specs.Prelude.{ℕ, suc, ◌+◌, ◌*◌, ◌^◌, ◌<◌, ◌≤◌}
use Rattle.exact_math.specs.Ends.{BoxEnds, BoxEndsWithin}
use Rattle.exact_math.specs.Gaussian.{Gaussian}
use Rattle.exact_math.specs.Sizes.{abs_gaussian}
use Rattle.exact_math.specs.Within.{GaussianWithin, GaussianBeyond}
use Rattle.kernel_table.specs.Kernel.{IsKernelDistance, kernel_entry}
use Rattle.row_recursions.specs.Rows.{source_moment, shifted_up, converted, far_source, shifted_down, local_value, multipole_value}

-- all ends of the first P boxes of the row are at most n in size
abbrev pub RowWithin : ℕ → ℕ → (ℕ → BoxEnds) → Type 0
RowWithin P n m = (k : ℕ) → k < P → BoxEndsWithin n (m k)

-- the moments of a source in its cell: 2^40 (|a| + k |b|)
abbrev pub MomentSizes : Type 0
MomentSizes =
    (s : ℕ) (a b o : Gaussian) (k : ℕ) → 1 ≤ s → GaussianWithin s o → BoxEndsWithin (2 ^ 40 * (abs_gaussian a + k * abs_gaussian b)) (source_moment s a b o k)

-- a row shifted up
abbrev pub UpSizes : Type 0
UpSizes = (P n : ℕ) (q : Gaussian) (m : ℕ → BoxEnds) → GaussianWithin 1 q → RowWithin P n m → RowWithin P n (shifted_up m q)

-- the contribution of a far source: 2^40 (|a| + (l + 1) |b|)
abbrev pub FarSizes : Type 0
FarSizes =
    (s : ℕ) (a b zeta : Gaussian) (l : ℕ) → 1 ≤ s → GaussianBeyond (3 * s) zeta
    → BoxEndsWithin (2 ^ 40 * (abs_gaussian a + suc l * abs_gaussian b)) (far_source s a b zeta l)

-- the contribution of a row to that of a cell 2 or 3 sides away: half as much again
abbrev pub ConvertedSizes : Type 0
ConvertedSizes =
    (P n : ℕ) (e : Gaussian) (m : ℕ → BoxEnds) → P ≤ 32 → IsKernelDistance e → RowWithin P (2 * n) m → RowWithin P (3 * n) (converted P (kernel_entry e) m)

-- a row shifted down
abbrev pub DownSizes : Type 0
DownSizes = (P n : ℕ) (q : Gaussian) (m : ℕ → BoxEnds) → GaussianWithin 1 q → RowWithin P n m → RowWithin P n (shifted_down P m q)

-- the value of a local row at a place in its cell
abbrev pub LocalValueSizes : Type 0
LocalValueSizes = (P n s : ℕ) (o : Gaussian) (m : ℕ → BoxEnds) → 1 ≤ s → GaussianWithin s o → RowWithin P n m → BoxEndsWithin (P * n) (local_value P m s o)

-- the value of a multipole row at a far place
abbrev pub MultipoleValueSizes : Type 0
MultipoleValueSizes =
    (P n s : ℕ) (zeta : Gaussian) (m : ℕ → BoxEnds) → 1 ≤ s → GaussianBeyond (3 * s) zeta
    → RowWithin P n m → BoxEndsWithin (P * n) (multipole_value P m s zeta)
