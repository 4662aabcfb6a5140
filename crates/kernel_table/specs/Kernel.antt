-- The kernel that turns a multipole row into a local row: C(k + l, k)/e^(k + l + 1) with the sign of (-1)^l, for two cells of one side whose
-- centres are e sides apart.
use Rattle.std.specs.Prelude.{ℕ, zero, suc, ◌≡◌, ◌+◌, ◌^◌, ◌≤◌, ◌<◌, pos, List, length, slice_index_or}
use Rattle.complex_box.specs.Box.{box_ends}
use Rattle.complex_box.specs.declared.CBox.{CBox}
use Rattle.exact_math.specs.Ends.{BoxEnds, point_box, neg_box, scale_box, quot_box, gquot_box, BoxEndsContain, BoxEndsNarrow, BoxEndsWithin}
use Rattle.exact_math.specs.Gaussian.{Gaussian, norm_gaussian, conj, scale_gaussian}
use Rattle.exact_math.specs.Ratio.{ComplexRatio, neg_complex, ◌*ᶜ◌, reciprocal}
use Rattle.exact_math.specs.Sums.{pow_complex, natural_complex}
use Rattle.exact_math.specs.Binomials.{choose}
use Rattle.exact_math.specs.Within.{GaussianWithin, GaussianBeyond}
use Rattle.exact_math.specs.Units.{unit}

-- the centre of the target's cell less that of the source's, in sides: a part is at least 2 in size, and both are at most 3
pub record IsKernelDistance (e : Gaussian) : Type 0 where
  pub apart : GaussianBeyond 2 e
  pub near : GaussianWithin 3 e

-- ---- the rounded kernel
-- 2^60 conj e / norm e, and then times 2 conj e / norm e each time, rounded outward: 2^(60 + n)/e^(n + 1)
unfoldable pub kernel_power : Gaussian → ℕ → BoxEnds
kernel_power e zero = let g = conj (scale_gaussian (2 ^ 60) e) in quot_box (point_box g.re g.im) (norm_gaussian e)
kernel_power e (suc n) = gquot_box (kernel_power e n) (conj (scale_gaussian 2 e)) (norm_gaussian e)

-- (-1)^l b
abbrev pub alternate_box : ℕ → BoxEnds → BoxEnds
alternate_box zero b = b
alternate_box (suc l) b = neg_box (alternate_box l b)

-- (-1)^l C(k + l, k) of the power k + l, rounded outward to units of 2^-40
unfoldable pub kernel_entry : Gaussian → ℕ → ℕ → BoxEnds
kernel_entry e k l = alternate_box l (quot_box (scale_box (kernel_power e (k + l)) (pos (choose (k + l) k))) (pos (2 ^ (k + l + 20))))

-- ---- the exact kernel
-- (-1)^l z
abbrev pub alternate_complex : ℕ → ComplexRatio → ComplexRatio
alternate_complex zero z = z
alternate_complex (suc l) z = neg_complex (alternate_complex l z)

-- (-1)^l C(k + l, k)/e^(k + l + 1)
unfoldable pub kernel_fraction : Gaussian → ℕ → ℕ → ComplexRatio
kernel_fraction e k l = alternate_complex l (natural_complex (choose (k + l) k) *ᶜ pow_complex (reciprocal e) (suc (k + l)))

-- ---- what the rounded kernel keeps
-- the entry (k, l) contains the exact one in units of 2^-40, is at most 2 wide, and at most 2^39 + 1 in size
pub record KernelEntryHolds (e : Gaussian) (k l : ℕ) : Type 0 where
  pub contains : BoxEndsContain unit (kernel_entry e k l) (kernel_fraction e k l)
  pub narrow : BoxEndsNarrow 2 (kernel_entry e k l)
  pub size : BoxEndsWithin (2 ^ 39 + 1) (kernel_entry e k l)

-- at each distance of the kernel, for the orders up to 32
abbrev pub KernelEntries : Type 0
KernelEntries = (e : Gaussian) (k l : ℕ) → IsKernelDistance e → k + l ≤ 62 → KernelEntryHolds e k l

-- ---- columns of the table
-- the entries of one l, with k from 0 to P - 1
pub record IsKernelColumn (P : ℕ) (e : Gaussian) (l : ℕ) (column : List CBox) : Type 0 where
  pub whole : length column ≡ P
  pub entries : (k : ℕ) (other : CBox) → k < P → box_ends (slice_index_or column k other) ≡ kernel_entry e k l
