-- What the laws of cells say in the words of rows: doubled centres and offsets as complex numbers.
use Rattle.std.specs.Prelude.{ℕ, ◌*◌, ◌≤◌, ◌<◌, ◌≡◌, ℤ, pos, ◌-ℤ◌}
use Rattle.exact_math.specs.Gaussian.{Gaussian, gaussian, add_gaussian, sub_gaussian, scale_gaussian}
use Rattle.exact_math.specs.Within.{GaussianWithin, GaussianBeyond}
use Rattle.cell_name.specs.Apart.{sides_between}
use Rattle.cell_name.specs.Square.{Square, side, doubled_centre_x, doubled_centre_y, offset_x, offset_y, Holds, Touches, parent, child}
use Rattle.kernel_table.specs.Kernel.{IsKernelDistance}

-- twice the centre of a cell
abbrev pub doubled_centre : Square → Gaussian
doubled_centre c = gaussian (doubled_centre_x c) (doubled_centre_y c)

-- the doubled offset of a place from the centre
abbrev pub offset : Square → Gaussian → Gaussian
offset c z = gaussian (offset_x c z.re) (offset_y c z.im)

-- 1 or -1 for the east or the west half, and for the north or the south half
abbrev pub quarter_sign : ℕ → ℤ
quarter_sign half = pos (2 * half) -ℤ pos 1

-- a place in a cell
abbrev pub HeldPlaces : Type 0
HeldPlaces = (c : Square) (x y : ℤ) → Holds c x y → GaussianWithin (side c) (offset c (gaussian x y))

-- two cells of one level that don't touch and whose parents do
pub record AreAPair (b c : Square) : Type 0 where
  pub kernel : IsKernelDistance (sides_between b c)
  pub centres : sub_gaussian (doubled_centre b) (doubled_centre c) ≡ scale_gaussian (2 * side c) (sides_between b c)

abbrev pub PairsOfCells : Type 0
PairsOfCells = (b c : Square) → b.grid ≡ c.grid → b.level ≡ c.level → (Touches b c → ⊥) → Touches (parent b) (parent c) → AreAPair b c

-- a place in a cell, seen from a cell that is no higher and doesn't touch it
abbrev pub FarPlaces : Type 0
FarPlaces = (b c : Square) (x y : ℤ) → b.grid ≡ c.grid → b.level ≤ c.level → c.level ≤ c.grid → (Touches b c → ⊥) → Holds b x y
    → GaussianBeyond (3 * side c) (offset c (gaussian x y))

-- a quarter of a cell has half its side, and its centre lies half of that away in both directions
pub record IsQuarter (c : Square) (right top : ℕ) : Type 0 where
  pub half : side c ≡ 2 * side (child c right top)
  pub centre : doubled_centre (child c right top)
      ≡ add_gaussian (doubled_centre c) (scale_gaussian (side (child c right top)) (gaussian (quarter_sign right) (quarter_sign top)))

abbrev pub QuartersOfCells : Type 0
QuartersOfCells = (c : Square) (right top : ℕ) → right ≤ 1 → top ≤ 1 → c.level < c.grid → IsQuarter c right top
