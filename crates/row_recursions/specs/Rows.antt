-- The rounded recursions on rows of boxes, which count units of 2^-40. A row is a function of its index. s is the side of a cell; an offset is doubled, twice
-- a place less the doubled centre of the cell; a quadrant q has the parts 1 and -1, 1 for the right and for the top half.
use Rattle.std.specs.Prelude.{ℕ, zero, suc, ◌-◌, ◌*◌, ◌<◌, ◌≡◌, pos, ◌*ℤ◌, List}
use Rattle.exact_math.specs.Ends.{BoxEnds, zero_box, point_box, add_box, neg_box, scale_box, times_box, gscale_box, quot_box, gquot_box}
use Rattle.exact_math.specs.Gaussian.{Gaussian, norm_gaussian, conj, scale_gaussian}
use Rattle.exact_math.specs.Units.{unit}
use Rattle.complex_box.specs.Box.{box_ends}
use Rattle.complex_box.specs.Rows.{at}
use Rattle.complex_box.specs.declared.CBox.{CBox}

-- the row that a list of boxes holds
abbrev pub row_of : List CBox → ℕ → BoxEnds
row_of cells k = box_ends (at cells k)

-- the first P boxes of two rows are the same
abbrev pub AreSameRows : ℕ → (ℕ → BoxEnds) → (ℕ → BoxEnds) → Type 0
AreSameRows P m n = (k : ℕ) → k < P → m k ≡ n k

-- the first P boxes of the sum are those of m and n added
abbrev pub RowsAdd : ℕ → (ℕ → BoxEnds) → (ℕ → BoxEnds) → (ℕ → BoxEnds) → Type 0
RowsAdd P m n sum = (k : ℕ) → k < P → sum k ≡ add_box (m k) (n k)

-- the first P boxes of the sum have those of the part in them: taken away, they leave boxes
pub record HasPart (P : ℕ) (sum part : ℕ → BoxEnds) : Type 0 where
  pub rest : ℕ → CBox
  pub adds : (k : ℕ) → k < P → sum k ≡ add_box (box_ends (rest k)) (part k)

-- 2^40 a
abbrev pub units_box : Gaussian → BoxEnds
units_box a = point_box (unit *ℤ a.re) (unit *ℤ a.im)

-- 2^40 b/s, which is exact where s divides 2^40
abbrev pub units_over : Gaussian → ℕ → BoxEnds
units_over b s = quot_box (units_box b) (pos s)

-- m/g times the box: its exact product with m conj g, over the norm of g, rounded once
abbrev pub ratio_box : ℕ → Gaussian → BoxEnds → BoxEnds
ratio_box m g b = gquot_box b (conj (scale_gaussian m g)) (norm_gaussian g)

-- f 0 + .. + f (n - 1)
abbrev pub sum_boxes : ℕ → (ℕ → BoxEnds) → BoxEnds
sum_boxes zero f = zero_box
sum_boxes (suc n) f = add_box (sum_boxes n f) (f n)

-- ---- moments of a source with the offset o
-- a first box, and then times o/m each time
unfoldable pub powers : BoxEnds → Gaussian → ℕ → ℕ → BoxEnds
powers first o m zero = first
powers first o m (suc k) = gquot_box (powers first o m k) o (pos m)

-- of a pole a and a dipole b at one place: the powers of o/(2 s) from 2^40 a on, and k times the power before from 2^40 b/s on
unfoldable pub source_moment : ℕ → Gaussian → Gaussian → Gaussian → ℕ → BoxEnds
source_moment s a b o zero = units_box a
source_moment s a b o (suc k) = add_box (powers (units_box a) o (2 * s) (suc k)) (scale_box (powers (units_over b s) o (2 * s) k) (pos (suc k)))

-- ---- the shift up
-- after r rounds, each a quarter of twice the next coefficient and q times this one
unfoldable pub up_round : (ℕ → BoxEnds) → Gaussian → ℕ → ℕ → BoxEnds
up_round m q zero i = m i
up_round m q (suc r) i = quot_box (add_box (scale_box (up_round m q r (suc i)) (pos 2)) (gscale_box (up_round m q r i) q)) (pos 4)

-- the row m of a child with the quadrant q, about the parent's centre
unfoldable pub shifted_up : (ℕ → BoxEnds) → Gaussian → ℕ → BoxEnds
shifted_up m q k = up_round m q k 0

-- ---- contributions to a local row
-- of the multipole row m, by the entries of a kernel: the sum of products, rounded once
unfoldable pub converted : ℕ → (ℕ → ℕ → BoxEnds) → (ℕ → BoxEnds) → ℕ → BoxEnds
converted P kernel m l = quot_box (sum_boxes P (λ k. times_box (kernel k l) (m k))) unit

-- a first box, and then times m/zeta each time
unfoldable pub far_powers : BoxEnds → ℕ → Gaussian → ℕ → BoxEnds
far_powers first m zeta zero = first
far_powers first m zeta (suc l) = ratio_box m zeta (far_powers first m zeta l)

-- of a source with the offset zeta, by the powers of 2 s/zeta: less the power l + 1 from 2^40 a on, and l + 1 times the power l + 2 from 2^40 b/s on
unfoldable pub far_source : ℕ → Gaussian → Gaussian → Gaussian → ℕ → BoxEnds
far_source s a b zeta l =
    add_box (neg_box (far_powers (units_box a) (2 * s) zeta (suc l))) (scale_box (far_powers (units_over b s) (2 * s) zeta (suc (suc l))) (pos (suc l)))

-- ---- the shift down, with Horner's scheme from the last coefficient on
-- after n rounds, the last of which took in the coefficient P - n
unfoldable pub down_round : ℕ → (ℕ → BoxEnds) → Gaussian → ℕ → ℕ → BoxEnds
down_round P m q zero k = zero_box
down_round P m q (suc n) zero = add_box (m (P - suc n)) (quot_box (gscale_box (down_round P m q n zero) q) (pos 4))
down_round P m q (suc n) (suc k) = quot_box (add_box (gscale_box (down_round P m q n (suc k)) q) (scale_box (down_round P m q n k) (pos 2))) (pos 4)

-- the local row m of the parent, about the centre of the child with the quadrant q
unfoldable pub shifted_down : ℕ → (ℕ → BoxEnds) → Gaussian → ℕ → BoxEnds
shifted_down P m q k = quot_box (down_round P m q P k) (pos 2)

-- ---- values of rows, with Horner's scheme
-- after n steps
unfoldable pub local_round : ℕ → (ℕ → BoxEnds) → ℕ → Gaussian → ℕ → BoxEnds
local_round P m s o zero = zero_box
local_round P m s o (suc n) = add_box (gquot_box (local_round P m s o n) o (pos (2 * s))) (m (P - suc n))

-- the value of the local row m at the offset o
unfoldable pub local_value : ℕ → (ℕ → BoxEnds) → ℕ → Gaussian → BoxEnds
local_value P m s o = quot_box (local_round P m s o P) (pos s)

-- after n steps
unfoldable pub multipole_round : ℕ → (ℕ → BoxEnds) → ℕ → Gaussian → ℕ → BoxEnds
multipole_round P m s zeta zero = zero_box
multipole_round P m s zeta (suc n) = ratio_box (2 * s) zeta (add_box (multipole_round P m s zeta n) (m (P - suc n)))

-- the value of the multipole row m at the offset zeta
unfoldable pub multipole_value : ℕ → (ℕ → BoxEnds) → ℕ → Gaussian → BoxEnds
multipole_value P m s zeta = quot_box (multipole_round P m s zeta P) (pos s)
