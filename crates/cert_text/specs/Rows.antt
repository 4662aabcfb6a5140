-- Rows of boxes that stand end to end in one vector, and local rows with their radii.
use Rattle.std.specs.Prelude.{ℕ, ◌≡◌, ◌⊎◌, ◌≤◌, ℤ, List, [], ◌∷◌, length, map, slice_range, slice_index_or, All}
use Rattle.fixed_interval.specs.Interval.{AreEnds}
use Rattle.exact_math.specs.Ends.{zero_box}
use Rattle.complex_box.specs.declared.CBox.{CBox}
use Rattle.row_recursions.specs.Rows.{row_of}
use Rattle.cert_text.specs.declared.rows.Range.{Range}

-- the numbers of a row of boxes: the ends of both parts of each
abbrev pub numbers_of : List CBox → List ℤ
numbers_of [] = []
numbers_of (b ∷ bs) = b.re.lo ∷ b.re.hi ∷ b.im.lo ∷ b.im.hi ∷ numbers_of bs

-- four by four they are the ends of boxes
abbrev pub AreBoxEnds : List ℤ → Type 0
AreBoxEnds [] = Unit {0}
AreBoxEnds (left ∷ right ∷ low ∷ high ∷ rest) = AreEnds (record { lo = left; hi = right }) × AreEnds (record { lo = low; hi = high }) × AreBoxEnds rest
AreBoxEnds _ = ⊥

-- the rows that ranges of a vector make, as numbers
abbrev pub rows_in : List CBox → List Range → List (List ℤ)
rows_in items ranges = map (λ (r : Range). numbers_of (slice_range items r.from r.to)) ranges

-- a range lies in the vector
pub record IsRowRange (items : List CBox) (r : Range) : Type 0 where
  pub ordered : r.from ≤ r.to
  pub in_range : r.to ≤ length items

abbrev pub AreRowRanges : List CBox → List Range → Type 0
AreRowRanges items ranges = All (IsRowRange items) ranges

-- the row of a number, empty past the last
abbrev pub row_at : List (List ℤ) → ℕ → List ℤ
row_at rows n = slice_index_or rows n []

-- ---- local rows
-- the numbers of a local row: none where it has no ends, and else its radius first
abbrev pub local_numbers : ℤ → List ℤ → List ℤ
local_numbers radius [] = []
local_numbers radius (z ∷ zs) = radius ∷ z ∷ zs

-- none, or a radius and the ends of boxes
abbrev pub AreLocalNumbers : List ℤ → Type 0
AreLocalNumbers [] = Unit {0}
AreLocalNumbers (radius ∷ []) = ⊥
AreLocalNumbers (radius ∷ z ∷ zs) = AreBoxEnds (z ∷ zs)

-- of radii and rows
abbrev pub local_rows : List ℤ → List (List ℤ) → List (List ℤ)
local_rows (radius ∷ radii) (row ∷ rows) = local_numbers radius row ∷ local_rows radii rows
local_rows _ _ = []

-- a row has so many boxes, or none where it is the zero row
abbrev pub HasRowLength : ℕ → List CBox → Type 0
HasRowLength order row = (length row ≡ 0) ⊎ (length row ≡ order)

-- so many zero boxes as the longest row has
pub record AreZeros (row : List CBox) : Type 0 where
  pub len : length row ≡ 32
  pub zero : (k : ℕ) → row_of row k ≡ zero_box
