-- What the rounded recursions contain, for every order, side and centre. c and b are doubled centres.
use Rattle.std.specs.Prelude.{ℕ, ◌*◌, ◌<◌, ◌≤◌, ◌<ℤ◌, pos, List, [], ◌∷◌, ◌++◌}
use Rattle.exact_math.specs.Ends.{BoxEnds, BoxEndsContain, zero_box, add_box}
use Rattle.exact_math.specs.Gaussian.{Gaussian, add_gaussian, norm_gaussian, scale_gaussian}
use Rattle.exact_math.specs.Ratio.{ComplexRatio, SameComplex, zero_complex, ◌+ᶜ◌}
use Rattle.exact_math.specs.Sums.{sum_terms}
use Rattle.exact_math.specs.Units.{unit}
use Rattle.truncation.specs.Entries.{Source, pair_cut, multipole_cut, local_cut}
use Rattle.truncation.specs.Places.{doubled_offset}
use Rattle.kernel_table.specs.Kernel.{kernel_entry}
use Rattle.row_recursions.specs.Fields.{HoldsField}
use Rattle.row_recursions.specs.Moments.{HoldsMoments, pole_of, dipole_of}
use Rattle.row_recursions.specs.Rows.{source_moment, shifted_up, converted, far_source, shifted_down, local_value, multipole_value}

-- ---- multipole rows
-- no sources
abbrev pub NoMoments : Type 0
NoMoments = (P s : ℕ) (c : Gaussian) → HoldsMoments P s c [] (λ k. zero_box)

-- one source
abbrev pub SourceMoments : Type 0
SourceMoments =
    (P s : ℕ) (c : Gaussian) (x : Source) → 1 ≤ s → HoldsMoments P s c (x ∷ []) (source_moment s (pole_of x) (dipole_of x) (doubled_offset x.place c))

-- the sources of two rows about one centre
abbrev pub SumOfMoments : Type 0
SumOfMoments = (P s : ℕ) (c : Gaussian) (xs ys : List Source) (m n : ℕ → BoxEnds) → 1 ≤ s → HoldsMoments P s c xs m → HoldsMoments P s c ys n
    → HoldsMoments P s c (xs ++ ys) (λ k. add_box (m k) (n k))

-- from a child of side s with the quadrant q to its parent: the moments of the same sources about the parent's centre
abbrev pub MomentsUp : Type 0
MomentsUp = (P s : ℕ) (q c : Gaussian) (xs : List Source) (m : ℕ → BoxEnds) → 1 ≤ s
    → HoldsMoments P s (add_gaussian c (scale_gaussian s q)) xs m → HoldsMoments P (2 * s) c xs (shifted_up m q)

-- the value at another place than the centre: the cut terms of the sources
abbrev pub MultipoleValues : Type 0
MultipoleValues = (P s : ℕ) (c t : Gaussian) (xs : List Source) (m : ℕ → BoxEnds) → 1 ≤ s → pos 0 <ℤ norm_gaussian (doubled_offset t c)
    → HoldsMoments P s c xs m → BoxEndsContain unit (multipole_value P m s (doubled_offset t c)) (sum_terms (multipole_cut P c t) xs)

-- ---- local rows
-- no field
abbrev pub NoField : Type 0
NoField = (P s : ℕ) (b : Gaussian) → 1 ≤ s → HoldsField P s b (λ t. zero_complex) (λ l. zero_box)

-- two fields in one cell
abbrev pub SumOfFields : Type 0
SumOfFields = (P s : ℕ) (b : Gaussian) (f g : Gaussian → ComplexRatio) (m n : ℕ → BoxEnds) → 1 ≤ s → HoldsField P s b f m → HoldsField P s b g n
    → HoldsField P s b (λ t. f t +ᶜ g t) (λ l. add_box (m l) (n l))

-- a field has one list of coefficients, whatever rows hold it
abbrev pub OneField : Type 0
OneField =
    (P s : ℕ) (b : Gaussian) (field : Gaussian → ComplexRatio) (m n : ℕ → BoxEnds) → 1 ≤ s → (h : HoldsField P s b field m) (k : HoldsField P s b field n)
    → (l : ℕ) → l < P → SameComplex (h.coefficient l) (k.coefficient l)

-- from the row of a cell to a cell of its side e sides away: the cut terms of its sources, which are written in e and in the offsets from both centres
abbrev pub FieldConverted : Type 0
FieldConverted = (P s : ℕ) (e b c : Gaussian) (xs : List Source) (m : ℕ → BoxEnds) → 1 ≤ s → pos 0 <ℤ norm_gaussian e
    → HoldsMoments P s c xs m → HoldsField P s b (λ t. sum_terms (pair_cut P s e b c t) xs) (converted P (kernel_entry e) m)

-- one source at another place than the centre: its cut term
abbrev pub FieldOfSource : Type 0
FieldOfSource = (P s : ℕ) (b : Gaussian) (x : Source) → 1 ≤ s → pos 0 <ℤ norm_gaussian (doubled_offset x.place b)
    → HoldsField P s b (λ t. local_cut P b t x) (far_source s (pole_of x) (dipole_of x) (doubled_offset x.place b))

-- from the parent to its child of side s with the quadrant q: the same field
abbrev pub FieldDown : Type 0
FieldDown = (P s : ℕ) (q b : Gaussian) (f : Gaussian → ComplexRatio) (m : ℕ → BoxEnds) → 1 ≤ s
    → HoldsField P (2 * s) b f m → HoldsField P s (add_gaussian b (scale_gaussian s q)) f (shifted_down P m q)

-- the value at any place: that of the field
abbrev pub LocalValues : Type 0
LocalValues = (P s : ℕ) (b t : Gaussian) (f : Gaussian → ComplexRatio) (m : ℕ → BoxEnds) → 1 ≤ s
    → HoldsField P s b f m → BoxEndsContain unit (local_value P m s (doubled_offset t b)) (f t)
