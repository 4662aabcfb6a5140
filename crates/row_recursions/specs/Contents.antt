-- What additions to a row do to the moments or the field that it stands for, and what the value of a row contains. s is the side of a cell; c and b are
-- doubled centres, c that of a multipole row and b that of a local row.
use Rattle.std.specs.Prelude.{ℕ, ◌*◌, ◌≤◌, List, [], ◌∷◌, ◌++◌}
use Rattle.exact_math.specs.Ends.{BoxEnds}
use Rattle.exact_math.specs.Gaussian.{Gaussian, add_gaussian, scale_gaussian}
use Rattle.exact_math.specs.Ratio.{ComplexRatio, ◌+ᶜ◌}
use Rattle.exact_math.specs.Sums.{sum_terms}
use Rattle.exact_math.specs.Units.{unit}
use Rattle.complex_box.specs.Box.{BoxContains}
use Rattle.complex_box.specs.declared.CBox.{CBox}
use Rattle.truncation.specs.Entries.{Source, pair_cut, multipole_cut, local_cut}
use Rattle.row_recursions.specs.Fields.{HoldsField}
use Rattle.row_recursions.specs.Moments.{HoldsMoments}

-- ---- multipole rows
-- whatever sources the row stood for before, it now stands for them and the source x
abbrev pub AddsMomentsOf : (P s : ℕ) (c : Gaussian) (x : Source) (before after : ℕ → BoxEnds) → Type 0
AddsMomentsOf P s c x before after = (xs : List Source) → HoldsMoments P s c xs before → HoldsMoments P s c (xs ++ x ∷ []) after

-- whatever sources the parent's row stood for before and the row of its child with the quadrant q stands for, the parent's row now stands for all of them
abbrev pub AddsMomentsUp : (P : ℕ) (q : Gaussian) (child before after : ℕ → BoxEnds) → Type 0
AddsMomentsUp P q child before after = (s : ℕ) (c : Gaussian) (xs ys : List Source) → 1 ≤ s → HoldsMoments P (2 * s) c xs before
    → HoldsMoments P s (add_gaussian c (scale_gaussian s q)) ys child → HoldsMoments P (2 * s) c (xs ++ ys) after

-- whatever sources the row stands for, the box contains the sum of their cut terms at the place t
abbrev pub IsValueOfMoments : (P s : ℕ) (c t : Gaussian) (row : ℕ → BoxEnds) (value : CBox) → Type 0
IsValueOfMoments P s c t row value = (xs : List Source) → HoldsMoments P s c xs row → BoxContains unit value (sum_terms (multipole_cut P c t) xs)

-- ---- local rows
-- whatever sources the multipole row stands for and whatever field the local row stood for before, the local row now stands for that field and the cut terms
-- of these sources. The two cells have one side s, and the cut terms are those of the entry where b - c = 2 s e
abbrev pub AddsFieldConverted : (P : ℕ) (e : Gaussian) (multipole before after : ℕ → BoxEnds) → Type 0
AddsFieldConverted P e multipole before after = (s : ℕ) (b c : Gaussian) (xs : List Source) (field : Gaussian → ComplexRatio) → 1 ≤ s
    → HoldsMoments P s c xs multipole → HoldsField P s b field before → HoldsField P s b (λ t. field t +ᶜ sum_terms (pair_cut P s e b c t) xs) after

-- whatever field the row stood for before, it now stands for that field and the cut term of the far source x
abbrev pub AddsFieldOf : (P s : ℕ) (b : Gaussian) (x : Source) (before after : ℕ → BoxEnds) → Type 0
AddsFieldOf P s b x before after = (field : Gaussian → ComplexRatio) → HoldsField P s b field before
    → HoldsField P s b (λ t. field t +ᶜ local_cut P b t x) after

-- whatever field the parent's row stands for and the row of its child with the quadrant q stood for before, the child's row now stands for both together
abbrev pub AddsFieldDown : (P : ℕ) (q : Gaussian) (parent before after : ℕ → BoxEnds) → Type 0
AddsFieldDown P q parent before after = (s : ℕ) (b : Gaussian) (own field : Gaussian → ComplexRatio) → 1 ≤ s → HoldsField P (2 * s) b field parent
    → HoldsField P s (add_gaussian b (scale_gaussian s q)) own before → HoldsField P s (add_gaussian b (scale_gaussian s q)) (λ t. own t +ᶜ field t) after

-- whatever field the row stands for, the box contains its value at the place t
abbrev pub IsValueOfField : (P s : ℕ) (b t : Gaussian) (row : ℕ → BoxEnds) (value : CBox) → Type 0
IsValueOfField P s b t row value = (field : Gaussian → ComplexRatio) → HoldsField P s b field row → BoxContains unit value (field t)
