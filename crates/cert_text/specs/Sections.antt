-- Which lines stand behind line 1, of which form, and in which range. Lines are numbered from 0 in their section.
use Rattle.std.specs.Prelude.{ℕ, zero, suc, ◌+◌, ◌-◌, ◌*◌, ◌^◌, ◌≡◌, ◌⊎◌, ℤ, pos, ◌≤ℤ◌, ◌<ℤ◌, unsigned_abs, cond, nat_lt, List, [], ◌∷◌, length, codes, sum_by}
use Rattle.exact_math.specs.Within.{Within}
use Rattle.letters.specs.declared.Letter.{Letter}
use Rattle.limits.specs.Limits.{IsVersion, grid_of, most_points, most_cells, most_entries, most_given_multipole, most_given_local, most_given_target}
use Rattle.points.specs.Limits.{IsOrderOf}
use Rattle.cert_text.specs.declared.section.Section.{Section}
use Rattle.cert_text.specs.declared.section.Section.TheVariants.{Node, At, Multipole, Entry, Local, Target, End}
use Rattle.cert_text.specs.Lines.{Line, Head, head_counts, letter_word}

-- ---- where a line belongs
-- a section and how many lines it has
pub record Part : Type 0 where
  pub section : Section
  pub lines : ℕ

abbrev pub part : Section → ℕ → Part
part section lines = record { section = section; lines = lines }

-- the sections in their order, before the last line
abbrev pub sections_of : Head → List Part
sections_of h = part Node h.cells ∷ part At h.points ∷ part Multipole h.cells ∷ part Entry h.entries ∷ part Local h.cells ∷ part Target h.targets ∷ []

-- how many lines stand behind line 1
abbrev pub line_count : Head → ℕ
line_count h = sum_by (λ p. p.lines) (sections_of h) + 1

-- the section of a line and its number there
pub record Place : Type 0 where
  pub section : Section
  pub number : ℕ

-- of the k-th line, counted from 0, of some parts and a last line
abbrev pub place_in : List Part → ℕ → Place
place_in [] k = record { section = End; number = k }
place_in (p ∷ ps) k = cond (nat_lt k p.lines) (record { section = p.section; number = k }) (place_in ps (k - p.lines))

abbrev pub place_of : Head → ℕ → Place
place_of h k = place_in (sections_of h) k

-- ---- forms
-- the word, and so many numbers
pub record HasWord (word : List ℕ) (count : ℕ) (l : Line) : Type 0 where
  pub word_is : l.word ≡ word
  pub count_is : length l.numbers ≡ count

-- A row is given by four numbers a coefficient, the ends of both parts; the zero row may be given by `-`, a local row with the radius 0.
abbrev pub IsFormOf : Head → Section → Line → Type 0
IsFormOf h Node l = HasWord (codes "node") 4 l
IsFormOf h At l = HasWord (codes "at") 1 l
IsFormOf h Multipole l = HasWord (codes "m -") 0 l ⊎ HasWord (codes "m") (4 * h.order) l
IsFormOf h Entry l = (letter : Letter) × HasWord (letter_word letter) 2 l
IsFormOf h Local l = HasWord (codes "l -") 0 l ⊎ HasWord (codes "l") (suc (4 * h.order)) l
IsFormOf h Target l = HasWord (codes "t") 8 l
IsFormOf h End l = HasWord (codes "end") 0 l

-- ---- ranges
-- from 0 to less than n
pub record IsNumberBelow (n : ℕ) (z : ℤ) : Type 0 where
  pub least : pos 0 ≤ℤ z
  pub most : z <ℤ pos n

-- the parent of node n: a smaller number, and 0 for node 0
abbrev pub IsParentOf : ℕ → ℤ → Type 0
IsParentOf zero z = z ≡ pos 0
IsParentOf (suc n) z = IsNumberBelow (suc n) z

-- two by two, lower and upper ends in order, at most n in size
abbrev pub AreOrderedEnds : ℕ → List ℤ → Type 0
AreOrderedEnds n [] = Unit {0}
AreOrderedEnds n (lo ∷ []) = ⊥
AreOrderedEnds n (lo ∷ hi ∷ rest) = Within n lo × Within n hi × (lo ≤ℤ hi) × AreOrderedEnds n rest

-- the counts of line 1
abbrev pub AreCounts : ℕ → List ℤ → Type 0
AreCounts grid (points ∷ targets ∷ cells ∷ entries ∷ []) =
    IsNumberBelow (suc (most_points grid)) points × IsNumberBelow (suc (most_points grid)) targets × IsNumberBelow (suc (most_cells grid)) cells × IsNumberBelow (suc (most_entries grid)) entries
AreCounts grid _ = ⊥

pub record IsHead (h : Head) : Type 0 where
  pub version : IsVersion h.version
  pub order : IsOrderOf (grid_of h.version) h.order
  pub counts : AreCounts (grid_of h.version) (head_counts h)

-- The numbers of a line of a section. A node has its parent, level, column and row; a point the node it is in; an entry its two nodes; a local row its radius first.
-- A target has the ends of its box, and then its counts.
abbrev pub AreInRange : Head → Section → ℕ → List ℤ → Type 0
AreInRange h Node n (parent ∷ level ∷ i ∷ j ∷ []) =
    IsParentOf n parent × IsNumberBelow (suc (grid_of h.version)) level × IsNumberBelow (2 ^ unsigned_abs level) i × IsNumberBelow (2 ^ unsigned_abs level) j
AreInRange h At n (at ∷ []) = IsNumberBelow h.cells at
AreInRange h Multipole n ends = AreOrderedEnds most_given_multipole ends
AreInRange h Entry n (b ∷ c ∷ []) = IsNumberBelow h.cells b × IsNumberBelow h.cells c
AreInRange h Local n [] = Unit {0}
AreInRange h Local n (radius ∷ ends) = IsNumberBelow (suc most_given_local) radius × AreOrderedEnds most_given_local ends
AreInRange h Target n ends = AreOrderedEnds (most_given_target (grid_of h.version)) ends
AreInRange h End n [] = Unit {0}
AreInRange h _ n _ = ⊥

-- the k-th line behind line 1 has the form and the range of its place
pub record IsLineAt (h : Head) (k : ℕ) (l : Line) : Type 0 where
  pub form : IsFormOf h (place_of h k).section l
  pub range : AreInRange h (place_of h k).section (place_of h k).number l.numbers

-- and so have these lines, from the k-th on
abbrev pub AreLinesFrom : Head → ℕ → List Line → Type 0
AreLinesFrom h k [] = Unit {0}
AreLinesFrom h k (l ∷ ls) = IsLineAt h k l × AreLinesFrom h (suc k) ls
