-- A certificate that grows line by line.
use Rattle.std.specs.Prelude.{ℕ, ◌≡◌, ◌<◌, ℤ, Bool, true, false, List, [], ◌∷◌, ◌++◌, length, map, Result, Ok, Err}
use Rattle.number_text.specs.Numbers.{cut_wide}
use Rattle.cert_text.specs.declared.section.Section.{Section}
use Rattle.cert_text.specs.declared.section.Section.TheVariants.{Node, At, Multipole, Entry, Local, Target, End}
use Rattle.cert_text.specs.Lines.{Line, Head}
use Rattle.cert_text.specs.Sections.{IsHead, IsFormOf, AreInRange}
use Rattle.cert_text.specs.Certificate.{Certificate, nth_line}

-- line 1 and no other
abbrev pub no_lines : Head → Certificate
no_lines h = record { head = h; nodes = []; ats = []; multipoles = []; entries = []; locals = []; targets = [] }

-- the lines of a section
abbrev pub lines_in : Section → Certificate → List Line
lines_in Node c = c.nodes
lines_in At c = c.ats
lines_in Multipole c = c.multipoles
lines_in Entry c = c.entries
lines_in Local c = c.locals
lines_in Target c = c.targets
lines_in End c = []

-- one line more at the end of a section
abbrev pub added : Section → Line → Certificate → Certificate
added Node l c = record { head = c.head; nodes = c.nodes ++ l ∷ []; ats = c.ats; multipoles = c.multipoles; entries = c.entries; locals = c.locals; targets = c.targets }
added At l c = record { head = c.head; nodes = c.nodes; ats = c.ats ++ l ∷ []; multipoles = c.multipoles; entries = c.entries; locals = c.locals; targets = c.targets }
added Multipole l c = record { head = c.head; nodes = c.nodes; ats = c.ats; multipoles = c.multipoles ++ l ∷ []; entries = c.entries; locals = c.locals; targets = c.targets }
added Entry l c = record { head = c.head; nodes = c.nodes; ats = c.ats; multipoles = c.multipoles; entries = c.entries ++ l ∷ []; locals = c.locals; targets = c.targets }
added Local l c = record { head = c.head; nodes = c.nodes; ats = c.ats; multipoles = c.multipoles; entries = c.entries; locals = c.locals ++ l ∷ []; targets = c.targets }
added Target l c = record { head = c.head; nodes = c.nodes; ats = c.ats; multipoles = c.multipoles; entries = c.entries; locals = c.locals; targets = c.targets ++ l ∷ [] }
added End l c = c

-- each line of a section has its form, and the range of its number
abbrev pub IsSection : Head → Section → List Line → Type 0
IsSection h section ls = (n : ℕ) → n < length ls → IsFormOf h section (nth_line ls n) × AreInRange h section n (nth_line ls n).numbers

-- line 1 is one, and the lines of all sections are right
pub record IsStored (c : Certificate) : Type 0 where
  pub head_is : IsHead c.head
  pub nodes_are : IsSection c.head Node c.nodes
  pub ats_are : IsSection c.head At c.ats
  pub multipoles_are : IsSection c.head Multipole c.multipoles
  pub entries_are : IsSection c.head Entry c.entries
  pub locals_are : IsSection c.head Local c.locals
  pub targets_are : IsSection c.head Target c.targets

-- the word and the numbers are what is read of a line of the form of a section
pub record IsLineRead (h : Head) (section : Section) (word : List ℕ) (numbers : List ℤ) (l : Line) : Type 0 where
  pub form : IsFormOf h section l
  pub word_is : l.word ≡ word
  pub numbers_are : numbers ≡ map cut_wide l.numbers

-- a line is added where it is in range, and refused where it isn't; at want of memory all stays as it was
abbrev pub Pushes : {E : Type 0} → Section → Line → Certificate → Certificate → Result Bool E → Type 0
Pushes section l old new (Ok true) = AreInRange old.head section (length (lines_in section old)) l.numbers × (new ≡ added section l old)
Pushes section l old new (Ok false) = (AreInRange old.head section (length (lines_in section old)) l.numbers → ⊥) × (new ≡ old)
Pushes section l old new (Err _) = new ≡ old
