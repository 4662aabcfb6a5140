-- Words that only the contracts of private functions cite.
use Rattle.std.specs.Prelude.{ℕ, ◌≡◌, ℤ, pos, List, [], ◌∷◌, length, map, take}
use Rattle.number_text.specs.Numbers.{cut_wide}
use Rattle.cert_text.specs.declared.form.Found.{Found}
use Rattle.cert_text.specs.declared.section.Section.{Section}
use Rattle.cert_text.specs.declared.section.Section.TheVariants.{Node, At, Multipole, Entry, Local, Target, End}
use Rattle.cert_text.specs.Lines.{Line, Head}
use Rattle.cert_text.specs.Faults.{BeginWith}

-- a head that says no more than the order
abbrev pub form_head : ℕ → Head
form_head order = record { version = 0; order = order; points = 0; targets = 0; cells = 0; entries = 0 }

-- The text begins with a line of this form, which was read as this, with its numbers in the first places.
pub record IsFound (Form : Line → Type 0) (text : List ℕ) (numbers : List ℤ) (found : Found) : Type 0 where
  pub line : Line
  pub form : Form line
  pub begin : BeginWith text line found.rest.now
  pub word_is : found.word.now ≡ line.word
  pub count_is : found.count ≡ length line.numbers
  pub numbers_are : take found.count numbers ≡ map cut_wide line.numbers

-- the text begins with no line of this form
abbrev pub HasNone : (Line → Type 0) → List ℕ → Type 0
HasNone Form text = (l : Line) (rest : List ℕ) → Form l → BeginWith text l rest → ⊥

-- ---- line 1
-- four counts as the numbers of a line
abbrev pub counts_read : ℕ × ℕ × ℕ × ℕ → List ℤ
counts_read counts = pos counts.0 ∷ pos counts.1 ∷ pos counts.2 ∷ pos counts.3 ∷ []

-- how many lines are kept of a section: the last line says nothing
abbrev pub lines_due : Head → Section → ℕ
lines_due h Node = h.cells
lines_due h At = h.points
lines_due h Multipole = h.cells
lines_due h Entry = h.entries
lines_due h Local = h.cells
lines_due h Target = h.targets
lines_due h End = 0
